-- A walk in the middle of a sequence.
use Rattle.std.proofs.Common.{◌≡◌, ◌+◌, List, ◌++◌, map, sym, ap, ◌∙◌, None}
use Rattle.std.proofs.lemmas.List.{append_assoc}
use Rattle.vsi_syntax.specs.Tree as tree
use Rattle.vsi_scope.specs.declared.resolution.ScopeError.{ScopeError}
use Rattle.vsi_scope.proofs.Faulty.{fault_behind, refuses_first, refuses_as}
use Rattle.vsi_scope.proofs.Walks.{same_names, declared_after}
use Rattle.vsi_syntax.specs.declared.tree.Stmt.{Stmt}
use Rattle.vsi_syntax.specs.CommandView as syntax
use Rattle.vsi_scope.specs.declared.program.Cmd.{Cmd}
use Rattle.vsi_scope.specs.declared.resolution.command.Resolver.{Resolver}
use Rattle.vsi_scope.specs.View.{command}
use Rattle.vsi_scope.specs.Places.{commands_of, all_commands}
use Rattle.vsi_lattice.specs.Known.{Known}
use Rattle.vsi_scope.specs.Faults.{marks, all_marks, locals, first_fault, Refuses}
use Rattle.vsi_scope.specs.Resolving.{variable, variables, all_variables}
use Rattle.vsi_scope.specs.Resolver.{Walked, IsWithin, scope_of, declared}

-- A walk has passed the first commands of a sequence.
pub record Midway (known : Known) (old now : Resolver) (before out : List Cmd) (all rest : List Stmt) : Type 0 where
  pub within : IsWithin now
  pub globals : now.names.globals.keys ≡ old.names.globals.keys
  pub locals : now.names.locals.items ≡ old.names.locals.items
  pub letvars : map variable old.letvars.items ++ all_variables known (syntax.body_of all)
      ≡ map variable now.letvars.items ++ all_variables known (syntax.body_of rest)
  pub body : map command before ++ all_commands (scope_of old) (syntax.body_of all) ≡ map command out ++ all_commands
      (scope_of old) (syntax.body_of rest)
  pub faults : first_fault known (all_marks (scope_of old) (declared old) (syntax.body_of all)) ≡ first_fault known
      (all_marks (scope_of old) (declared now) (syntax.body_of rest))

-- One more command is passed.
pub midway_more : (known : Known) (old mid new : Resolver) (before b a : List Cmd) (all rest after : List Stmt)
    (c : tree.Command) → syntax.body_of rest ≡ tree.Then c (syntax.body_of after) →
    Midway known old mid before b all rest → Walked mid new b a (variables known c) (commands_of (scope_of mid) c) →
    first_fault known (marks (scope_of mid) (declared mid) c) ≡ None → Midway known old new before a all after
midway_more known old mid new before b a all rest after c r m w none =
    let s : scope_of mid ≡ scope_of old = same_names old.names mid.names m.globals m.locals in
    record {
      within = w.within;
      globals = w.globals ∙ m.globals;
      locals = w.locals ∙ m.locals;
      letvars =
          m.letvars ∙ ap (λ x. map variable mid.letvars.items ++ all_variables known x) r
          ∙ sym (append_assoc (map variable mid.letvars.items) (variables known c)
          (all_variables known (syntax.body_of after))) ∙ ap (λ l. l ++ all_variables known
          (syntax.body_of after)) (sym w.letvars);
      body =
          m.body ∙ ap (λ x. map command b ++ all_commands (scope_of old) x) r
          ∙ sym (append_assoc (map command b) (commands_of (scope_of old) c) (all_commands (scope_of old)
          (syntax.body_of after))) ∙ ap (λ l. l ++ all_commands (scope_of old) (syntax.body_of after)) (ap (λ z. map
          command b ++ commands_of z c) (sym s) ∙ sym w.body);
      faults = m.faults ∙ ap (λ x. first_fault known (all_marks (scope_of old) (declared mid) x)) r
          ∙ fault_behind known (marks (scope_of old) (declared mid) c) (all_marks (scope_of old)
          (declared mid + locals c) (syntax.body_of after)) (ap
          (λ z. first_fault known (marks z (declared mid) c)) (sym s) ∙ none)
          ∙ ap (λ n. first_fault known (all_marks (scope_of old) n (syntax.body_of after)))
          (sym (declared_after known c mid new w));
    }

-- A fault of the next command is the first of the sequence.
pub midway_refuses : (known : Known) (old mid : Resolver) (before b : List Cmd) (all rest after : List Stmt)
    (c : tree.Command) (e : ScopeError) → syntax.body_of rest ≡ tree.Then c (syntax.body_of after) →
    Midway known old mid before b all rest → Refuses e (first_fault known (marks (scope_of mid) (declared mid) c)) →
    Refuses e (first_fault known (all_marks (scope_of old) (declared old) (syntax.body_of all)))
midway_refuses known old mid before b all rest after c e r m p =
    let s : scope_of mid ≡ scope_of old = same_names old.names mid.names m.globals m.locals in
    let q : Refuses e (first_fault known (marks (scope_of old) (declared mid) c)) = rw (← s) p in
    refuses_as e _ _ (λ x f. m.faults ∙ ap (λ y. first_fault known (all_marks (scope_of old) (declared mid) y)) r ∙ f)
    (refuses_first e known (marks (scope_of old) (declared mid) c) (all_marks (scope_of old)
    (declared mid + locals c) (syntax.body_of after)) q)
