-- The effect of a walk over each form of command.
use Rattle.std.proofs.Common.{◌≡◌, ℕ, suc, ◌+◌, ◌-◌, ◌<◌, List, [], ◌∷◌, ◌++◌, length, map, take, Vec, Global, Bor, refl, sym, ap, ◌∙◌, arith, Option, length-append}
use Rattle.std.proofs.lemmas.List.{map-append, length-map, append_assoc}
use Rattle.std.proofs.Math.Seq.{take-append_seam}
use Rattle.vsi_syntax.specs.Tree as tree
use Rattle.vsi_scope.specs.declared.program.Ex.{Ex}
use Rattle.vsi_scope.specs.declared.program.Cmd.{Cmd}
use Rattle.vsi_scope.specs.declared.program.Cmd.TheViews as view
use Rattle.vsi_scope.specs.declared.resolved.Entry.{Entry}
use Rattle.vsi_scope.specs.declared.resolution.whole.Names.{Names}
use Rattle.vsi_scope.specs.declared.resolution.command.Resolver.{Resolver}
use Rattle.vsi_scope.specs.Language.{Command, If, While, Letvar}
use Rattle.vsi_scope.specs.View.{expression, command, sequence}
use Rattle.vsi_scope.specs.Scopes.{in_sequence}
use Rattle.vsi_scope.specs.Places.{expression_of, commands_of}
use Rattle.vsi_lattice.specs.Known.{Known}
use Rattle.vsi_scope.specs.Faults.{marks, locals, all_locals, first_fault}
use Rattle.vsi_scope.specs.Resolving.{Variable, variable, variables, all_variables, class_of, letvar}
use Rattle.vsi_scope.specs.Resolver.{Walked, IsWithin, names_of, scope_of, declared, fault_in}
use Rattle.vsi_scope.proofs.Views.{command_If, command_While, command_Letvar, sequence_in}

-- The commands of a branch whose walk began empty.
branch : {old new : Resolver} {vs : List Variable} (cs : List Command) (b : List Cmd) (v : Vec Cmd Global) → b ≡ [] →
    Walked old new b v.items vs cs → sequence v.items ≡ in_sequence cs
branch cs b v e w = sequence_in v.items ∙ ap in_sequence (w.body ∙ ap (λ l. map command l ++ cs) e)

mutual
  -- A command has as many variables as letvars.
  pub counted : (known : Known) (c : tree.Command) → length (variables known c) ≡ locals c
  counted known (tree.Assign x e) = refl
  counted known (tree.If e c d) =
      omega (arith, length-append (variables known c) (variables known d), counted known c, counted known d)
  counted known (tree.While e c) = counted known c
  counted known (tree.Letvar x class e c) = ap suc (counted known c)
  counted known (tree.Block b) = all_counted known b

  -- A sequence has as many variables as letvars.
  pub all_counted : (known : Known) (b : tree.Body) → length (all_variables known b) ≡ all_locals b
  all_counted known tree.Done = refl
  all_counted known (tree.Then c rest) =
      omega (
        arith,
        length-append (variables known c) (all_variables known rest),
        counted known c,
        all_counted known rest,
      )

-- Equal globals and letvars give equal names in scope.
pub same_names : (old new : Names) → new.globals.keys ≡ old.globals.keys → new.locals.items ≡ old.locals.items →
    names_of new ≡ names_of old
same_names old new g l =
    ap (λ ns. map (λ (x : Bor (List ℕ)). x.now) ns ++ map (λ x. x.now) new.locals.items) g
    ∙ ap (λ ns. map (λ (x : Bor (List ℕ)). x.now) old.globals.keys ++ map (λ (x : Bor (List ℕ)). x.now) ns) l

-- A walk restores the names in scope.
scope_after : (old new : Resolver) {b a : List Cmd} {vs : List Variable} {cs : List Command} →
    Walked old new b a vs cs → scope_of new ≡ scope_of old
scope_after old new w = same_names old.names new.names w.globals w.locals

-- A walk over a command has declared its letvars.
pub declared_after : (known : Known) (c : tree.Command) (old new : Resolver) {b a : List Cmd} {cs : List Command} →
    Walked old new b a (variables known c) cs → declared new ≡ declared old + locals c
declared_after known c old new w =
    omega (
      arith,
      ap length w.globals,
      ap length w.letvars,
      length-map new.letvars.items variable,
      length-map old.letvars.items variable,
      length-append (map variable old.letvars.items) (variables known c),
      counted known c,
    )

-- After a walk over a command, the next is judged with the same names in scope and with the command's letvars declared.
pub judged_after : (known : Known) (c d : tree.Command) (old new : Resolver) {b a : List Cmd} {cs : List Command} →
    Walked old new b a (variables known c) cs →
    fault_in known new d ≡ first_fault known (marks (scope_of old) (declared old + locals c) d)
judged_after known c d old new w =
    ap (λ s. first_fault known (marks s (declared new) d)) (scope_after old new w)
    ∙ ap (λ n. first_fault known (marks (scope_of old) n d)) (declared_after known c old new w)

-- One more command is the last of the list.
put : (before after : List Cmd) (c : Cmd) (d : Command) → after ≡ before ++ c ∷ [] → command c ≡ d →
    map command after ≡ map command before ++ d ∷ []
put before after c d e f =
    ap (map command) e ∙ map-append command before (c ∷ []) ∙ ap (λ x. map command before ++ x ∷ []) f

-- Walks over a guard and two branches are a walk over a choice.
pub chosen : (known : Known) (old w₁ w₂ : Resolver) (guard : Ex) (e : tree.Tree) (c d : tree.Command) (b₁ b₂ : List Cmd)
    (firsts others : Vec Cmd Global) (before after : List Cmd) → expression guard ≡ expression_of (scope_of old) e →
    b₁ ≡ [] →
    b₂ ≡ [] → Walked old w₁ b₁ firsts.items (variables known c) (commands_of (scope_of old) c) →
    Walked w₁ w₂ b₂ others.items (variables known d) (commands_of (scope_of w₁) d) →
    after ≡ before ++ view.If guard firsts others ∷ [] →
    Walked old w₂ before after (variables known (tree.If e c d)) (commands_of (scope_of old) (tree.If e c d))
chosen known old w₁ w₂ guard e c d b₁ b₂ firsts others before after g e₁ e₂ first second pushed = record {
  within = second.within;
  globals = second.globals ∙ first.globals;
  locals = second.locals ∙ first.locals;
  letvars =
      second.letvars ∙ ap (λ l. l ++ variables known d) first.letvars ∙ append_assoc (map variable old.letvars.items)
      (variables known c) (variables known d);
  body = put before after (view.If guard firsts others) _ pushed
      (command_If guard firsts others
      ∙ ap (λ p. If p (sequence firsts.items) (sequence others.items)) g
      ∙ ap (λ x. If (expression_of (scope_of old) e) x (sequence others.items))
      (branch (commands_of (scope_of old) c) b₁ firsts e₁ first)
      ∙ ap (λ x. If (expression_of (scope_of old) e) (in_sequence (commands_of (scope_of old) c)) x)
      (branch (commands_of (scope_of w₁) d) b₂ others e₂ second ∙ ap (λ s. in_sequence (commands_of s d))
      (scope_after old w₁ first)));
}

-- Walks over a guard and a body are a walk over a loop.
pub looped : (known : Known) (old w : Resolver) (guard : Ex) (e : tree.Tree) (c : tree.Command) (b : List Cmd)
    (body : Vec Cmd Global) (before after : List Cmd) → expression guard ≡ expression_of (scope_of old) e → b ≡ [] →
    Walked old w b body.items (variables known c) (commands_of (scope_of old) c) →
    after ≡ before ++ view.While guard body ∷ [] →
    Walked old w before after (variables known (tree.While e c)) (commands_of (scope_of old) (tree.While e c))
looped known old w guard e c b body before after g e₁ inner pushed = record {
  within = inner.within;
  globals = inner.globals;
  locals = inner.locals;
  letvars = inner.letvars;
  body = put before after (view.While guard body) _ pushed
      (command_While guard body
      ∙ ap (λ p. While p (sequence body.items)) g
      ∙ ap (While (expression_of (scope_of old) e)) (branch (commands_of (scope_of old) c) b body e₁ inner));
}

-- A variable has come into scope.
pub record Entered (old new : Resolver) (x : Bor (List ℕ)) (v : Variable) : Type 0 where
  pub globals : new.names.globals.keys ≡ old.names.globals.keys
  pub locals : new.names.locals.items ≡ old.names.locals.items ++ x ∷ []
  pub letvars : map variable new.letvars.items ≡ map variable old.letvars.items ++ v ∷ []

-- The name that came into scope is the last.
entered_scope : (old new : Resolver) (x : Bor (List ℕ)) (v : Variable) → Entered old new x v →
    scope_of new ≡ scope_of old ++ x.now ∷ []
entered_scope old new x v w =
    let globals = map (λ (y : Bor (List ℕ)). y.now) old.names.globals.keys in
    ap (λ ns. map (λ (y : Bor (List ℕ)). y.now) ns ++ map (λ y. y.now) new.names.locals.items) w.globals
    ∙ ap (λ ns. globals ++ ns) (ap (map (λ (y : Bor (List ℕ)). y.now)) w.locals
    ∙ map-append (λ (y : Bor (List ℕ)). y.now) old.names.locals.items (x ∷ []))
    ∙ sym (append_assoc globals (map (λ y. y.now) old.names.locals.items) (x.now ∷ []))

-- One more variable is declared.
entered_declared : (old new : Resolver) (x : Bor (List ℕ)) (v : Variable) → Entered old new x v →
    declared new ≡ suc (declared old)
entered_declared old new x v w =
    omega (
      arith,
      ap length w.globals,
      ap length w.letvars,
      length-map new.letvars.items variable,
      length-map old.letvars.items variable,
      length-append (map variable old.letvars.items) (v ∷ []),
    )

-- Inside a letvar, a command is judged with its name last in scope and with one more declaration.
pub judged_inside : (known : Known) (c : tree.Command) (old new : Resolver) (x : Bor (List ℕ)) (v : Variable) →
    Entered old new x v →
    fault_in known new c ≡ first_fault known (marks (scope_of old ++ x.now ∷ []) (suc (declared old)) c)
judged_inside known c old new x v w =
    ap (λ s. first_fault known (marks s (declared new) c)) (entered_scope old new x v w)
    ∙ ap (λ n. first_fault known (marks (scope_of old ++ x.now ∷ []) n c)) (entered_declared old new x v w)

-- The number of declarations stays within the limit if one more fits.
pub entered_within : (old new : Resolver) (x : Bor (List ℕ)) (v : Variable) → Entered old new x v → IsWithin old →
    declared old < 1024 → IsWithin new
entered_within old new x v w i lt = record {
  locals =
      omega (
        arith,
        entered_declared old new x v w,
        ap length w.globals,
        ap length w.locals,
        length-append old.names.locals.items (x ∷ []),
        i.locals,
      );
  few = omega (arith, entered_declared old new x v w, lt);
}

-- Walks over an initial value and a body, with the name in scope for the body alone, are a walk over a letvar.
pub localled : (known : Known) (old w₁ w₂ new : Resolver) (x : Bor (List ℕ)) (named : tree.Named)
    (class : Option tree.Named) (initial : Ex) (e : tree.Tree) (c : tree.Command) (b : List Cmd)
    (body : Vec Cmd Global) (before after : List Cmd)
    → IsWithin old
    → Entered old w₁ x (letvar named (class_of known class))
    → x.now ≡ named.text
    → expression initial ≡ expression_of (scope_of old) e → b ≡ []
    → Walked w₁ w₂ b body.items (variables known c) (commands_of (scope_of w₁) c)
    → new.names.locals.items ≡ take (length w₂.names.locals.items - 1) w₂.names.locals.items
    → new.names.globals.keys ≡ w₂.names.globals.keys → new.letvars ≡ w₂.letvars
    → after ≡ before ++ view.Letvar initial body ∷ []
    → Walked old new before after (variables known (tree.Letvar named class e c)) (commands_of (scope_of old)
    (tree.Letvar named class e c))
localled known old w₁ w₂ new x named class initial e c b body before after i entered text g e₁ inner locals globals
    letvars pushed =
    let all : w₂.names.locals.items ≡ old.names.locals.items ++ x ∷ [] = inner.locals ∙ entered.locals in
    let n : length w₂.names.locals.items - 1 ≡ length old.names.locals.items = omega (
      arith,
      ap length all,
      length-append old.names.locals.items (x ∷ []),
    ) in
    let same : new.names.locals.items ≡ old.names.locals.items = locals
    ∙ ap (λ k. take k w₂.names.locals.items) n ∙ ap (take (length old.names.locals.items)) all
    ∙ take-append_seam old.names.locals.items (x ∷ []) in
    let scope : scope_of w₁ ≡ scope_of old ++ named.text ∷ [] = entered_scope old w₁ x _ entered
    ∙ ap (λ t. scope_of old ++ t ∷ []) text in
    record {
      within = record {
        locals =
            omega (
              arith,
              ap length same,
              i.locals,
              ap (λ (v : Vec Entry Global). length v.items) letvars,
              ap length inner.letvars,
              ap length entered.letvars,
              length-map w₂.letvars.items variable,
              length-map w₁.letvars.items variable,
              length-map old.letvars.items variable,
              length-append (map variable w₁.letvars.items) (variables known c),
              length-append (map variable old.letvars.items) (letvar named (class_of known class) ∷ []),
            );
        few = omega (arith, ap length globals, ap (λ (v : Vec Entry Global). length v.items) letvars, inner.within.few);
      };
      globals = globals ∙ inner.globals ∙ entered.globals;
      locals = same;
      letvars =
          ap (λ (v : Vec Entry Global). map variable v.items) letvars ∙ inner.letvars
          ∙ ap (λ l. l ++ variables known c) entered.letvars ∙ append_assoc (map variable old.letvars.items) _
          (variables known c);
      body = put before after (view.Letvar initial body) _ pushed
          (command_Letvar initial body
          ∙ ap (λ p. Letvar p (sequence body.items)) g
          ∙ ap (Letvar (expression_of (scope_of old) e)) (branch (commands_of (scope_of w₁) c) b body e₁ inner
          ∙ ap (λ s. in_sequence (commands_of s c)) scope));
    }
