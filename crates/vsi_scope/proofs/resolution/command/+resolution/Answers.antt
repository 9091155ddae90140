use Rattle.std.proofs.Common.{option_map, rules, ◌≡◌, ℕ, ◌<◌, ◌-◌, ◌∙◌, sym, map, length, take, refl, ap, arith}
use Rattle.std.proofs.lemmas.List.{map_push}
use Rattle.vsi_scope.specs.declared.resolution.command.Resolver.{Resolver}
use Rattle.vsi_syntax.specs.View.{tree}
use Rattle.vsi_syntax.specs.CommandView as syntax
use Rattle.vsi_lattice.specs.LatticeView.{class_named}
use Rattle.vsi_scope.specs.Resolving.{class_of, letvar, variable}
use Rattle.vsi_scope.specs.Resolver.{scope_of, declared}
use Rattle.vsi_syntax.specs.Tree as t
use Rattle.vsi_syntax.specs.View.{named}
use Rattle.vsi_syntax.specs.declared.tree.Stmt.{the_lemmas}
use Rattle.vsi_scope.proofs.Faulty.{judged_passed}
use Rattle.vsi_scope.proofs.Forms.{choose_guard, choose_first, choose_second, choose_none, loop_guard, loop_body, loop_none, local_value, local_body, local_none}
use Rattle.vsi_scope.proofs.Weights.{weight, one_weight, from_place}
use Rattle.vsi_scope.proofs.Walks.{chosen, looped, localled, Entered, entered_within, judged_after, judged_inside}
use Rattle.vsi_scope.proofs.Midway.{midway_more, midway_refuses}
use Rattle.vsi_scope.proofs.resolution.command.+resolution.Goals as goal
use Rattle.vsi_scope.proofs.resolution.command.+resolution.Goals.{local-Else-len-ge-MAX_DECLARATIONS, local-In_ok-push}

-- One more declaration fits if the limit isn't reached.
few : (u : ℕ) (c : local-Else-len-ge-MAX_DECLARATIONS u) → declared c.args.resolver.now < 1024
few u c =
    let n : c.len-2.result ≡ length c.args.resolver.now.letvars.items = search rules in
    omega (arith, c.if-len-ge-MAX_DECLARATIONS.false, c.len.ensures.len, n)

-- The state with the letvar in scope.
abbrev opened : (u : ℕ) → local-In_ok-push u → Resolver
opened u c = record {
  names = record { globals = c.args.resolver.now.names.globals; locals = c.push-2.new.self };
  letvars = c.push.new.self;
}

-- The letvar has come into scope.
entered : (u : ℕ) (c : local-In_ok-push u) →
    Entered c.args.resolver.now (opened u c) c.args.x.text
    (letvar (named c.args.x) (class_of (class_named c.args.lattice.now) (option_map named c.args.written)))
entered u c = record {
  globals = refl;
  locals = c.in_ok-push.ensures.items;
  letvars = rw (sym c.in_ok-class.ensures.value) (ap (map variable) c.in-Ok.ensures.items
      ∙ map_push variable c.args.resolver.now.letvars.items _);
}

pub sequence-statement-requires : goal.sequence-statement-requires
sequence-statement-requires u c = (
  omega (
    arith,
    c.decreases,
    one_weight c.args.body.now c.loop-c.c-index c.c-item.result c.loop-c-test.true c.c-item.is,
  ),
  c.loop-c.invariant.within,
)

pub sequence-loop-c-preserved : goal.sequence-loop-c-preserved
sequence-loop-c-preserved u c =
    midway_more (class_named c.args.lattice.now) _ _ _ _ _ _ _ _ _ _
    (from_place c.args.body.now c.loop-c.c-index c.c-item.result c.loop-c-test.true c.c-item.is)
    c.loop-c.invariant c.in_ok-statement.ensures.value c.in_ok-statement.ensures.fault

pub sequence-returns-in_err-statement-clause-fault : goal.sequence-returns-in_err-statement-clause-fault
sequence-returns-in_err-statement-clause-fault u c =
    judged_passed c.from_residual.result _ _ c.from_residual.ensures.1
    (midway_refuses (class_named c.args.lattice.now) _ _ _ _ _ _ _ _ c.in_err-statement.field-0.0
    (from_place c.args.body.now c.loop-c.c-index c.c-item.result c.loop-c-test.true c.c-item.is)
    c.loop-c.invariant c.in_err-statement.ensures.fault)

pub statement-local-requires : goal.statement-local-requires
statement-local-requires u c =
    let e : syntax.command c.args.c.now ≡ t.Letvar (named c.in-Letvar.x) (option_map named c.in-Letvar.class)
    (tree c.in-Letvar.e) (syntax.command c.deref-in-Letvar.result.now) = search (rules, the_lemmas) in
    (omega (arith, c.decreases, ap weight e), c.requires)

pub statement-sequence-requires : goal.statement-sequence-requires
statement-sequence-requires u c =
    let e : syntax.command c.args.c.now ≡ t.Block (syntax.body_of c.deref-in-Block.result.now) = search
    (rules, the_lemmas) in
    (omega (arith, c.decreases, ap weight e), c.requires)

pub local-statement-requires : goal.local-statement-requires
local-statement-requires u c =
    let at = goal.at.local-statement-requires u c in (
      omega (arith, c.decreases),
      entered_within _ _ _ _ (entered u at.In_ok-push) c.requires (few u at.Else-len-ge-MAX_DECLARATIONS),
    )

pub local-returns-in_err-value-clause-fault : goal.local-returns-in_err-value-clause-fault
local-returns-in_err-value-clause-fault u c =
    let known = class_named c.args.lattice.now in
    let r = c.args.resolver.now in
    let at = goal.at.local-returns-in_err-value-clause-fault u c in
    judged_passed c.from_residual-in_err-value.result _ _ c.from_residual-in_err-value.ensures.1
    (local_value known (scope_of r) (declared r) (tree c.args.e.now) (syntax.command c.args.c.now)
    (named c.args.x) (option_map named c.args.written)
    c.in_err-value.field-0.0 (few u at.Else-len-ge-MAX_DECLARATIONS) c.in_ok-class.ensures.fault
    (c.in_err-value.ensures.fault known))

pub local-returns-in_err-statement-clause-fault : goal.local-returns-in_err-statement-clause-fault
local-returns-in_err-statement-clause-fault u c =
    let known = class_named c.args.lattice.now in
    let r = c.args.resolver.now in
    let at = goal.at.local-returns-in_err-statement-clause-fault u c in
    let judged = judged_inside known (syntax.command c.args.c.now) r _ _ _ (entered u at.In_ok-push) in
    judged_passed c.from_residual-in_err-statement.result _ _ c.from_residual-in_err-statement.ensures.1
    (local_body known (scope_of r) (declared r) (tree c.args.e.now) (syntax.command c.args.c.now)
    (named c.args.x) (option_map named c.args.written)
    c.in_err-statement.field-0.0 (few u at.Else-len-ge-MAX_DECLARATIONS) c.in_ok-class.ensures.fault
    (c.in_ok-value.ensures.fault known) (rw judged at c.in_err-statement.ensures.fault))

pub local-returns-clause-fault : goal.local-returns-clause-fault
local-returns-clause-fault u c =
    let known = class_named c.args.lattice.now in
    let r = c.args.resolver.now in
    let at = goal.at.local-returns-clause-fault u c in
    let judged = judged_inside known (syntax.command c.args.c.now) r _ _ _ (entered u at.In_ok-push) in
    local_none known (scope_of r) (declared r) (tree c.args.e.now) (syntax.command c.args.c.now)
    (named c.args.x) (option_map named c.args.written)
    (few u at.Else-len-ge-MAX_DECLARATIONS) c.in_ok-class.ensures.fault (c.in_ok-value.ensures.fault known)
    (rw judged at c.in_ok-statement.ensures.fault)

pub local-returns-clause-value : goal.local-returns-clause-value
local-returns-clause-value u c =
    let at = goal.at.local-returns-clause-value u c in
    let w = c.statement.new.resolver in
    let closed : Resolver = record {
      names = record { globals = w.names.globals; locals = c.truncate.new.self };
      letvars = w.letvars;
    } in
    let cut : closed.names.locals.items ≡ take (length w.names.locals.items - 1) w.names.locals.items =
    c.truncate.ensures.items ∙ ap (λ n. take (n - 1) w.names.locals.items) (search rules) in
    localled (class_named c.args.lattice.now) c.args.resolver.now (opened u at.In_ok-push) w closed
    c.args.x.text (named c.args.x) (option_map named c.args.written) c.in_ok-value.value
    (tree c.args.e.now) (syntax.command c.args.c.now) _ _ _ _ c.requires (entered u at.In_ok-push) refl
    c.in_ok-value.ensures.value c.new-body.ensures.items c.in_ok-statement.ensures.value cut refl refl
    c.in_ok-push-2.ensures.items

pub statement-statement-requires : goal.statement-statement-requires
statement-statement-requires u c =
    let e : syntax.command c.args.c.now ≡ t.If (tree c.in-If.e) (syntax.command c.in-If.first.value)
    (syntax.command c.in-If.second.value) = search (rules, the_lemmas) in
    (omega (arith, c.decreases, ap weight e, ap (λ s. weight (syntax.command s)) c.deref.ensures), c.requires)

pub statement-statement-requires-in-If : goal.statement-statement-requires-in-If
statement-statement-requires-in-If u c =
    let e : syntax.command c.args.c.now ≡ t.If (tree c.in-If.e) (syntax.command c.in-If.first.value)
    (syntax.command c.in-If.second.value) = search (rules, the_lemmas) in
    let walked = rw (c.deref.ensures) at c.in_ok-statement-in-If.ensures.value in
    (omega (arith, c.decreases, ap weight e, ap (λ s. weight (syntax.command s)) c.deref-in-If.ensures), walked.within)

pub statement-statement-requires-in-While : goal.statement-statement-requires-in-While
statement-statement-requires-in-While u c =
    let e : syntax.command c.args.c.now ≡ t.While (tree c.in-While.e) (syntax.command c.in-While.c.value) =
    search (rules, the_lemmas) in
    (omega (arith, c.decreases, ap weight e, ap (λ s. weight (syntax.command s)) c.deref-in-While.ensures), c.requires)

pub statement-returns-in_err-guard-in-If-clause-fault : goal.statement-returns-in_err-guard-in-If-clause-fault
statement-returns-in_err-guard-in-If-clause-fault u c =
    let e : syntax.command c.args.c.now ≡ t.If (tree c.in-If.e) (syntax.command c.in-If.first.value)
    (syntax.command c.in-If.second.value) = search (rules, the_lemmas) in
    let known = class_named c.args.lattice.now in
    let r = c.args.resolver.now in
    rw e (judged_passed c.from_residual-in_err-guard-in-If.result _ _ c.from_residual-in_err-guard-in-If.ensures.1
    (choose_guard known (scope_of r) (declared r) (tree c.in-If.e) (syntax.command c.in-If.first.value)
    (syntax.command c.in-If.second.value)
    c.in_err-guard-in-If.field-0.0 (c.in_err-guard-in-If.ensures.fault known)))

pub statement-returns-in_err-statement-in-If-clause-fault : goal.statement-returns-in_err-statement-in-If-clause-fault
statement-returns-in_err-statement-in-If-clause-fault u c =
    let e : syntax.command c.args.c.now ≡ t.If (tree c.in-If.e) (syntax.command c.in-If.first.value)
    (syntax.command c.in-If.second.value) = search (rules, the_lemmas) in
    let known = class_named c.args.lattice.now in
    let r = c.args.resolver.now in
    let fault = rw (c.deref.ensures) at c.in_err-statement-in-If.ensures.fault in
    rw e (judged_passed c.from_residual-in_err-statement-in-If.result _ _
    c.from_residual-in_err-statement-in-If.ensures.1
    (choose_first known (scope_of r) (declared r) (tree c.in-If.e) (syntax.command c.in-If.first.value)
    (syntax.command c.in-If.second.value)
    c.in_err-statement-in-If.field-0.0 (c.in_ok-guard-in-If.ensures.fault known) fault))

pub statement-returns-in_err-statement-in-If-2-clause-fault : goal.statement-returns-in_err-statement-in-If-2-clause-fault
statement-returns-in_err-statement-in-If-2-clause-fault u c =
    let e : syntax.command c.args.c.now ≡ t.If (tree c.in-If.e) (syntax.command c.in-If.first.value)
    (syntax.command c.in-If.second.value) = search (rules, the_lemmas) in
    let known = class_named c.args.lattice.now in
    let r = c.args.resolver.now in
    let first = rw (c.deref.ensures) at c.in_ok-statement-in-If.ensures.fault in
    let walked = rw (c.deref.ensures) at c.in_ok-statement-in-If.ensures.value in
    let judged = judged_after known (syntax.command c.in-If.first.value) (syntax.command c.in-If.second.value) r _
    walked in
    let fault = rw (c.deref-in-If.ensures) at c.in_err-statement-in-If-2.ensures.fault in
    rw e (judged_passed c.from_residual-in_err-statement-in-If-2.result _ _
    c.from_residual-in_err-statement-in-If-2.ensures.1
    (choose_second known (scope_of r) (declared r) (tree c.in-If.e) (syntax.command c.in-If.first.value)
    (syntax.command c.in-If.second.value)
    c.in_err-statement-in-If-2.field-0.0 (c.in_ok-guard-in-If.ensures.fault known) first (rw judged at fault)))

pub statement-returns-in_ok-push-in-If-clause-fault : goal.statement-returns-in_ok-push-in-If-clause-fault
statement-returns-in_ok-push-in-If-clause-fault u c =
    let e : syntax.command c.args.c.now ≡ t.If (tree c.in-If.e) (syntax.command c.in-If.first.value)
    (syntax.command c.in-If.second.value) = search (rules, the_lemmas) in
    let known = class_named c.args.lattice.now in
    let r = c.args.resolver.now in
    let first = rw (c.deref.ensures) at c.in_ok-statement-in-If.ensures.fault in
    let walked = rw (c.deref.ensures) at c.in_ok-statement-in-If.ensures.value in
    let judged = judged_after known (syntax.command c.in-If.first.value) (syntax.command c.in-If.second.value) r _
    walked in
    let second = rw (c.deref-in-If.ensures) at c.in_ok-statement-in-If-2.ensures.fault in
    rw e (choose_none known (scope_of r) (declared r) (tree c.in-If.e) (syntax.command c.in-If.first.value)
    (syntax.command c.in-If.second.value)
    (c.in_ok-guard-in-If.ensures.fault known) first (rw judged at second))

pub statement-returns-in_ok-push-in-If-clause-value : goal.statement-returns-in_ok-push-in-If-clause-value
statement-returns-in_ok-push-in-If-clause-value u c =
    let e : syntax.command c.args.c.now ≡ t.If (tree c.in-If.e) (syntax.command c.in-If.first.value)
    (syntax.command c.in-If.second.value) = search (rules, the_lemmas) in
    let first = rw (c.deref.ensures) at c.in_ok-statement-in-If.ensures.value in
    let second = rw (c.deref-in-If.ensures) at c.in_ok-statement-in-If-2.ensures.value in
    rw e (chosen (class_named c.args.lattice.now) c.args.resolver.now c.statement.new.resolver
    c.statement-in-If.new.resolver c.in_ok-guard-in-If.guard (tree c.in-If.e) (syntax.command c.in-If.first.value)
    (syntax.command c.in-If.second.value) _ _ _ _ _ _ c.in_ok-guard-in-If.ensures.value
    c.new-yes.ensures.items c.new-no.ensures.items first second c.in_ok-push-in-If.ensures.items)

pub statement-returns-in_err-guard-in-While-clause-fault : goal.statement-returns-in_err-guard-in-While-clause-fault
statement-returns-in_err-guard-in-While-clause-fault u c =
    let e : syntax.command c.args.c.now ≡ t.While (tree c.in-While.e) (syntax.command c.in-While.c.value) =
    search (rules, the_lemmas) in
    let known = class_named c.args.lattice.now in
    let r = c.args.resolver.now in
    rw e (judged_passed c.from_residual-in_err-guard-in-While.result _ _
    c.from_residual-in_err-guard-in-While.ensures.1
    (loop_guard known (scope_of r) (declared r) (tree c.in-While.e) (syntax.command c.in-While.c.value)
    c.in_err-guard-in-While.field-0.0 (c.in_err-guard-in-While.ensures.fault known)))

pub statement-returns-in_err-statement-in-While-clause-fault : goal.statement-returns-in_err-statement-in-While-clause-fault
statement-returns-in_err-statement-in-While-clause-fault u c =
    let e : syntax.command c.args.c.now ≡ t.While (tree c.in-While.e) (syntax.command c.in-While.c.value) =
    search (rules, the_lemmas) in
    let known = class_named c.args.lattice.now in
    let r = c.args.resolver.now in
    let fault = rw (c.deref-in-While.ensures) at c.in_err-statement-in-While.ensures.fault in
    rw e (judged_passed c.from_residual-in_err-statement-in-While.result _ _
    c.from_residual-in_err-statement-in-While.ensures.1
    (loop_body known (scope_of r) (declared r) (tree c.in-While.e) (syntax.command c.in-While.c.value)
    c.in_err-statement-in-While.field-0.0 (c.in_ok-guard-in-While.ensures.fault known) fault))

pub statement-returns-in_ok-push-in-While-clause-fault : goal.statement-returns-in_ok-push-in-While-clause-fault
statement-returns-in_ok-push-in-While-clause-fault u c =
    let e : syntax.command c.args.c.now ≡ t.While (tree c.in-While.e) (syntax.command c.in-While.c.value) =
    search (rules, the_lemmas) in
    let known = class_named c.args.lattice.now in
    let r = c.args.resolver.now in
    let fault = rw (c.deref-in-While.ensures) at c.in_ok-statement-in-While.ensures.fault in
    rw e (loop_none known (scope_of r) (declared r) (tree c.in-While.e) (syntax.command c.in-While.c.value)
    (c.in_ok-guard-in-While.ensures.fault known) fault)

pub statement-returns-in_ok-push-in-While-clause-value : goal.statement-returns-in_ok-push-in-While-clause-value
statement-returns-in_ok-push-in-While-clause-value u c =
    let e : syntax.command c.args.c.now ≡ t.While (tree c.in-While.e) (syntax.command c.in-While.c.value) =
    search (rules, the_lemmas) in
    let walked = rw (c.deref-in-While.ensures) at c.in_ok-statement-in-While.ensures.value in
    rw e (looped (class_named c.args.lattice.now) c.args.resolver.now c.statement-in-While.new.resolver
    c.in_ok-guard-in-While.guard (tree c.in-While.e) (syntax.command c.in-While.c.value) _ _ _ _
    c.in_ok-guard-in-While.ensures.value c.new-body.ensures.items walked c.in_ok-push-in-While.ensures.items)
