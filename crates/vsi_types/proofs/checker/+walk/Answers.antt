use Rattle.std.proofs.Common.{◌≡◌, ◌∙◌, sym, ap, subst, arith, rules, refl, length}
use Rattle.std.specs.Prelude.{⊤, Ok, Err}
use Rattle.std.proofs.lemmas.List.{length_push, get_or_read}
use Rattle.std.proofs.lemmas.List.Elements.{All-nil}
use Rattle.vsi_scope.specs.View.{command, expression, sequence}
use Rattle.vsi_scope.specs.Language.{HasPlaces, Assign}
use Rattle.vsi_scope.specs.declared.program.Cmd.{the_lemmas}
use Rattle.vsi_types.specs.declared.rules.Rule.TheVariants as typing
use Rattle.vsi_types.specs.Steps.{reads, guarded}
use Rattle.vsi_types.specs.Checking.{FlowsJudged}
use Rattle.vsi_types.specs.Walker.{walker_place}
use Rattle.vsi_types.specs.Security.{class_of}
use Rattle.vsi_types.proofs.Places.{reached_more, reached_asks, reached_fault, reached_all, assign_reads, assign_guards, assign_ok}
use Rattle.vsi_types.proofs.Visiting.{seen_if, seen_while, seen_letvar, choice_guard, choice_first, choice_second, choice_judged, loop_guard, loop_body, loop_judged, letvar_value, letvar_inside, letvar_judged}
use Rattle.vsi_types.proofs.checker.+walk.Goals as goal

pub check_commands-loop-c-init : goal.check_commands-loop-c-init
check_commands-loop-c-init g t c = (refl, refl, omega arith, λ names. All-nil _)

pub check_commands-check_command-requires : goal.check_commands-check_command-requires
check_commands-check_command-requires g t c κs within =
    let L = g.C.Classes.lattice c.args.lattice.now in
    let asks = reached_asks L c.args.profile (class_of L c.args.table.now) (walker_place c.args.walk.now)
    (walker_place c.loop-c.walk) c.args.body.now c.loop-c.c-index c.c-item.result c.loop-c-test.true c.c-item.is
    c.loop-c.invariant c.requires.places c.requires.limit in
    (search (rules, the_lemmas), (within, (c.requires.classes, asks)))

pub check_commands-returns-in_err-check_command : goal.check_commands-returns-in_err-check_command
check_commands-returns-in_err-check_command g t c =
    let L = g.C.Classes.lattice c.args.lattice.now in
    reached_fault L c.args.profile (class_of L c.args.table.now) _ _ _ _ _ _ c.loop-c-test.true
    c.c-item.is c.loop-c.invariant _ _ c.from_residual.ensures.1 c.in_err-check_command.ensures

pub check_commands-loop-c-preserved : goal.check_commands-loop-c-preserved
check_commands-loop-c-preserved g t c =
    let L = g.C.Classes.lattice c.args.lattice.now in
    reached_more L c.args.profile (class_of L c.args.table.now) _ _ _ _ _ _ c.loop-c-test.true
    c.c-item.is c.loop-c.invariant c.in_ok-check_command.ensures

pub check_commands-returns : goal.check_commands-returns
check_commands-returns g t c =
    let L = g.C.Classes.lattice c.args.lattice.now in
    reached_all L c.args.profile (class_of L c.args.table.now) _ _ c.args.body.now c.loop-c.c-index (omega arith)
    c.loop-c.invariant

pub check_command-returns-in_err-check_reads-in-Assign : goal.check_command-returns-in_err-check_reads-in-Assign
check_command-returns-in_err-check_reads-in-Assign g t c =
    let e : command c.args.c.now ≡ Assign c.in-Assign.loc c.in-Assign.span (expression c.in-Assign.value) =
    search (rules, the_lemmas) in
    let p = rw e at c.requires.places in
    let L = g.C.Classes.lattice c.args.lattice.now in
    let cls = class_of L c.args.table.now in
    let at = get_or_read c.args.walk.now.scope.items c.in-Assign.loc c.index-target.result.now p.0
    c.index-target.ensures 0 in
    let h = subst (λ s. FlowsJudged {U = ⊤} L cls c.index-target.result.now
    (guarded typing.Assign (reads s (expression c.in-Assign.value))) (Err c.in_err-check_reads-in-Assign.field-0.0))
    c.deref.ensures.value c.in_err-check_reads-in-Assign.ensures in
    rw e (assign_reads L c.args.profile cls (walker_place c.args.walk.now) _ c.in-Assign.loc c.in-Assign.span
    (expression c.in-Assign.value) c.index-target.result.now at c.in_err-check_reads-in-Assign.field-0.0
    c.from_residual.result c.from_residual.ensures.1 h)

pub check_command-returns-in_err-check_guards-in-Assign : goal.check_command-returns-in_err-check_guards-in-Assign
check_command-returns-in_err-check_guards-in-Assign g t c =
    let e : command c.args.c.now ≡ Assign c.in-Assign.loc c.in-Assign.span (expression c.in-Assign.value) =
    search (rules, the_lemmas) in
    let p = rw e at c.requires.places in
    let L = g.C.Classes.lattice c.args.lattice.now in
    let cls = class_of L c.args.table.now in
    let at = get_or_read c.args.walk.now.scope.items c.in-Assign.loc c.index-target.result.now p.0
    c.index-target.ensures 0 in
    let h = subst (λ s. FlowsJudged {U = ⊤} L cls c.index-target.result.now
    (guarded typing.Assign (reads s (expression c.in-Assign.value))) (Ok tt))
    c.deref.ensures.value c.in_ok-check_reads-in-Assign.ensures in
    let k = subst (λ gs. FlowsJudged {U = ⊤} L cls c.index-target.result.now gs
    (Err c.in_err-check_guards-in-Assign.field-0.0)) c.deref-in-Assign.ensures.value
    c.in_err-check_guards-in-Assign.ensures in
    rw e (assign_guards L c.args.profile cls (walker_place c.args.walk.now) _ c.in-Assign.loc c.in-Assign.span
    (expression c.in-Assign.value) c.index-target.result.now at c.in_err-check_guards-in-Assign.field-0.0
    c.from_residual-in_err-check_guards-in-Assign.result c.from_residual-in_err-check_guards-in-Assign.ensures.1 h k)

pub check_command-returns-in_ok-check_guards-in-Assign : goal.check_command-returns-in_ok-check_guards-in-Assign
check_command-returns-in_ok-check_guards-in-Assign g t c =
    let e : command c.args.c.now ≡ Assign c.in-Assign.loc c.in-Assign.span (expression c.in-Assign.value) =
    search (rules, the_lemmas) in
    let p = rw e at c.requires.places in
    let L = g.C.Classes.lattice c.args.lattice.now in
    let cls = class_of L c.args.table.now in
    let at = get_or_read c.args.walk.now.scope.items c.in-Assign.loc c.index-target.result.now p.0
    c.index-target.ensures 0 in
    let h = subst (λ s. FlowsJudged {U = ⊤} L cls c.index-target.result.now
    (guarded typing.Assign (reads s (expression c.in-Assign.value))) (Ok tt))
    c.deref.ensures.value c.in_ok-check_reads-in-Assign.ensures in
    let k = subst (λ gs. FlowsJudged {U = ⊤} L cls c.index-target.result.now gs (Ok tt))
    c.deref-in-Assign.ensures.value c.in_ok-check_guards-in-Assign.ensures in
    rw e (
      refl,
      refl,
      omega arith,
      assign_ok L c.args.profile cls (walker_place c.args.walk.now) (walker_place c.args.walk.now)
          c.in-Assign.loc c.in-Assign.span (expression c.in-Assign.value) c.index-target.result.now at h k,
    )

pub check_command-returns-in_err-check_choice-in-If : goal.check_command-returns-in_err-check_choice-in-If
check_command-returns-in_err-check_choice-in-If g t c =
    let e = seen_if _ _ _ _ _ _ c.in-If.is refl refl in
    let yes = c.in-If.yes.items in
    let no = c.in-If.no.items in
    let h = rw (c.deref-in-If-2.ensures.value, c.deref-in-If-3.ensures.value) at c.in_err-check_choice-in-If.ensures in
    rw e (choice_guard (g.C.Classes.lattice c.args.lattice.now) c.args.profile c.args.table.now c.args.walk.now
    c.in-If.guard yes no _ c.deref-in-If.ensures.value
    _ _ _ c.from_residual-in_err-check_choice-in-If.ensures.1 h)

pub check_command-check_commands-requires : goal.check_command-check_commands-requires
check_command-check_commands-requires g t c κs within =
    let e = seen_if _ _ _ _ _ _ c.in-If.is refl refl in
    let yes = c.in-If.yes.items in
    let no = c.in-If.no.items in
    let places = rw e at c.requires.places in
    let limit = rw e at c.requires.limit in
    (search (rules, the_lemmas), (within, (c.requires.classes, (rw (c.deref-in-If-5.ensures.value) places.1, rw (c.deref-in-If-5.ensures.value) (omega (arith, limit))))))

pub check_command-returns-in_err-check_commands-in-If : goal.check_command-returns-in_err-check_commands-in-If
check_command-returns-in_err-check_commands-in-If g t c =
    let e = seen_if _ _ _ _ _ _ c.in-If.is refl refl in
    let yes = c.in-If.yes.items in
    let no = c.in-If.no.items in
    let up = rw (c.deref-in-If-2.ensures.value, c.deref-in-If-3.ensures.value) at c.in_ok-check_choice-in-If.ensures in
    let h = rw (c.deref-in-If-5.ensures.value) at c.in_err-check_commands-in-If.ensures in
    rw e (choice_first (g.C.Classes.lattice c.args.lattice.now) c.args.profile c.args.table.now c.args.walk.now
    c.in-If.guard yes no _ c.deref-in-If.ensures.value
    up _ c.deref-in-If-4.ensures.value _ c.in_ok-put_reads-in-If.ensures
    _ _ _ c.from_residual-in_err-check_commands-in-If.ensures.1 h)

pub check_command-check_commands-requires-in-If : goal.check_command-check_commands-requires-in-If
check_command-check_commands-requires-in-If g t c κs within =
    let e = seen_if _ _ _ _ _ _ c.in-If.is refl refl in
    let yes = c.in-If.yes.items in
    let no = c.in-If.no.items in
    let first = rw (c.deref-in-If-5.ensures.value) at c.in_ok-check_commands-in-If.ensures in
    let places = rw e at c.requires.places in
    let limit = rw e at c.requires.limit in
    let p = subst (λ s. HasPlaces (length s) (sequence no)) (sym first.0) places.2 in
    let l = first.2 in
    (search (rules, the_lemmas), (within, (c.requires.classes, (rw (c.deref-in-If-6.ensures.value) p, rw (c.deref-in-If-6.ensures.value) (omega (arith, limit, l))))))

pub check_command-returns-in_err-check_commands-in-If-2 : goal.check_command-returns-in_err-check_commands-in-If-2
check_command-returns-in_err-check_commands-in-If-2 g t c =
    let e = seen_if _ _ _ _ _ _ c.in-If.is refl refl in
    let yes = c.in-If.yes.items in
    let no = c.in-If.no.items in
    let up = rw (c.deref-in-If-2.ensures.value, c.deref-in-If-3.ensures.value) at c.in_ok-check_choice-in-If.ensures in
    let first = rw (c.deref-in-If-5.ensures.value) at c.in_ok-check_commands-in-If.ensures in
    let h = rw (c.deref-in-If-6.ensures.value) at c.in_err-check_commands-in-If-2.ensures in
    rw e (choice_second (g.C.Classes.lattice c.args.lattice.now) c.args.profile c.args.table.now c.args.walk.now
    c.in-If.guard yes no _ c.deref-in-If.ensures.value
    up _ c.deref-in-If-4.ensures.value _ c.in_ok-put_reads-in-If.ensures
    _ _ _ _ c.from_residual-in_err-check_commands-in-If-2.ensures.1 first h)

pub check_command-returns-in_ok-check_commands-in-If-2 : goal.check_command-returns-in_ok-check_commands-in-If-2
check_command-returns-in_ok-check_commands-in-If-2 g t c =
    let e = seen_if _ _ _ _ _ _ c.in-If.is refl refl in
    let yes = c.in-If.yes.items in
    let no = c.in-If.no.items in
    let up = rw (c.deref-in-If-2.ensures.value, c.deref-in-If-3.ensures.value) at c.in_ok-check_choice-in-If.ensures in
    let first = rw (c.deref-in-If-5.ensures.value) at c.in_ok-check_commands-in-If.ensures in
    let second = rw (c.deref-in-If-6.ensures.value) at c.in_ok-check_commands-in-If-2.ensures in
    rw e (choice_judged (g.C.Classes.lattice c.args.lattice.now) c.args.profile c.args.table.now c.args.walk.now
    c.in-If.guard yes no _ c.deref-in-If.ensures.value
    up _ c.deref-in-If-4.ensures.value _ c.in_ok-put_reads-in-If.ensures
    _ _ _ c.len-outside.result (search rules) c.truncate.ensures.items first second)

pub check_command-returns-in_err-check_loop-in-While : goal.check_command-returns-in_err-check_loop-in-While
check_command-returns-in_err-check_loop-in-While g t c =
    let e = seen_while _ _ _ _ c.in-While.is refl in
    let body = c.in-While.body.items in
    rw e (loop_guard (g.C.Classes.lattice c.args.lattice.now) c.args.profile c.args.table.now c.args.walk.now
    c.in-While.guard body _ c.deref-in-While.ensures.value _ _ _
    c.from_residual-in_err-check_loop-in-While.ensures.1 c.in_err-check_loop-in-While.ensures)

pub check_command-check_commands-requires-in-While : goal.check_command-check_commands-requires-in-While
check_command-check_commands-requires-in-While g t c κs within =
    let e = seen_while _ _ _ _ c.in-While.is refl in
    let body = c.in-While.body.items in
    let places = rw e at c.requires.places in
    let limit = rw e at c.requires.limit in
    (search (rules, the_lemmas), (within, (c.requires.classes, (rw (c.deref-in-While-3.ensures.value) places.1, rw (c.deref-in-While-3.ensures.value) limit))))

pub check_command-returns-in_err-check_commands-in-While : goal.check_command-returns-in_err-check_commands-in-While
check_command-returns-in_err-check_commands-in-While g t c =
    let e = seen_while _ _ _ _ c.in-While.is refl in
    let body = c.in-While.body.items in
    let h = rw (c.deref-in-While-3.ensures.value) at c.in_err-check_commands-in-While.ensures in
    rw e (loop_body (g.C.Classes.lattice c.args.lattice.now) c.args.profile c.args.table.now c.args.walk.now
    c.in-While.guard body _ c.deref-in-While.ensures.value c.in_ok-check_loop-in-While.ensures
    _ c.deref-in-While-2.ensures.value _ c.in_ok-put_reads-in-While.ensures _ _ _
    c.from_residual-in_err-check_commands-in-While.ensures.1 h)

pub check_command-returns-in_ok-check_commands-in-While : goal.check_command-returns-in_ok-check_commands-in-While
check_command-returns-in_ok-check_commands-in-While g t c =
    let e = seen_while _ _ _ _ c.in-While.is refl in
    let body = c.in-While.body.items in
    let h = rw (c.deref-in-While-3.ensures.value) at c.in_ok-check_commands-in-While.ensures in
    rw e (loop_judged (g.C.Classes.lattice c.args.lattice.now) c.args.profile c.args.table.now c.args.walk.now
    c.in-While.guard body _ c.deref-in-While.ensures.value c.in_ok-check_loop-in-While.ensures
    _ c.deref-in-While-2.ensures.value _ c.in_ok-put_reads-in-While.ensures _ _
    c.len-outside-in-While.result (search rules) c.truncate-in-While.ensures.items h)

pub check_command-returns-in_err-check_reads-in-Letvar : goal.check_command-returns-in_err-check_reads-in-Letvar
check_command-returns-in_err-check_reads-in-Letvar g t c =
    let e = seen_letvar _ _ _ _ c.in-Letvar.is refl in
    let body = c.in-Letvar.body.items in
    rw e (letvar_value (g.C.Classes.lattice c.args.lattice.now) c.args.profile c.args.table.now c.args.walk.now
    c.in-Letvar.value body _ c.deref-in-Letvar.ensures.value _ _ _
    c.from_residual-in_err-check_reads-in-Letvar.ensures.1 c.in_err-check_reads-in-Letvar.ensures)

pub check_command-check_commands-requires-in-Letvar : goal.check_command-check_commands-requires-in-Letvar
check_command-check_commands-requires-in-Letvar g t c κs within =
    let e = seen_letvar _ _ _ _ c.in-Letvar.is refl in
    let body = c.in-Letvar.body.items in
    let places = rw e at c.requires.places in
    let limit = rw e at c.requires.limit in
    let n = ap length c.in_ok-push-in-Letvar.ensures.items ∙ length_push c.args.walk.now.scope.items c.args.walk.now.next in
    let p = subst (λ k. HasPlaces k (sequence body)) (sym n) places.1 in
    (search (rules, the_lemmas), (within, (c.requires.classes, (rw (c.deref-in-Letvar-2.ensures.value) p, rw (c.deref-in-Letvar-2.ensures.value) (omega (arith, limit))))))

pub check_command-returns-in_err-check_commands-in-Letvar : goal.check_command-returns-in_err-check_commands-in-Letvar
check_command-returns-in_err-check_commands-in-Letvar g t c =
    let e = seen_letvar _ _ _ _ c.in-Letvar.is refl in
    let body = c.in-Letvar.body.items in
    let h = rw (c.deref-in-Letvar-2.ensures.value) at c.in_err-check_commands-in-Letvar.ensures in
    rw e (letvar_inside (g.C.Classes.lattice c.args.lattice.now) c.args.profile c.args.table.now c.args.walk.now
    c.in-Letvar.value body _ c.deref-in-Letvar.ensures.value
    c.in_ok-check_reads-in-Letvar.ensures
    _ c.in_ok-push-in-Letvar.ensures.items _ _ _ c.from_residual-in_err-check_commands-in-Letvar.ensures.1 h)

pub check_command-returns-in_ok-check_commands-in-Letvar : goal.check_command-returns-in_ok-check_commands-in-Letvar
check_command-returns-in_ok-check_commands-in-Letvar g t c =
    let e = seen_letvar _ _ _ _ c.in-Letvar.is refl in
    let body = c.in-Letvar.body.items in
    let h = rw (c.deref-in-Letvar-2.ensures.value) at c.in_ok-check_commands-in-Letvar.ensures in
    rw e (letvar_judged (g.C.Classes.lattice c.args.lattice.now) c.args.profile c.args.table.now c.args.walk.now
    c.in-Letvar.value body _ c.deref-in-Letvar.ensures.value
    c.in_ok-check_reads-in-Letvar.ensures
    _ c.in_ok-push-in-Letvar.ensures.items _ _ c.len-outside-in-Letvar.result (search rules)
    c.truncate-in-Letvar.ensures.items h)
