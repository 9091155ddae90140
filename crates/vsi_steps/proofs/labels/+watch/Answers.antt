use Rattle.std.proofs.Common.{rules, subst, refl, arith, ap, ◌∙◌, ◌+◌, ◌++◌, ◌∷◌, [], w64, of_z}
use Rattle.std.proofs.lemmas.Int.{to_z-of_z}
use Rattle.std.proofs.lemmas.List.{get_or_read}
use Rattle.std.specs.Prelude.{Ok, Err}
use Rattle.vsi_scope.specs.declared.program.Cmd.{the_lemmas}
use Rattle.vsi_scope.specs.Language.{letvars}
use Rattle.vsi_scope.specs.Meaning.{value}
use Rattle.vsi_scope.specs.View.{command, expression, sequence}
use Rattle.vsi_types.specs.Security.{class_of}
use Rattle.vsi_types.proofs.Visiting.{seen_if, seen_while, seen_letvar}
use Rattle.vsi_steps.specs.Labels.{HasLabel, labelling}
use Rattle.vsi_steps.specs.Watched.{Held, held, IsReady, Guarded}
use Rattle.vsi_steps.proofs.Marks.{labels_lattice}
use Rattle.vsi_steps.proofs.Watching.{choice_stop, loop_stop, at_command, at_end, small, zero_word, watched_err, taken, leads_watched, leads_yes, leads_no, leads_end, first_ready, leads_stop, leads_next, loop_ends, turn_stop, leads_turn, letvar_stop, letvar_done}
use Rattle.vsi_steps.proofs.labels.+watch.Goals as goal

pub run_one-run_while-requires : goal.run_one-run_while-requires
run_one-run_while-requires g t c κs within =
    let e = seen_while _ _ _ _ c.in-While.is c.deref-in-While.ensures.value in
    (search (rules, the_lemmas), (within, rw e at c.requires))

pub run_one-run_letvar-requires : goal.run_one-run_letvar-requires
run_one-run_letvar-requires g t c κs within =
    let e = seen_letvar _ _ _ _ c.in-Letvar.is c.deref-in-Letvar.ensures.value in
    (search (rules, the_lemmas), (within, rw e at c.requires))

pub run_one-returns-in-Assign : goal.run_one-returns-in-Assign
run_one-returns-in-Assign g t c =
    let L = labelling c.args.rule (g.C.Classes.lattice c.args.lattice.now) in
    rw (ap command c.in-Assign.is) (c.run_assign.ensures (class_of L c.args.classes.now) c.args.next)

pub run_one-returns-in-While : goal.run_one-returns-in-While
run_one-returns-in-While g t c =
    rw (seen_while _ _ _ _ c.in-While.is c.deref-in-While.ensures.value) c.run_while.ensures

pub run_one-returns-in-Letvar : goal.run_one-returns-in-Letvar
run_one-returns-in-Letvar g t c =
    rw (seen_letvar _ _ _ _ c.in-Letvar.is c.deref-in-Letvar.ensures.value) c.run_letvar.ensures

pub run_all-returns-in_err-run_one : goal.run_all-returns-in_err-run_one
run_all-returns-in_err-run_one g t c =
    let R = c.args.rule in
    let L = labelling R (g.C.Classes.lattice c.args.lattice.now) in
    let C = class_of L c.args.classes.now in
    let e = at_command c.args.body.now c.loop-c.c-index c.c-item.result c.loop-c-test.true c.c-item.is in
    watched_err R L C _ _ _ _ _ (held c.run_one.new.state) _ _ c.from_residual.ensures.1
    (leads_stop R L C _ _ _ _ _ _ _ _ _ _ e c.loop-c.invariant (held c.run_one.new.state) _
    c.in_err-run_one.ensures)

pub run_all-loop-c-preserved : goal.run_all-loop-c-preserved
run_all-loop-c-preserved g t c =
    let R = c.args.rule in
    let L = labelling R (g.C.Classes.lattice c.args.lattice.now) in
    let C = class_of L c.args.classes.now in
    let laws = labels_lattice R _ (g.met.C.Classes.laws c.args.lattice.now) in
    let e = at_command c.args.body.now c.loop-c.c-index c.c-item.result c.loop-c-test.true c.c-item.is in
    leads_next R L C laws _ _ _ _ _ _ _ _ _ _
    (held c.run_one.new.state) (c.loop-c.next + c.letvars_in-next.result) _ e c.loop-c.invariant c.in_ok-run_one.ensures
    (small (letvars (command c.c-item.result)) c.loop-c.next c.letvars_in-next.result c.letvars_in-next.ensures
    (first_ready R L C _ _ _ _ _ _ _ _ _ _ e c.loop-c.invariant).few)

pub run_all-returns : goal.run_all-returns
run_all-returns g t c =
    let R = c.args.rule in
    let L = labelling R (g.C.Classes.lattice c.args.lattice.now) in
    let C = class_of L c.args.classes.now in
    leads_end R L C _ _ _ _ _ _ _ _ _
    (at_end c.args.body.now c.loop-c.c-index c.loop-c-test.false) c.loop-c.invariant

pub run_one-returns-in_err-read-in-If : goal.run_one-returns-in_err-read-in-If
run_one-returns-in_err-read-in-If g t c =
    let R = c.args.rule in
    let L = labelling R (g.C.Classes.lattice c.args.lattice.now) in
    let C = class_of L c.args.classes.now in
    let a = held c.args.state.now in
    let e = expression c.in-If.guard in
    rw (seen_if _ _ _ _ _ _ c.in-If.is refl refl)
    (watched_err R L C _ _ _ _ _ a _ _ c.from_residual-in_err-read-in-If.ensures.1
    (choice_stop R L C _ _ e _ _ a a _
    (subst (λ y. Guarded R L c.args.counter y e (Err c.in_err-read-in-If.field-0.0)) c.deref.ensures.value
    c.in_err-read-in-If.ensures)))

pub run_one-run_all-requires : goal.run_one-run_all-requires
run_one-run_all-requires g t c κs within =
    let R = c.args.rule in
    let L = labelling R (g.C.Classes.lattice c.args.lattice.now) in
    let C = class_of L c.args.classes.now in
    let a = held c.args.state.now in
    let e = expression c.in-If.guard in
    let p = sequence c.deref-then-value-ne0.result.now in
    let q = sequence c.in-If.no.items in
    let is = seen_if _ _ _ _ _ _ c.in-If.is c.deref-then-value-ne0.ensures.value refl in
    let r = subst (λ y. IsReady L c.args.classes.now c.args.counter c.args.next y a) is c.requires in
    let l = leads_yes R L C c.args.classes.now c.args.counter c.args.next c.in_ok-read-in-If.read
    c.join-inside.result e p q c.value.result a c.in_ok-state-in-If.field-0 r
    (taken _ _ _ _ c.checked_sub.ensures c.in_ok-state-in-If.ensures.value)
    (subst (λ y. Guarded R L c.args.counter y e (Ok c.in_ok-read-in-If.read)) c.deref.ensures.value
    c.in_ok-read-in-If.ensures) c.join-inside.ensures
    (c.value.ensures ∙ ap (value e) c.deref-in-If.ensures.value) (λ z. c.if-value-ne0.true (ap (of_z w64) z)) in
    (search (rules, the_lemmas), (within, l.ready))

pub run_one-returns-then-value-ne0 : goal.run_one-returns-then-value-ne0
run_one-returns-then-value-ne0 g t c =
    let R = c.args.rule in
    let L = labelling R (g.C.Classes.lattice c.args.lattice.now) in
    let C = class_of L c.args.classes.now in
    let a = held c.args.state.now in
    let e = expression c.in-If.guard in
    let p = sequence c.deref-then-value-ne0.result.now in
    let q = sequence c.in-If.no.items in
    let is = seen_if _ _ _ _ _ _ c.in-If.is c.deref-then-value-ne0.ensures.value refl in
    let r = subst (λ y. IsReady L c.args.classes.now c.args.counter c.args.next y a) is c.requires in
    let l = leads_yes R L C c.args.classes.now c.args.counter c.args.next c.in_ok-read-in-If.read
    c.join-inside.result e p q c.value.result a c.in_ok-state-in-If.field-0 r
    (taken _ _ _ _ c.checked_sub.ensures c.in_ok-state-in-If.ensures.value)
    (subst (λ y. Guarded R L c.args.counter y e (Ok c.in_ok-read-in-If.read)) c.deref.ensures.value
    c.in_ok-read-in-If.ensures) c.join-inside.ensures
    (c.value.ensures ∙ ap (value e) c.deref-in-If.ensures.value) (λ z. c.if-value-ne0.true (ap (of_z w64) z)) in
    rw is (leads_watched R L C _ _ _ _ _ _ _ _ _ _ c.run_all.result l c.run_all.ensures)

pub run_one-overflow_add-second : goal.run_one-overflow_add-second
run_one-overflow_add-second g t c =
    let L = labelling c.args.rule (g.C.Classes.lattice c.args.lattice.now) in
    let a = held c.args.state.now in
    let p = sequence c.deref-in-If-2.result.now in
    let is = seen_if _ _ _ _ _ _ c.in-If.is c.deref-in-If-2.ensures.value refl in
    let r = subst (λ y. IsReady L c.args.classes.now c.args.counter c.args.next y a) is c.requires in
    let few = small (letvars p) c.args.next c.letvars.result c.letvars.ensures (omega (arith, r.few)) in
    omega (arith, few, r.few)

pub run_one-run_all-requires-in-If : goal.run_one-run_all-requires-in-If
run_one-run_all-requires-in-If g t c κs within =
    let R = c.args.rule in
    let L = labelling R (g.C.Classes.lattice c.args.lattice.now) in
    let C = class_of L c.args.classes.now in
    let a = held c.args.state.now in
    let e = expression c.in-If.guard in
    let p = sequence c.deref-in-If-2.result.now in
    let q = sequence c.deref-in-If-3.result.now in
    let is = seen_if _ _ _ _ _ _ c.in-If.is c.deref-in-If-2.ensures.value c.deref-in-If-3.ensures.value in
    let r = subst (λ y. IsReady L c.args.classes.now c.args.counter c.args.next y a) is c.requires in
    let l = leads_no R L C c.args.classes.now c.args.counter c.args.next
    (c.args.next + c.letvars.result) c.in_ok-read-in-If.read c.join-inside.result e p q c.value.result a
    c.in_ok-state-in-If.field-0
    (small (letvars p) c.args.next c.letvars.result c.letvars.ensures (omega (arith, r.few))) r
    (taken _ _ _ _ c.checked_sub.ensures c.in_ok-state-in-If.ensures.value)
    (subst (λ y. Guarded R L c.args.counter y e (Ok c.in_ok-read-in-If.read)) c.deref.ensures.value
    c.in_ok-read-in-If.ensures) c.join-inside.ensures
    (c.value.ensures ∙ ap (value e) c.deref-in-If.ensures.value)
    (zero_word c.value.result (search rules) c.if-value-ne0.false) in
    (search (rules, the_lemmas), (within, l.ready))

pub run_one-returns-else-value-ne0 : goal.run_one-returns-else-value-ne0
run_one-returns-else-value-ne0 g t c =
    let R = c.args.rule in
    let L = labelling R (g.C.Classes.lattice c.args.lattice.now) in
    let C = class_of L c.args.classes.now in
    let a = held c.args.state.now in
    let e = expression c.in-If.guard in
    let p = sequence c.deref-in-If-2.result.now in
    let q = sequence c.deref-in-If-3.result.now in
    let is = seen_if _ _ _ _ _ _ c.in-If.is c.deref-in-If-2.ensures.value c.deref-in-If-3.ensures.value in
    let r = subst (λ y. IsReady L c.args.classes.now c.args.counter c.args.next y a) is c.requires in
    let l = leads_no R L C c.args.classes.now c.args.counter c.args.next
    (c.args.next + c.letvars.result) c.in_ok-read-in-If.read c.join-inside.result e p q c.value.result a
    c.in_ok-state-in-If.field-0
    (small (letvars p) c.args.next c.letvars.result c.letvars.ensures (omega (arith, r.few))) r
    (taken _ _ _ _ c.checked_sub.ensures c.in_ok-state-in-If.ensures.value)
    (subst (λ y. Guarded R L c.args.counter y e (Ok c.in_ok-read-in-If.read)) c.deref.ensures.value
    c.in_ok-read-in-If.ensures) c.join-inside.ensures
    (c.value.ensures ∙ ap (value e) c.deref-in-If.ensures.value)
    (zero_word c.value.result (search rules) c.if-value-ne0.false) in
    rw is (leads_watched R L C _ _ _ _ _ _ _ _ _ _ c.run_all-in-If.result l c.run_all-in-If.ensures)

pub run_letvar-returns-in_err-run_all : goal.run_letvar-returns-in_err-run_all
run_letvar-returns-in_err-run_all g t c =
    let R = c.args.rule in
    let L = labelling R (g.C.Classes.lattice c.args.lattice.now) in
    let C = class_of L c.args.classes.now in
    let laws = labels_lattice R _ (g.met.C.Classes.laws c.args.lattice.now) in
    let e = expression c.args.e.now in
    let word = c.in_ok-push.ensures.items
    ∙ ap (λ y. c.args.state.now.words.items ++ y ∷ []) (to_z-of_z w64 c.value-word.result (search rules)) in
    watched_err R L C _ _ _ _ _ (held c.run_all.new.state) _ _
    c.from_residual-in_err-run_all.ensures.1
    (letvar_stop R L laws c.args.classes.now c.args.counter c.args.next e
    (sequence c.args.body.now) c.value-word.result c.label.result c.join-first.result c.index-classes-next.result
    (held c.args.state.now) c.push.new.self.items c.push-2.new.self.items c.push-3.new.self.items c.in_ok-state.field-0
    c.requires (taken _ _ _ _ c.checked_sub.ensures c.in_ok-state.ensures.value)
    (c.value-word.ensures ∙ ap (value e) c.deref.ensures.value)
    (subst (λ y. HasLabel L y e c.label.result) c.deref-2.ensures.value c.label.ensures.label)
    (get_or_read c.args.classes.now c.args.next c.index-classes-next.result (omega (arith, c.requires.entries))
    c.index-classes-next.is 0) c.join-first.ensures word c.in_ok-push-2.ensures.items c.in_ok-push-3.ensures.items
    (held c.run_all.new.state) _ c.in_err-run_all.ensures)

pub run_letvar-returns : goal.run_letvar-returns
run_letvar-returns g t c =
    let R = c.args.rule in
    let L = labelling R (g.C.Classes.lattice c.args.lattice.now) in
    let laws = labels_lattice R _ (g.met.C.Classes.laws c.args.lattice.now) in
    let e = expression c.args.e.now in
    let word = c.in_ok-push.ensures.items
    ∙ ap (λ y. c.args.state.now.words.items ++ y ∷ []) (to_z-of_z w64 c.value-word.result (search rules)) in
    let d : Held = record {
      words = c.truncate.new.self.items;
      labels = c.truncate-2.new.self.items;
      variables = c.truncate-3.new.self.items;
      left = c.run_all.new.state.left;
    } in
    letvar_done R L laws c.args.classes.now c.args.counter c.args.next e
    (sequence c.args.body.now) c.value-word.result c.label.result c.join-first.result c.index-classes-next.result
    (held c.args.state.now) c.push.new.self.items c.push-2.new.self.items c.push-3.new.self.items c.in_ok-state.field-0
    c.requires (taken _ _ _ _ c.checked_sub.ensures c.in_ok-state.ensures.value)
    (c.value-word.ensures ∙ ap (value e) c.deref.ensures.value)
    (subst (λ y. HasLabel L y e c.label.result) c.deref-2.ensures.value c.label.ensures.label)
    (get_or_read c.args.classes.now c.args.next c.index-classes-next.result (omega (arith, c.requires.entries))
    c.index-classes-next.is 0) c.join-first.ensures word c.in_ok-push-2.ensures.items c.in_ok-push-3.ensures.items
    (held c.run_all.new.state) d c.len-outside.result tt tt c.in_ok-run_all.ensures (search rules)
    c.truncate.ensures.items c.truncate-2.ensures.items c.truncate-3.ensures.items (omega arith)

pub run_while-returns-in_err-read : goal.run_while-returns-in_err-read
run_while-returns-in_err-read g t c =
    let R = c.args.rule in
    let L = labelling R (g.C.Classes.lattice c.args.lattice.now) in
    let C = class_of L c.args.classes.now in
    let laws = labels_lattice R _ (g.met.C.Classes.laws c.args.lattice.now) in
    let e = expression c.args.e.now in
    watched_err R L C _ _ _ _ _ (held c.args.state.now) _ _
    c.from_residual-in_err-read.ensures.1
    (loop_stop R L C
    laws _ _ _ _ e _ c.value-word.result _
    (held c.loop-state.state) c.in_ok-state.field-0 c.loop-state.invariant
    (taken _ _ _ _ c.checked_sub.ensures c.in_ok-state.ensures.value)
    (c.value-word.ensures ∙ ap (value e) c.deref.ensures.value) (held c.args.state.now) _
    (subst (λ y. Guarded R L c.loop-state.inside y e (Err c.in_err-read.field-0.0))
    c.deref-in-loop-state.ensures.value c.in_err-read.ensures))

pub run_while-returns-then-word-eq0 : goal.run_while-returns-then-word-eq0
run_while-returns-then-word-eq0 g t c =
    let R = c.args.rule in
    let L = labelling R (g.C.Classes.lattice c.args.lattice.now) in
    let C = class_of L c.args.classes.now in
    let laws = labels_lattice R _ (g.met.C.Classes.laws c.args.lattice.now) in
    let e = expression c.args.e.now in
    loop_ends R L C laws _ _ _ _ e _
    c.value-word.result _ (held c.loop-state.state) c.in_ok-state.field-0 c.loop-state.invariant
    (taken _ _ _ _ c.checked_sub.ensures c.in_ok-state.ensures.value)
    (c.value-word.ensures ∙ ap (value e) c.deref.ensures.value)
    c.in_ok-read.read
    (subst (λ y. Guarded R L c.loop-state.inside y e (Ok c.in_ok-read.read)) c.deref-in-loop-state.ensures.value
    c.in_ok-read.ensures) tt
    (zero_word c.value-word.result (search rules) c.if-word-eq0.true)

pub run_while-returns-in_err-run_all : goal.run_while-returns-in_err-run_all
run_while-returns-in_err-run_all g t c =
    let R = c.args.rule in
    let L = labelling R (g.C.Classes.lattice c.args.lattice.now) in
    let C = class_of L c.args.classes.now in
    let laws = labels_lattice R _ (g.met.C.Classes.laws c.args.lattice.now) in
    let e = expression c.args.e.now in
    watched_err R L C _ _ _ _ _ (held c.run_all.new.state) _ _
    c.from_residual-in_err-run_all.ensures.1
    (turn_stop R L C laws _ _ _ _ e _
    c.value-word.result _ (held c.loop-state.state) c.in_ok-state.field-0 c.loop-state.invariant
    (taken _ _ _ _ c.checked_sub.ensures c.in_ok-state.ensures.value)
    (c.value-word.ensures ∙ ap (value e) c.deref.ensures.value)
    c.in_ok-read.read c.join-inside.result (λ z. c.if-word-eq0.false (ap (of_z w64) z))
    (subst (λ y. Guarded R L c.loop-state.inside y e (Ok c.in_ok-read.read)) c.deref-in-loop-state.ensures.value
    c.in_ok-read.ensures)
    c.join-inside.ensures (held c.run_all.new.state) _ c.in_err-run_all.ensures)

pub run_while-loop-state-preserved : goal.run_while-loop-state-preserved
run_while-loop-state-preserved g t c =
    let R = c.args.rule in
    let L = labelling R (g.C.Classes.lattice c.args.lattice.now) in
    let C = class_of L c.args.classes.now in
    let laws = labels_lattice R _ (g.met.C.Classes.laws c.args.lattice.now) in
    let e = expression c.args.e.now in
    leads_turn R L C laws _ _ _ _ e _
    c.value-word.result _ (held c.loop-state.state) c.in_ok-state.field-0 c.loop-state.invariant
    (taken _ _ _ _ c.checked_sub.ensures c.in_ok-state.ensures.value)
    (c.value-word.ensures ∙ ap (value e) c.deref.ensures.value)
    c.in_ok-read.read c.join-inside.result (λ z. c.if-word-eq0.false (ap (of_z w64) z))
    (subst (λ y. Guarded R L c.loop-state.inside y e (Ok c.in_ok-read.read)) c.deref-in-loop-state.ensures.value
    c.in_ok-read.ensures)
    c.join-inside.ensures (held c.run_all.new.state) _ c.in_ok-run_all.ensures
