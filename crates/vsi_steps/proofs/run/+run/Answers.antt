use Rattle.std.proofs.Common.{rules, subst, refl, arith, ap, ◌∙◌, ◌++◌, ◌∷◌, [], set, w64, to_z, of_z}
use Rattle.std.proofs.lemmas.Grind.{common_steps}
use Rattle.std.proofs.lemmas.Int.{to_z-of_z}
use Rattle.std.proofs.lemmas.Result.{IfOk-weaker}
use Rattle.vsi_scope.specs.declared.program.Cmd.{the_lemmas}
use Rattle.vsi_scope.specs.Language.{Assign, If, Letvar}
use Rattle.vsi_scope.specs.View.{command, expression, sequence}
use Rattle.vsi_steps.specs.Ran.{Past, past, IsReady, Met, Ran}
use Rattle.vsi_steps.proofs.Counting.{at_command, at_end, zero_word, seen_if, seen_while, seen_letvar}
use Rattle.vsi_steps.proofs.Running.{cut, assigned, letvar_ready, leads_ran, leads_yes, leads_no, letvar_ran, first_ready, next_inside, next_site, second_site, leads_next, leads_stop, leads_end, loop_cut, loop_ends, turn_cut, leads_turn}
use Rattle.vsi_steps.proofs.run.+run.Goals as goal

pub run_one-run_while-requires : goal.run_one-run_while-requires
run_one-run_while-requires t c =
    let e = seen_while _ _ _ _ c.in-While.is c.deref-in-While.ensures.value in
    (search (rules, the_lemmas), rw e at c.requires)

pub run_one-returns-in-While : goal.run_one-returns-in-While
run_one-returns-in-While t c =
    rw (seen_while _ _ _ _ c.in-While.is c.deref-in-While.ensures.value) c.run_while.ensures

pub run_all-returns-then-not-branch : goal.run_all-returns-then-not-branch
run_all-returns-then-not-branch t c =
    let e = at_command c.args.body.now c.loop-c.c-index c.c-item.result c.loop-c-test.true c.c-item.is in
    leads_stop _ _ _ _ _ _ _ _ e c.loop-c.invariant _
    (subst (Ran _ _ _ _) c.if-not-branch.true c.in_ok-run_one.ensures)

pub run_all-loop-c-preserved : goal.run_all-loop-c-preserved
run_all-loop-c-preserved t c =
    let e = at_command c.args.body.now c.loop-c.c-index c.c-item.result c.loop-c-test.true c.c-item.is in
    let r = first_ready _ _ _ _ _ _ _ _ e c.loop-c.invariant in
    let h = subst (Ran c.loop-c.next (command c.c-item.result) (past c.loop-c.run) (past c.run_one.new.run))
    c.if-not-branch.false c.in_ok-run_one.ensures in
    leads_next _ _ _ _ _ _ _ _ e c.loop-c.invariant (past c.run_one.new.run) _ h
    (next_site _ _ _ _ r h c.index.result.now c.index.ensures)

pub run_all-index-requires : goal.run_all-index-requires
run_all-index-requires t c =
    let e = at_command c.args.body.now c.loop-c.c-index c.c-item.result c.loop-c-test.true c.c-item.is in
    let r = first_ready _ _ _ _ _ _ _ _ e c.loop-c.invariant in
    let inside = next_inside _ _ _ _ r (subst (Ran c.loop-c.next (command c.c-item.result) (past c.loop-c.run)
    (past c.run_one.new.run)) c.if-not-branch.false c.in_ok-run_one.ensures) in
    omega (arith, inside, c.run_one.new.run.extents.ok.0)

pub run_all-run_one-requires : goal.run_all-run_one-requires
run_all-run_one-requires t c =
    let e = at_command c.args.body.now c.loop-c.c-index c.c-item.result c.loop-c-test.true c.c-item.is in (
      first_of (search (rules, the_lemmas), grind (arith, the_lemmas, common_steps), omega (arith, c.decreases)),
      first_ready _ _ _ _ _ _ _ _ e c.loop-c.invariant,
    )

pub run_all-returns : goal.run_all-returns
run_all-returns t c =
    leads_end _ _ _ _ _ _ (at_end c.args.body.now c.loop-c.c-index c.loop-c-test.false) c.loop-c.invariant

pub run_while-returns-in_default : goal.run_while-returns-in_default
run_while-returns-in_default t c =
    let e = expression c.args.e.now in
    loop_cut c.args.site e _ _ _ (past c.meet.new.run) c.loop-word.invariant
    (subst (Met c.args.site e (past c.loop-word.run) (past c.meet.new.run)) c.in_default.is c.in_ok-word.ensures)

pub run_while-returns-then-word-eq0 : goal.run_while-returns-then-word-eq0
run_while-returns-then-word-eq0 t c =
    let e = expression c.args.e.now in
    let m = subst (Met c.args.site e (past c.loop-word.run) (past c.meet.new.run)) c.in-Some.is c.in_ok-word.ensures in
    loop_ends c.args.site e _ c.in-Some.word _ _ (past c.meet.new.run) c.loop-word.invariant m
    (zero_word c.in-Some.word (search rules) c.if-word-eq0.true)

pub run_while-returns-then-not-branch : goal.run_while-returns-then-not-branch
run_while-returns-then-not-branch t c =
    let e = expression c.args.e.now in
    let m = subst (Met c.args.site e (past c.loop-word.run) (past c.meet.new.run)) c.in-Some.is c.in_ok-word.ensures in
    turn_cut c.args.site e _ c.in-Some.word _ _ (past c.meet.new.run) c.loop-word.invariant m (past c.run_all.new.run)
    (λ z. c.if-word-eq0.false (ap (of_z w64) z))
    (subst (Ran _ _ _ _) c.if-not-branch.true c.in_ok-run_all.ensures)

pub run_while-loop-word-preserved : goal.run_while-loop-word-preserved
run_while-loop-word-preserved t c =
    let e = expression c.args.e.now in
    let m = subst (Met c.args.site e (past c.loop-word.run) (past c.meet.new.run)) c.in-Some.is c.in_ok-word.ensures in
    leads_turn c.args.site e _ c.in-Some.word _ _ (past c.meet.new.run) c.loop-word.invariant m (past c.run_all.new.run)
    (λ z. c.if-word-eq0.false (ap (of_z w64) z))
    (subst (Ran _ _ _ _) c.if-not-branch.false c.in_ok-run_all.ensures)

pub run_one-returns-in_default : goal.run_one-returns-in_default
run_one-returns-in_default t c =
    let e = expression c.in-Assign.value in
    rw (ap command c.in-Assign.is)
    (cut c.args.site e (Assign c.in-Assign.loc c.in-Assign.span e) (past c.args.run.now) (past c.meet.new.run) tt
    (subst (Met c.args.site e (past c.args.run.now) (past c.meet.new.run)) c.in_default.is
    c.in_ok-word-in-Assign.ensures))

pub run_one-returns-in-Some : goal.run_one-returns-in-Some
run_one-returns-in-Some t c =
    let e = expression c.in-Assign.value in
    let b = c.meet.new.run in
    let d : Past = record {
      words = set b.words.items c.in-Assign.loc (to_z w64 (of_z w64 c.in-Some.word));
      steps = b.steps.items;
      limit = b.limit;
      extents = b.extents.items;
    } in
    rw (ap command c.in-Assign.is)
    (assigned c.args.site c.in-Assign.loc c.in-Assign.span e c.in-Some.word (past c.args.run.now) (past b) d
    (subst (Met c.args.site e (past c.args.run.now) (past b)) c.in-Some.is c.in_ok-word-in-Assign.ensures)
    (ap (set b.words.items c.in-Assign.loc) (to_z-of_z w64 c.in-Some.word (search rules))) refl refl refl)

pub run_one-returns-in_default-2 : goal.run_one-returns-in_default-2
run_one-returns-in_default-2 t c =
    let e = expression c.in-If.guard in
    let p = sequence c.in-If.yes.items in
    let q = sequence c.in-If.no.items in
    rw (seen_if _ _ _ _ _ _ c.in-If.is refl refl)
    (cut c.args.site e (If e p q) (past c.args.run.now) (past c.meet-in-If.new.run) tt
    (subst (Met c.args.site e (past c.args.run.now) (past c.meet-in-If.new.run)) c.in_default-2.is
    c.in_ok-word-in-If.ensures))

pub run_one-run_all-requires : goal.run_one-run_all-requires
run_one-run_all-requires t c =
    let a = past c.args.run.now in
    let b = past c.meet-in-If.new.run in
    let e = expression c.in-If.guard in
    let p = sequence c.deref.result.now in
    let q = sequence c.in-If.no.items in
    let is = seen_if _ _ _ _ _ _ c.in-If.is c.deref.ensures.value refl in
    let m = subst (Met c.args.site e a b) c.in-Some-2.is c.in_ok-word-in-If.ensures in
    let l = leads_yes c.args.site e p q c.in-Some-2.word a b (subst (λ y. IsReady c.args.site y a) is c.requires) m
    (λ z. c.if-word-ne0.true (ap (of_z w64) z)) in
    (search (rules, the_lemmas), l.ready)

pub run_one-returns-then-word-ne0 : goal.run_one-returns-then-word-ne0
run_one-returns-then-word-ne0 t c =
    let a = past c.args.run.now in
    let b = past c.meet-in-If.new.run in
    let e = expression c.in-If.guard in
    let p = sequence c.deref.result.now in
    let q = sequence c.in-If.no.items in
    let is = seen_if _ _ _ _ _ _ c.in-If.is c.deref.ensures.value refl in
    let m = subst (Met c.args.site e a b) c.in-Some-2.is c.in_ok-word-in-If.ensures in
    let l = leads_yes c.args.site e p q c.in-Some-2.word a b (subst (λ y. IsReady c.args.site y a) is c.requires) m
    (λ z. c.if-word-ne0.true (ap (of_z w64) z)) in
    rw is (IfOk-weaker c.run_all.result _ _ (λ g h. leads_ran g _ _ _ _ _ _ _ l h) c.run_all.ensures)

pub run_one-run_all-requires-in-If : goal.run_one-run_all-requires-in-If
run_one-run_all-requires-in-If t c =
    let a = past c.args.run.now in
    let b = past c.meet-in-If.new.run in
    let e = expression c.in-If.guard in
    let p = sequence c.in-If.yes.items in
    let q = sequence c.deref-in-If.result.now in
    let is = seen_if _ _ _ _ _ _ c.in-If.is refl c.deref-in-If.ensures.value in
    let r = subst (λ y. IsReady c.args.site y a) is c.requires in
    let m = subst (Met c.args.site e a b) c.in-Some-2.is c.in_ok-word-in-If.ensures in
    let l = leads_no c.args.site _ e p q c.in-Some-2.word a b
    (second_site _ _ _ _ _ _ _ r m c.index.result.now c.index.ensures) r m
    (zero_word c.in-Some-2.word (search rules) c.if-word-ne0.false) in
    (search (rules, the_lemmas), l.ready)

pub run_one-returns-else-word-ne0 : goal.run_one-returns-else-word-ne0
run_one-returns-else-word-ne0 t c =
    let a = past c.args.run.now in
    let b = past c.meet-in-If.new.run in
    let e = expression c.in-If.guard in
    let p = sequence c.in-If.yes.items in
    let q = sequence c.deref-in-If.result.now in
    let is = seen_if _ _ _ _ _ _ c.in-If.is refl c.deref-in-If.ensures.value in
    let r = subst (λ y. IsReady c.args.site y a) is c.requires in
    let m = subst (Met c.args.site e a b) c.in-Some-2.is c.in_ok-word-in-If.ensures in
    let l = leads_no c.args.site _ e p q c.in-Some-2.word a b
    (second_site _ _ _ _ _ _ _ r m c.index.result.now c.index.ensures) r m
    (zero_word c.in-Some-2.word (search rules) c.if-word-ne0.false) in
    rw is (IfOk-weaker c.run_all-in-If.result _ _ (λ g h. leads_ran g _ _ _ _ _ _ _ l h) c.run_all-in-If.ensures)

pub run_one-returns-in_default-3 : goal.run_one-returns-in_default-3
run_one-returns-in_default-3 t c =
    let e = expression c.in-Letvar.value in
    let p = sequence c.in-Letvar.body.items in
    rw (seen_letvar _ _ _ _ c.in-Letvar.is refl)
    (cut c.args.site e (Letvar e p) (past c.args.run.now) (past c.meet-in-Letvar.new.run) tt
    (subst (Met c.args.site e (past c.args.run.now) (past c.meet-in-Letvar.new.run)) c.in_default-3.is
    c.in_ok-word-in-Letvar.ensures))

pub run_one-run_all-requires-in-Letvar : goal.run_one-run_all-requires-in-Letvar
run_one-run_all-requires-in-Letvar t c =
    let a = past c.args.run.now in
    let b = past c.meet-in-Letvar.new.run in
    let e = expression c.in-Letvar.value in
    let is = seen_letvar _ _ _ _ c.in-Letvar.is c.deref-in-Letvar.ensures.value in
    let m = subst (Met c.args.site e a b) c.in-Some-3.is c.in_ok-word-in-Letvar.ensures in
    let w = c.in_ok-push-in-Letvar.ensures.items
    ∙ ap (λ y. b.words ++ y ∷ []) (to_z-of_z w64 c.in-Some-3.word (search rules)) in (
      search (rules, the_lemmas),
      letvar_ready c.args.site e (sequence c.deref-in-Letvar.result.now) c.in-Some-3.word a b _
          (subst (λ y. IsReady c.args.site y a) is c.requires) m w refl refl refl,
    )

pub run_one-returns-in_ok-is_done-in-Letvar : goal.run_one-returns-in_ok-is_done-in-Letvar
run_one-returns-in_ok-is_done-in-Letvar t c =
    let a = past c.args.run.now in
    let b = past c.meet-in-Letvar.new.run in
    let e = expression c.in-Letvar.value in
    let is = seen_letvar _ _ _ _ c.in-Letvar.is c.deref-in-Letvar.ensures.value in
    let m = subst (Met c.args.site e a b) c.in-Some-3.is c.in_ok-word-in-Letvar.ensures in
    let w = c.in_ok-push-in-Letvar.ensures.items
    ∙ ap (λ y. b.words ++ y ∷ []) (to_z-of_z w64 c.in-Some-3.word (search rules)) in
    rw is (letvar_ran _ _ _ _ _ _ _ _ _ _ c.len-outside.result m w refl refl refl
    c.in_ok-is_done-in-Letvar.ensures (search rules) c.truncate.ensures.items refl refl refl)
