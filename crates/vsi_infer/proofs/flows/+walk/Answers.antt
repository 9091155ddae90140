use Rattle.std.proofs.Common.{rules, refl, ◌≡◌, ◌∙◌, sym, ap, subst, arith, ◌||◌, length, take}
use Rattle.std.proofs.lemmas.Grind.{common_steps}
use Rattle.vsi_scope.specs.declared.program.Cmd.{the_lemmas}
use Rattle.vsi_scope.specs.Language.{has_loop}
use Rattle.vsi_scope.specs.View.{expression, command, sequence}
use Rattle.vsi_scope.proofs.Views.{letvars_more}
use Rattle.vsi_types.proofs.Judging.{places_at, letvars_at}
use Rattle.vsi_types.proofs.Looping.{loop_more}
use Rattle.vsi_types.specs.declared.rules.Rule.TheVariants as typing
use Rattle.vsi_infer.specs.Leading.{row_reads, reads_by, IsReady, Noted, position_of}
use Rattle.vsi_infer.proofs.CommandLemmas.{choice_read, loop_read, letvar_read}
use Rattle.vsi_infer.proofs.FlowMatrixLemmas.{noted_more, noted_then, noted_if, noted_while, ready_after}
use Rattle.vsi_infer.proofs.flows.+walk.Goals as goal

pub note_command-note_if-requires : goal.note_command-note_if-requires
note_command-note_if-requires t c =
    let e = choice_read c.args.c.now c.in-If.guard c.in-If.yes c.in-If.no c.deref-in-If.result.now
    c.deref-in-If-2.result.now
    c.in-If.is c.deref-in-If.ensures.value c.deref-in-If-2.ensures.value in
    let r = subst (IsReady c.args.sink (position_of c.args.walk.now)) e c.requires in (
      first_of (search (rules, the_lemmas), grind (arith, the_lemmas, common_steps), omega (arith, c.decreases)),
      search (rules, r),
    )

pub note_command-note_while-requires : goal.note_command-note_while-requires
note_command-note_while-requires t c =
    let e = loop_read c.args.c.now c.in-While.guard c.in-While.body c.deref-in-While.result.now c.in-While.is
    c.deref-in-While.ensures.value in
    let r = subst (IsReady c.args.sink (position_of c.args.walk.now)) e c.requires in (
      first_of (search (rules, the_lemmas), grind (arith, the_lemmas, common_steps), omega (arith, c.decreases)),
      search (rules, r),
    )

pub note_command-note_letvar-requires : goal.note_command-note_letvar-requires
note_command-note_letvar-requires t c =
    let e = letvar_read c.args.c.now c.in-Letvar.value c.in-Letvar.body c.deref-in-Letvar.result.now c.in-Letvar.is
    c.deref-in-Letvar.ensures.value in
    let r = subst (IsReady c.args.sink (position_of c.args.walk.now)) e c.requires in (
      first_of (search (rules, the_lemmas), grind (arith, the_lemmas, common_steps), omega (arith, c.decreases)),
      search (rules, r),
    )

pub note_command-returns-in-If : goal.note_command-returns-in-If
note_command-returns-in-If t c =
    let e = choice_read c.args.c.now c.in-If.guard c.in-If.yes c.in-If.no c.deref-in-If.result.now
    c.deref-in-If-2.result.now
    c.in-If.is c.deref-in-If.ensures.value c.deref-in-If-2.ensures.value in
    subst (λ k. Noted c.args.filter c.args.profile c.args.sink (row_reads c.args.around.now)
    (position_of c.args.walk.now) k
    (position_of c.note_if.new.walk) c.note_if.result) (sym e) c.note_if.ensures

pub note_command-returns-in-While : goal.note_command-returns-in-While
note_command-returns-in-While t c =
    let e = loop_read c.args.c.now c.in-While.guard c.in-While.body c.deref-in-While.result.now c.in-While.is
    c.deref-in-While.ensures.value in
    subst (λ k. Noted c.args.filter c.args.profile c.args.sink (row_reads c.args.around.now)
    (position_of c.args.walk.now) k
    (position_of c.note_while.new.walk) c.note_while.result) (sym e) c.note_while.ensures

pub note_command-returns-in-Letvar : goal.note_command-returns-in-Letvar
note_command-returns-in-Letvar t c =
    let e = letvar_read c.args.c.now c.in-Letvar.value c.in-Letvar.body c.deref-in-Letvar.result.now c.in-Letvar.is
    c.deref-in-Letvar.ensures.value in
    subst (λ k. Noted c.args.filter c.args.profile c.args.sink (row_reads c.args.around.now)
    (position_of c.args.walk.now) k
    (position_of c.note_letvar.new.walk) c.note_letvar.result) (sym e) c.note_letvar.ensures

pub note_commands-note_command-requires : goal.note_commands-note_command-requires
note_commands-note_command-requires t c =
    let p = places_at (length c.args.walk.now.scope.items) c.args.body.now c.loop-c.c-index c.c-item.result
    c.loop-c-test.true c.c-item.is c.requires.places in
    let l = letvars_at c.args.body.now c.loop-c.c-index c.c-item.result c.loop-c-test.true c.c-item.is in
    let r = ready_after c.args.sink c.args.filter c.args.profile (row_reads c.args.around.now)
    (position_of c.args.walk.now)
    (position_of c.loop-c.walk) (sequence c.args.body.now) (sequence (take c.loop-c.c-index c.args.body.now))
    (command c.c-item.result) p l c.requires c.loop-c.invariant.noted in
    (first_of (search (rules, the_lemmas), grind (arith, the_lemmas, common_steps), omega (arith, c.decreases)), r)

pub note_commands-loop-c-preserved : goal.note_commands-loop-c-preserved
note_commands-loop-c-preserved t c =
    let count = letvars_more c.args.body.now c.loop-c.c-index c.c-item.result c.loop-c-test.true c.c-item.is in
    record {
      loops = ap (λ x. x || c.in_ok-one.one) c.loop-c.invariant.loops
          ∙ ap (λ x. has_loop (sequence (take c.loop-c.c-index c.args.body.now)) || x) c.in_ok-one.ensures.0
          ∙ sym (loop_more c.args.body.now c.loop-c.c-index c.c-item.result c.loop-c-test.true c.c-item.is);
      noted = noted_more c.args.filter c.args.profile c.args.sink (row_reads c.args.around.now)
          (position_of c.args.walk.now)
          (position_of c.loop-c.walk) (position_of c.note_command.new.walk) c.args.body.now c.loop-c.c-index
          c.c-item.result
          c.loop-c-test.true c.c-item.is count c.loop-c.invariant.noted c.in_ok-one.ensures.1;
    }

pub note_if-returns : goal.note_if-returns
note_if-returns t c =
    let F = c.args.filter in
    let around = row_reads c.args.around.now in
    let inner = row_reads c.within-inner.result in
    let a = position_of c.args.walk.now in
    let e = expression c.args.guard.now in
    let one = sequence c.args.then_branch.now in
    let two = sequence c.args.else_branch.now in
    let loops : (c.in_ok-one.one || c.in_ok-two.two) ≡ (has_loop one || has_loop two) =
    ap (λ x. x || c.in_ok-two.two) c.in_ok-one.ensures.0 ∙ ap (λ x. has_loop one || x) c.in_ok-two.ensures.0 in
    let both = noted_then F c.args.profile c.args.sink inner a (position_of c.note_commands.new.walk)
    (position_of c.note_commands-2.new.walk) one two c.in_ok-one.ensures.1 c.in_ok-two.ensures.1 in (
      loops,
      noted_if F c.args.profile c.args.sink around inner a (position_of c.note_commands-2.new.walk)
          (position_of c.note_ending.new.walk) e one two (c.in_ok-one.one || c.in_ok-two.two)
          (λ v. c.within-inner.ensures v
          ∙ ap (λ s. row_reads c.args.around.now v || reads_by F typing.If s e v) c.deref.ensures.value)
          loops both c.note_ending.ensures.scope c.note_ending.ensures.next c.note_ending.ensures.len
          c.note_ending.ensures.bits,
    )

pub note_while-returns : goal.note_while-returns
note_while-returns t c =
    let F = c.args.filter in
    let around = row_reads c.args.around.now in
    let inner = row_reads c.within-inner.result in
    let e = expression c.args.guard.now in (
      refl,
      noted_while F c.args.profile c.args.sink around inner (position_of c.args.walk.now)
          (position_of c.note_ending.new.walk) (position_of c.note_commands.new.walk) e (sequence c.args.body.now)
          (λ v. c.within-inner.ensures v
          ∙ ap (λ s. row_reads c.args.around.now v || reads_by F typing.While s e v) c.deref.ensures.value)
          c.note_ending.ensures.scope c.note_ending.ensures.next c.note_ending.ensures.len
          c.note_ending.ensures.bits c.in_ok-note_commands.ensures.1,
    )
