use Rattle.std.proofs.Common.{rules, sym, subst, arith, length}
use Rattle.std.proofs.lemmas.Grind.{common_steps}
use Rattle.vsi_scope.specs.declared.program.Cmd.{the_lemmas}
use Rattle.vsi_types.specs.Security.{name_place}
use Rattle.vsi_infer.specs.Membership.{IsFor, IsPast, stand_of}
use Rattle.vsi_infer.proofs.CommandLemmas.{choice_read, loop_read, letvar_read}
use Rattle.vsi_infer.proofs.MemberLemmas.{for_next, past_none, past_more, past_all}
use Rattle.vsi_infer.proofs.membership.+walk.Goals as goal

pub pass_command-pass_if-requires : goal.pass_command-pass_if-requires
pass_command-pass_if-requires t c =
    let e = choice_read c.args.c.now c.in-If.guard c.in-If.yes c.in-If.no c.deref-in-If.result.now
    c.deref-in-If-2.result.now
    c.in-If.is c.deref-in-If.ensures.value c.deref-in-If-2.ensures.value in
    let r = subst (IsFor c.args.first (length c.args.entries.now) (stand_of c.args.cursor.now)) e c.requires in
    (first_of (search (rules, the_lemmas), grind (arith, the_lemmas, common_steps), omega (arith, c.decreases)), r)

pub pass_command-pass_while-requires : goal.pass_command-pass_while-requires
pass_command-pass_while-requires t c =
    let e = loop_read c.args.c.now c.in-While.guard c.in-While.body c.deref-in-While.result.now c.in-While.is
    c.deref-in-While.ensures.value in
    let r = subst (IsFor c.args.first (length c.args.entries.now) (stand_of c.args.cursor.now)) e c.requires in
    (first_of (search (rules, the_lemmas), grind (arith, the_lemmas, common_steps), omega (arith, c.decreases)), r)

pub pass_command-pass_letvar-requires : goal.pass_command-pass_letvar-requires
pass_command-pass_letvar-requires t c =
    let e = letvar_read c.args.c.now c.in-Letvar.value c.in-Letvar.body c.deref-in-Letvar.result.now c.in-Letvar.is
    c.deref-in-Letvar.ensures.value in
    let r = subst (IsFor c.args.first (length c.args.entries.now) (stand_of c.args.cursor.now)) e c.requires in
    (first_of (search (rules, the_lemmas), grind (arith, the_lemmas, common_steps), omega (arith, c.decreases)), r)

pub pass_command-returns-in-If : goal.pass_command-returns-in-If
pass_command-returns-in-If t c =
    let e = choice_read c.args.c.now c.in-If.guard c.in-If.yes c.in-If.no c.deref-in-If.result.now
    c.deref-in-If-2.result.now
    c.in-If.is c.deref-in-If.ensures.value c.deref-in-If-2.ensures.value in
    subst (λ k. IsPast c.args.step.now c.args.profile (name_place c.args.entries.now c.args.first) c.args.around
    (stand_of c.args.cursor.now) k (stand_of c.pass_if.new.cursor) c.pass_if.result) (sym e) c.pass_if.ensures

pub pass_command-returns-in-While : goal.pass_command-returns-in-While
pass_command-returns-in-While t c =
    let e = loop_read c.args.c.now c.in-While.guard c.in-While.body c.deref-in-While.result.now c.in-While.is
    c.deref-in-While.ensures.value in
    subst (λ k. IsPast c.args.step.now c.args.profile (name_place c.args.entries.now c.args.first) c.args.around
    (stand_of c.args.cursor.now) k (stand_of c.pass_while.new.cursor) c.pass_while.result)
    (sym e) c.pass_while.ensures

pub pass_command-returns-in-Letvar : goal.pass_command-returns-in-Letvar
pass_command-returns-in-Letvar t c =
    let e = letvar_read c.args.c.now c.in-Letvar.value c.in-Letvar.body c.deref-in-Letvar.result.now c.in-Letvar.is
    c.deref-in-Letvar.ensures.value in
    subst (λ k. IsPast c.args.step.now c.args.profile (name_place c.args.entries.now c.args.first) c.args.around
    (stand_of c.args.cursor.now) k (stand_of c.pass_letvar.new.cursor) c.pass_letvar.result)
    (sym e) c.pass_letvar.ensures

pub pass_commands-pass_command-one-requires : goal.pass_commands-pass_command-one-requires
pass_commands-pass_command-one-requires t c =
    let r = for_next c.args.step.now c.args.profile (name_place c.args.entries.now c.args.first) c.args.around
    c.args.first (length c.args.entries.now)
    (stand_of c.args.cursor.now) (stand_of c.loop-c.cursor) c.args.body.now c.loop-c.c-index c.c-item.result
    c.loop-c.found
    c.loop-c-test.true c.c-item.is c.requires c.loop-c.invariant in
    (first_of (search (rules, the_lemmas), grind (arith, the_lemmas, common_steps), omega (arith, c.decreases)), r)

pub pass_commands-loop-c-init : goal.pass_commands-loop-c-init
pass_commands-loop-c-init t c = past_none c.args.step.now c.args.profile
    (name_place c.args.entries.now c.args.first) c.args.around (stand_of c.args.cursor.now)

pub pass_commands-loop-c-preserved : goal.pass_commands-loop-c-preserved
pass_commands-loop-c-preserved t c =
    past_more c.args.step.now c.args.profile (name_place c.args.entries.now c.args.first) c.args.around
    (stand_of c.args.cursor.now) (stand_of c.loop-c.cursor) (stand_of c.pass_command-one.new.cursor)
    c.args.body.now c.loop-c.c-index c.c-item.result c.loop-c.found c.pass_command-one.result c.loop-c-test.true
    c.c-item.is c.loop-c.invariant c.pass_command-one.ensures

pub pass_commands-returns : goal.pass_commands-returns
pass_commands-returns t c =
    past_all c.args.step.now c.args.profile (name_place c.args.entries.now c.args.first) c.args.around
    (stand_of c.args.cursor.now) (stand_of c.loop-c.cursor) c.args.body.now c.loop-c.c-index c.loop-c.found
    (omega arith) c.loop-c.invariant
