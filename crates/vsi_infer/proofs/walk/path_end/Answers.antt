use Rattle.std.proofs.Common.{◌∙◌, sym}
use Rattle.vsi_types.specs.Security.{program, steps_of}
use Rattle.vsi_infer.proofs.PathLemmas.{path_more, path_turns, same_from, differ_from, same_there, there_same}
use Rattle.std.proofs.lemmas.Bool.{false≢true}
use Rattle.vsi_infer.proofs.KeptLemmas.{some_known}
use Rattle.vsi_infer.proofs.walk.path_end.Goals as goal

pub is_step_or-requires : goal.is_step_or-requires
is_step_or-requires c =
    some_known (steps_of c.args.profile (program c.args.program.now)) c.args.known.now c.step_at.result c.requires
    c.step_at.ensures

pub loop-step-preserved : goal.loop-step-preserved
loop-step-preserved c =
    let ss = steps_of c.args.profile (program c.args.program.now) in
    path_more ss c.args.from c.loop-step.at c.args.steps.now c.loop-step.step-index c.step-item.result
    c.loop-step-test.true c.step-item.is c.loop-step.invariant
    (same_from c.step-item.result.source c.loop-step.at c.if-ne.ensures)
    (same_there c.step-item.result ss (sym c.if-not-is_step_or.ensures))

pub returns-then-ne-clause-none : goal.returns-then-ne-clause-none
returns-then-ne-clause-none c b p =
    let ss = steps_of c.args.profile (program c.args.program.now) in
    path_turns ss c.args.from b c.loop-step.at c.args.steps.now c.loop-step.step-index c.step-item.result
    c.loop-step-test.true c.step-item.is c.loop-step.invariant
    (λ e _. differ_from c.step-item.result.source c.loop-step.at c.if-ne.ensures e) p

pub returns-then-not-is_step_or-clause-none : goal.returns-then-not-is_step_or-clause-none
returns-then-not-is_step_or-clause-none c b p =
    let ss = steps_of c.args.profile (program c.args.program.now) in
    path_turns ss c.args.from b c.loop-step.at c.args.steps.now c.loop-step.step-index c.step-item.result
    c.loop-step-test.true c.step-item.is c.loop-step.invariant
    (λ _ there. false≢true (c.if-not-is_step_or.ensures ∙ there_same c.step-item.result ss there)) p
