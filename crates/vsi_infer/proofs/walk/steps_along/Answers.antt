use Rattle.std.proofs.Common.{sym, subst}
use Rattle.std.specs.List.{All, Contains}
use Rattle.std.proofs.lemmas.List.Elements.{All-contains, All-nil, All-push}
use Rattle.vsi_types.specs.Security.{program, steps_of}
use Rattle.vsi_infer.proofs.walk.steps_along.Goals as goal

pub loop-step-init : goal.loop-step-init
loop-step-init c =
    let ss = steps_of c.args.profile (program c.args.program.now) in
    subst (All (Contains ss)) (sym c.new-known.ensures.items) (All-nil (Contains ss))

pub loop-step-preserved : goal.loop-step-preserved
loop-step-preserved c =
    let ss = steps_of c.args.profile (program c.args.program.now) in
    subst (All (Contains ss)) (sym c.in_ok-push.ensures.items)
    (All-push (Contains ss) c.loop-step.known.items c.in-Some.first c.loop-step.invariant
    (All-contains (Contains ss) c.in_ok-kept.kept.steps.items c.in-Some.first c.in_ok-kept.ensures c.in-Some.ensures))
