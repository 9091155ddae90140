use Rattle.vsi_types.specs.Security.{program, steps_of}
use Rattle.vsi_infer.proofs.KeptLemmas.{some_known}
use Rattle.vsi_infer.proofs.shortest.first_step.Goals as goal

pub first_wanted-requires-clause-proposed : goal.first_wanted-requires-clause-proposed
first_wanted-requires-clause-proposed g c =
    some_known (steps_of c.args.profile (program c.args.program.now)) c.in_ok-known.known.steps.items
    c.earliest.result c.in_ok-known.ensures c.earliest.ensures
