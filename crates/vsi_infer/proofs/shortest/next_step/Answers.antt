use Rattle.vsi_types.specs.Security.{program, steps_of}
use Rattle.vsi_infer.proofs.KeptLemmas.{some_known}
use Rattle.vsi_infer.proofs.shortest.next_step.Goals as goal

pub first_wanted-requires-clause-proposed : goal.first_wanted-requires-clause-proposed
first_wanted-requires-clause-proposed c =
    some_known (steps_of c.args.profile (program c.args.program.now)) c.args.known.now.steps.items
    c.from_source.result c.requires.known c.from_source.ensures
