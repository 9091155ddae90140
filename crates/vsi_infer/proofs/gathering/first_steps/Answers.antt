use Rattle.std.proofs.Common.{false}
use Rattle.vsi_types.specs.Security.{program, steps_of}
use Rattle.vsi_infer.proofs.KeptLemmas.{all_kept}
use Rattle.vsi_infer.proofs.gathering.first_steps.Goals as goal

pub returns : goal.returns
returns g c =
    all_kept (g.W.Wanted.wants c.args.wanted.now) (steps_of c.args.profile (program c.args.program.now))
    c.in_ok-kept.kept.steps.items false c.in_ok-kept.ensures
