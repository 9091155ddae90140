use Rattle.vsi_emit.proofs.Following.{steady_jumps}
use Rattle.vsi_emit.proofs.laws.steady_jumps.Goals as goal

pub returns : goal.returns
returns c = steady_jumps c.steady_runs_alike.ensures
