use Rattle.vsi_steady.proofs.Together as law
use Rattle.vsi_steady.proofs.laws.steady_runs_alike.Goals as goal

pub returns : goal.returns
returns c = law.steady_runs_alike
