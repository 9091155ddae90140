use Rattle.vsi_types.proofs.Walking.{bad_walks_refute}
use Rattle.vsi_infer.proofs.laws.bad_walks_refute.Goals as goal

pub returns : goal.returns
returns c = bad_walks_refute
