use Rattle.vsi_infer.proofs.LawLemmas.{base_stay_bad}
use Rattle.vsi_infer.proofs.laws.base_walks_stay_bad.Goals as goal

pub returns : goal.returns
returns c = base_stay_bad
