use Rattle.vsi_syntax.proofs.Kept as law
use Rattle.vsi_syntax.proofs.laws.canonical_kept.Goals as goal

pub returns : goal.returns
returns c = law.canonical_kept
