use Rattle.vsi_image.proofs.MarkLemmas.{no_marks}
use Rattle.vsi_image.proofs.verifier.blank.Goals as goal

pub returns : goal.returns
returns c = no_marks 1024
