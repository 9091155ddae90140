use Rattle.vsi_image.proofs.MarkLemmas.{mark_here, mark_other}
use Rattle.vsi_image.proofs.verifier.mark.Goals as goal

pub returns-clause-here : goal.returns-clause-here
returns-clause-here c = mark_here c.args.words.now c.args.at c.requires

pub returns-clause-others : goal.returns-clause-others
returns-clause-others c = λ k h. mark_other c.args.words.now c.args.at k c.requires h
