use Rattle.std.proofs.Common.{rules}
use Rattle.vsi_answers.proofs.lines.refusal_text_of.Goals as goal

pub returns : goal.returns
returns c = record { text = (c.in_ok-more.more.items, c.in_ok-more.ensures, search rules) }
