use Rattle.std.proofs.Common.{◌∙◌, sym}
use Rattle.std.proofs.lemmas.Bool.{false≢true}
use Rattle.vsi_infer.proofs.looking.is_left_out.Goals as goal

pub returns-then-has_bit-clause-every : goal.returns-then-has_bit-clause-every
returns-then-has_bit-clause-every c e = absurd (false≢true (sym c.if-log.false ∙ e))
