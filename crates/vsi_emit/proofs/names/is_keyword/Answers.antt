use Rattle.vsi_emit.specs.Names.{is_keyword}
use Rattle.vsi_emit.proofs.names.is_keyword.Goals as goal

pub returns : goal.returns
unfolding is_keyword
returns c = c.is_any.ensures
