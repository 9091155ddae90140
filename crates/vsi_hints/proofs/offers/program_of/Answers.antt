use Rattle.vsi_hints.proofs.Texts.{tree_from}
use Rattle.vsi_hints.proofs.offers.program_of.Goals as goal

pub returns-in-Ok-parse : goal.returns-in-Ok-parse
returns-in-Ok-parse c =
    let cut = c.in-Ok.ensures.cut in
    tree_from _ _ _ cut.0 cut.1 c.in-Ok-parse.program.keeps (rw (c.deref.ensures.value) at c.in-Ok-parse.ensures.found)
