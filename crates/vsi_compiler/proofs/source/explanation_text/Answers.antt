use Rattle.vsi_compiler.proofs.source.explanation_text.Goals as goal

pub returns-in-Ok : goal.returns-in-Ok
returns-in-Ok c = rw (← c.in-Ok.ensures.lattice, ← c.in-Ok.ensures.text) c.walk_explanation.ensures
