use Rattle.vsi_steady.proofs.source.steady_explanation.Goals as goal

pub returns-in-Ok : goal.returns-in-Ok
returns-in-Ok c = rw (← c.in-Ok.ensures.lattice, ← c.in-Ok.ensures.text) c.steady_explanation_of.ensures
