use Rattle.vsi_answers.proofs.texts.image_text.Goals as goal

pub returns-in-Ok : goal.returns-in-Ok
returns-in-Ok c = rw (← c.in-Ok.ensures.lattice, ← c.in-Ok.ensures.text) c.image_text_of.ensures
