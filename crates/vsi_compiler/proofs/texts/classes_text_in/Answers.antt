use Rattle.vsi_compiler.proofs.texts.classes_text_in.Goals as goal

pub returns-clause-lines : goal.returns-clause-lines
returns-clause-lines c =
    let s = c.in_ok-source.ensures in
    rw (← s.lattice, ← s.text) c.classes_text_of.ensures.lines

pub returns-clause-refused : goal.returns-clause-refused
returns-clause-refused c =
    let s = c.in_ok-source.ensures in
    rw (← s.lattice, ← s.text) c.classes_text_of.ensures.refused

pub returns-clause-exact : goal.returns-clause-exact
returns-clause-exact c =
    let s = c.in_ok-source.ensures in
    rw (← s.lattice, ← s.text) c.classes_text_of.ensures.exact
