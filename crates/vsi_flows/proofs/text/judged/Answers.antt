use Rattle.vsi_flows.proofs.text.judged.Goals as goal

pub returns-in-Ok-clause-accepted : goal.returns-in-Ok-clause-accepted
returns-in-Ok-clause-accepted c =
    let s = c.in_ok-source.ensures in
    rw (← s.lattice, ← s.text) c.in-Ok.ensures.accepted

pub returns-clause-refused : goal.returns-clause-refused
returns-clause-refused c =
    let s = c.in_ok-source.ensures in
    rw (← s.lattice, ← s.text) c.in-Err.ensures.refused

pub returns-clause-exact : goal.returns-clause-exact
returns-clause-exact c =
    let s = c.in_ok-source.ensures in
    rw (← s.lattice, ← s.text) c.in-Err.ensures.exact
