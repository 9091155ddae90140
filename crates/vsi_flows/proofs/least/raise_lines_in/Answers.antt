use Rattle.vsi_flows.proofs.AnswerLemmas.{read_refused}
use Rattle.vsi_flows.proofs.least.raise_lines_in.Goals as goal

pub returns-in-Ok-clause-lines : goal.returns-in-Ok-clause-lines
returns-in-Ok-clause-lines c =
    let s = c.in-Ok.ensures in
    rw (← s.lattice, ← s.text) c.raise_lines_of.ensures.lines

pub returns-in-Ok-clause-refused : goal.returns-in-Ok-clause-refused
returns-in-Ok-clause-refused c =
    let s = c.in-Ok.ensures in
    rw (← s.lattice, ← s.text) c.raise_lines_of.ensures.refused

pub returns-in-Err-clause-refused : goal.returns-in-Err-clause-refused
returns-in-Err-clause-refused c =
    read_refused c.args.lattice.now c.args.profile c.args.text.now c.in-Err.error c.in-Err.ensures.refused
    c.in-Err.ensures.exact
