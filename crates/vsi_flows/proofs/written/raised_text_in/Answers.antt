use Rattle.std.proofs.Common.{sym, subst}
use Rattle.vsi_flows.specs.Answers.{RefusesRaisedText}
use Rattle.vsi_flows.proofs.AnswerLemmas.{read_refused, source_refused}
use Rattle.vsi_flows.proofs.written.raised_text_in.Goals as goal

pub returns-in-Ok-clause-raised : goal.returns-in-Ok-clause-raised
returns-in-Ok-clause-raised c =
    let s = c.in-Ok.ensures in
    rw (← s.lattice, ← s.text) c.raised_text_of.ensures.raised

pub returns-in-Ok-clause-accepted : goal.returns-in-Ok-clause-accepted
returns-in-Ok-clause-accepted c = rw (← c.in-Ok.ensures.lattice) c.raised_text_of.ensures.accepted

pub returns-in-Ok-clause-refused : goal.returns-in-Ok-clause-refused
returns-in-Ok-clause-refused c =
    let s = c.in-Ok.ensures in
    rw (← s.lattice, ← s.text) c.raised_text_of.ensures.refused

pub returns-in-Err-clause-refused : goal.returns-in-Err-clause-refused
returns-in-Err-clause-refused c =
    let l = c.args.lattice.now in
    subst (RefusesRaisedText l c.args.profile c.args.text.now) (sym c.source_error.ensures)
    (source_refused l c.args.profile c.args.text.now c.in-Err.error
    (read_refused l c.args.profile c.args.text.now c.in-Err.error c.in-Err.ensures.refused c.in-Err.ensures.exact))
