use Rattle.std.proofs.Common.{sym, subst}
use Rattle.vsi_lattice.specs.LatticeView.{order}
use Rattle.vsi_types.specs.Security.{program}
use Rattle.vsi_flows.specs.Raising.{AreLeastRaises, Answers}
use Rattle.vsi_flows.specs.Answers.{HasClassesIn}
use Rattle.vsi_flows.proofs.AnswerLemmas.{final_walk}
use Rattle.vsi_flows.proofs.RaiseLemmas.{classes_in}
use Rattle.vsi_flows.proofs.least.raise_lines_of.Goals as goal

pub lines_of-requires : goal.lines_of-requires
lines_of-requires c =
    let s = c.args.source.now in
    subst (HasClassesIn (order s.lattice)) (sym c.deref.ensures.value)
    (classes_in (order s.lattice) c.args.profile (program s.resolved) c.in-Raised.raises.items
    (subst (Answers (order s.lattice) c.args.profile (program s.resolved)) c.in-Raised.is c.in_ok-raising.ensures.answer))

pub returns-in_ok-lines_of-in-Raised-clause-lines : goal.returns-in_ok-lines_of-in-Raised-clause-lines
returns-in_ok-lines_of-in-Raised-clause-lines c =
    let s = c.args.source.now in
    c.in_ok-lines_of-in-Raised.ensures c.args.profile
    (subst (AreLeastRaises (order s.lattice) c.args.profile (program s.resolved)) (sym c.deref.ensures.value)
    (subst (Answers (order s.lattice) c.args.profile (program s.resolved)) c.in-Raised.is c.in_ok-raising.ensures.answer))

pub returns-in-Refused-clause-refused : goal.returns-in-Refused-clause-refused
returns-in-Refused-clause-refused c =
    let s = c.args.source.now in
    final_walk s c.resolved-program.ensures.kept c.args.profile c.in-Refused.walk.steps.items
    (subst (Answers (order s.lattice) c.args.profile (program s.resolved)) c.in-Refused.is c.in_ok-raising.ensures.answer)
