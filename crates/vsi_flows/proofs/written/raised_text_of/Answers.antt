use Rattle.std.proofs.Common.{sym, subst}
use Rattle.vsi_lattice.specs.LatticeView.{order}
use Rattle.vsi_types.specs.Security.{program}
use Rattle.vsi_flows.specs.Raising.{AreLeastRaises, Answers}
use Rattle.vsi_flows.proofs.AnswerLemmas.{final_walk}
use Rattle.vsi_flows.proofs.written.raised_text_of.Goals as goal

pub raised_by-requires : goal.raised_by-requires
raised_by-requires c =
    let s = c.args.source.now in
    subst (AreLeastRaises (order s.lattice) c.args.profile (program s.resolved)) (sym c.deref.ensures.value)
    (subst (Answers (order s.lattice) c.args.profile (program s.resolved)) c.in-Raised.is c.in_ok-raising.ensures.answer)

pub returns-in-Refused-clause-refused : goal.returns-in-Refused-clause-refused
returns-in-Refused-clause-refused c =
    let s = c.args.source.now in
    final_walk s c.resolved-program.ensures.kept c.args.profile c.in-Refused.walk.steps.items
    (subst (Answers (order s.lattice) c.args.profile (program s.resolved)) c.in-Refused.is c.in_ok-raising.ensures.answer)
