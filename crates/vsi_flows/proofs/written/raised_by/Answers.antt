use Rattle.std.proofs.Common.{sym, subst}
use Rattle.std.proofs.lemmas.Result.{IfErr-weaker, IfOk-weaker}
use Rattle.vsi_lattice.specs.LatticeView.{class_named, order}
use Rattle.vsi_types.specs.Security.{program}
use Rattle.vsi_compiler.specs.Acceptance.{IsAccepted}
use Rattle.vsi_flows.specs.Answers.{IsRaisedText, RefusesRaisedText, RefusesText}
use Rattle.vsi_flows.proofs.AnswerLemmas.{raised_refused, raised_text}
use Rattle.vsi_flows.proofs.RaiseLemmas.{classes_in}
use Rattle.vsi_flows.proofs.written.raised_by.Goals as goal

pub written-requires : goal.written-requires
written-requires c =
    let s = c.args.source.now in
    classes_in (order s.lattice) c.args.profile (program s.resolved) c.args.raises.now c.requires

pub returns-clause-raised : goal.returns-clause-raised
returns-clause-raised c =
    let s = c.args.source.now in
    let is = raised_text s c.resolved-program.ensures.kept c.args.profile c.args.raises.now c.in_ok-text.text.items
    c.requires c.in_ok-text.ensures in
    IfOk-weaker c.accepted.result _ _
    (λ out same. subst (IsRaisedText s.lattice c.args.profile s.text) (sym same) is) c.accepted.ensures.same

pub returns-clause-accepted : goal.returns-clause-accepted
returns-clause-accepted c =
    let s = c.args.source.now in
    rw (← c.lattice-lattice.ensures) c.accepted.ensures.accepted

pub returns-clause-refused : goal.returns-clause-refused
returns-clause-refused c =
    let s = c.args.source.now in
    let is = raised_text s c.resolved-program.ensures.kept c.args.profile c.args.raises.now c.in_ok-text.text.items
    c.requires c.in_ok-text.ensures in
    IfErr-weaker c.accepted.result (RefusesText c.lattice-lattice.result.now c.args.profile c.in_ok-text.text.items) _
    (λ e refused. raised_refused s.lattice c.args.profile s.text c.in_ok-text.text.items e is
    (subst (λ l. RefusesText l c.args.profile c.in_ok-text.text.items e) c.lattice-lattice.ensures refused))
    c.accepted.ensures.refused
