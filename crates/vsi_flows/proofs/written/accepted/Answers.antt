use Rattle.std.proofs.Common.{sym, subst, ◌≡◌}
use Rattle.vsi_lattice.specs.LatticeView.{class_named, order}
use Rattle.vsi_compiler.specs.Acceptance.{IsAccepted}
use Rattle.vsi_compiler.specs.Refusal.{Refuses}
use Rattle.vsi_compiler.specs.declared.source.CompileError.TheVariants.{Memory}
use Rattle.vsi_flows.specs.Answers.{RefusesText}
use Rattle.vsi_flows.proofs.AnswerLemmas.{text_refused}
use Rattle.vsi_flows.proofs.written.accepted.Goals as goal

pub returns-in-Ok-clause-accepted : goal.returns-in-Ok-clause-accepted
returns-in-Ok-clause-accepted c =
    let l = c.args.lattice.now in
    subst (IsAccepted (class_named l) (order l) c.args.profile) c.deref.ensures.value c.in-Ok.ensures.accepted

pub returns-in-Err-clause-refused : goal.returns-in-Err-clause-refused
returns-in-Err-clause-refused c =
    let l = c.args.lattice.now in
    let e = c.in-Err.error in
    subst (RefusesText l c.args.profile c.args.text.items) (sym c.raised_error.ensures)
    (text_refused l c.args.profile c.args.text e
    (subst (λ t. Refuses (class_named l) (order l) c.args.profile t e) c.deref.ensures.value c.in-Err.ensures.refused)
    (subst (λ t. IsAccepted (class_named l) (order l) c.args.profile t → e ≡ Memory) c.deref.ensures.value
    c.in-Err.ensures.exact))
