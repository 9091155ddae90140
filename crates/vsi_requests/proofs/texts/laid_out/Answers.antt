use Rattle.std.proofs.Common.{subst}
use Rattle.std.specs.Prelude.{IfErr, ℕ}
use Rattle.std.specs.Global.{Vec}
use Rattle.vsi_subject.specs.Refusals.{AsksCanonical, NoOther, RefusesFile, FailsBy}
use Rattle.vsi_subject.proofs.Reasons.{handed}
use Rattle.vsi_subject.proofs.RefusalLemmas.{refuses_tree}
use Rattle.vsi_requests.proofs.texts.laid_out.Goals as goal

pub returns-in_err-_canonical-clause-failed : goal.returns-in_err-_canonical-clause-failed
returns-in_err-_canonical-clause-failed g c =
    let holds = g.F.Files.holds c.args.subject.now.files.now in
    let why = RefusesFile {T = Vec ℕ} holds c.args.source.now AsksCanonical in
    handed (FailsBy why NoOther) c.in_err-_canonical.field-0.0 c.from_residual-in_err-_canonical.result
    c.from_residual-in_err-_canonical.ensures.1
    (subst (λ r. IfErr r (FailsBy why NoOther)) c.in_err-_canonical.was
    (refuses_tree holds c.args.source.now c.in_ok-text.text.items c.as_slice-in_default.result.now
    c.in_ok-classes.classes c.format.result c.answered.result c.in_ok-text.ensures.read c.as_slice-in_default.ensures.value
    c.in_ok-classes.ensures.declared c.answered.ensures c.format.ensures.formats))
