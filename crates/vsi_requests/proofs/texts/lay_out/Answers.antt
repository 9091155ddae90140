use Rattle.std.specs.Prelude.{ℕ}
use Rattle.std.specs.Global.{Vec}
use Rattle.vsi_drive.specs.Counted.{device_of}
use Rattle.vsi_subject.specs.Laying.{OtherLayout}
use Rattle.vsi_subject.specs.Refusals.{AsksCanonical, RefusesFile}
use Rattle.vsi_subject.proofs.Partly.{kept_leaf}
use Rattle.vsi_subject.proofs.Reasons.{failed_by}
use Rattle.vsi_requests.proofs.texts.lay_out.Goals as goal

pub returns-in_err-text-clause-failed : goal.returns-in_err-text-clause-failed
returns-in_err-text-clause-failed g c =
    let holds = g.F.Files.holds c.args.files.now in
    let output = g.W.Write.contents (device_of c.args.output.now) in
    let why = RefusesFile {T = Vec ℕ} holds c.args.asked.source.now AsksCanonical in
    failed_by why why (OtherLayout c.args.asked.is_checked holds c.args.asked.source.now output output)
    (λ reason is. is) c.from_residual.result c.in_err-text.field-0.0 c.from_residual.ensures.1 c.in_err-text.ensures.failed

pub returns-in_default-clause-left : goal.returns-in_default-clause-left
returns-in_default-clause-left g c = kept_leaf _ 4 _ _
