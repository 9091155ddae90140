use Rattle.std.proofs.Common.{◌≡◌, ◌⊎◌, false, inl, inr, refl}
use Rattle.std.specs.Io.KnownBytes.{Appends}
use Rattle.vsi_drive.specs.Counted.{device_of}
use Rattle.vsi_subject.specs.declared.failure.Failure.TheVariants.{Differs}
use Rattle.vsi_subject.specs.Failures.{status_of}
use Rattle.vsi_subject.proofs.Reasons.{handed}
use Rattle.vsi_subject.proofs.failure.write_answer.Goals as goal

pub returns-in_err-write-clause-failed : goal.returns-in_err-write-clause-failed
returns-in_err-write-clause-failed g c =
    let old = g.W.Write.contents (device_of c.args.output.now) in
    let new = g.W.Write.contents (device_of c.write.new.output) in
    handed
    (λ failure. ((failure ≡ Differs) × ((c.args.agrees ≡ false) × Appends old new c.args.text.now)) ⊎ (status_of failure ≡ 4))
    c.in_err-write.field-0.0 c.from_residual.result c.from_residual.ensures.1 (inr c.in_err-write.ensures.failure)

pub returns-else-agrees-clause-failed : goal.returns-else-agrees-clause-failed
returns-else-agrees-clause-failed g c = inl (refl, (c.if-agrees.false, c.in_ok-write.ensures.whole))
