use Rattle.std.proofs.Common.{ℕ, List, Result, Ok, Err, Some, refl, subst}
use Rattle.std.specs.Borrow.{Bor}
use Rattle.std.specs.Global.{Vec}
use Rattle.std.specs.Prelude.{IfOk, None}
use Rattle.vsi_answers.specs.Judged.{AreImage}
use Rattle.vsi_image.specs.declared.instr.Image.{Image}
use Rattle.vsi_subject.specs.Holding.{Holding, IsReadAt}
use Rattle.vsi_subject.specs.Performed.{IsEmittedAs}
use Rattle.vsi_subject.specs.Refusals.{NoOther, FailsBy}
use Rattle.vsi_subject.specs.Reasons.{WhyEmit}
use Rattle.vsi_subject.proofs.Reasons.{handed}
use Rattle.vsi_requests.proofs.c_code.emitted_image.Goals as goal

-- The bytes of an image file are those of its image.
filed : {E : Type 0} (holds : Holding) (file : Bor (List ℕ)) (result : Result (Vec ℕ × Image) E) →
    IfOk result (λ pair. IsReadAt holds file.now pair.0.items) → IfOk result (λ pair. AreImage pair.0.items pair.1) →
    IfOk result (λ pair. IsEmittedAs holds None file pair.1 pair.0.items)
filed holds file (Ok pair) read are =
    record { held = record { bytes = pair.0.items; read = read; are = are }; same = refl }
filed holds file (Err e) read are = tt

pub returns-in_default-clause-told : goal.returns-in_default-clause-told
returns-in_default-clause-told g c = rw c.in_default.is
    (filed _ c.args.source c.verified_in.result c.verified_in.ensures.read c.verified_in.ensures.are)

pub returns-in_default-clause-failed : goal.returns-in_default-clause-failed
returns-in_default-clause-failed g c = rw c.in_default.is c.verified_in.ensures.failed

pub returns-in_err-bytes-clause-failed : goal.returns-in_err-bytes-clause-failed
returns-in_err-bytes-clause-failed g c = rw c.in-Some.is
    (handed (FailsBy (WhyEmit (g.F.Files.holds c.args.subject.now.files.now) (Some c.in-Some.lattice) c.args.source)
    NoOther) c.in_err-bytes.field-0.0 c.from_residual.result c.from_residual.ensures.1 c.in_err-bytes.ensures.failed)

pub returns-in-Ok-clause-told : goal.returns-in-Ok-clause-told
returns-in-Ok-clause-told g c = rw c.in-Some.is
    (record {
      held = record {
        bytes = c.in_ok-bytes.bytes;
        built = c.in_ok-bytes.ensures.told;
        are = subst (λ b. AreImage b c.in-Ok.verified) c.as_slice.ensures.value c.in-Ok.ensures.image;
      };
      same = refl;
    })
