use Rattle.std.proofs.Common.{◌≡◌, ◌<◌, ◌⊎◌, arith, false, inl, inr, refl, subst}
use Rattle.std.proofs.KnownBytes.{Keeps-refl}
use Rattle.std.proofs.lemmas.Result.{IfErr-weaker, on_ok_weaker}
use Rattle.std.specs.Io.KnownBytes.{Appends}
use Rattle.vsi_drive.specs.Counted.{device_of}
use Rattle.vsi_subject.specs.declared.failure.Failure.{Failure}
use Rattle.vsi_subject.specs.Failures.{status_of}
use Rattle.vsi_subject.specs.Files.{shown}
use Rattle.vsi_subject.specs.Holding.{Delivers, Fills}
use Rattle.vsi_subject.specs.Partly.{WritesPart}
use Rattle.vsi_subject.proofs.Filled.{both_done}
use Rattle.vsi_subject.proofs.Partly.{any_failure, no_part}
use Rattle.vsi_subject.proofs.Reasons.{handed}
use Rattle.vsi_subject.proofs.Ended.{stays_same}
use Rattle.vsi.proofs.answers.finish.Goals as goal

-- ---- a bad answer.

pub returns-in_err-write-clause-part : goal.returns-in_err-write-clause-part
returns-in_err-write-clause-part g c = rw c.if-not-reply.true
    (subst
    (λ t. WritesPart t (g.W.Write.contents (device_of c.args.output.now))
    (g.W.Write.contents (device_of c.write.new.output)))
    c.deref.ensures.value c.in_err-write.ensures.part)

pub returns-then-not-reply-clause-part : goal.returns-then-not-reply-clause-part
returns-then-not-reply-clause-part g c = rw c.if-not-reply.true
    (subst
    (λ t. WritesPart t (g.W.Write.contents (device_of c.args.output.now))
    (g.W.Write.contents (device_of c.write.new.output)))
    c.deref.ensures.value c.in_ok-write.ensures.part)

pub returns-in_err-write-clause-failed : goal.returns-in_err-write-clause-failed
returns-in_err-write-clause-failed g c =
    let old = g.W.Write.contents (device_of c.args.output.now) in
    let new = g.W.Write.contents (device_of c.write.new.output) in
    let reply = c.args.reply.now in
    handed {E = Failure}
    (λ failure. ((failure ≡ c.args.otherwise) × (reply.is_good ≡ false) × Appends old new reply.text.items)
    ⊎ (3 < status_of failure))
    c.in_err-write.field-0.0 c.from_residual.result c.from_residual.ensures.1
    (let four = c.in_err-write.ensures.failure in inr (omega (arith, four)))

pub returns-then-not-reply-clause-failed : goal.returns-then-not-reply-clause-failed
returns-then-not-reply-clause-failed g c = inl (
  refl,
  c.if-not-reply.true,
  subst
      (Appends (g.W.Write.contents (device_of c.args.output.now))
      (g.W.Write.contents (device_of c.write.new.output)))
      c.deref.ensures.value c.in_ok-write.ensures.whole,
)

pub returns-in_err-write-clause-state : goal.returns-in_err-write-clause-state
returns-in_err-write-clause-state g c = any_failure _ c.from_residual.result (stays_same c.args.place _)

pub returns-then-not-reply-clause-state : goal.returns-then-not-reply-clause-state
returns-then-not-reply-clause-state g c = stays_same c.args.place _

-- ---- a good one, in an image file.

pub returns-in-Image-clause-part : goal.returns-in-Image-clause-part
returns-in-Image-clause-part g c = rw c.in-Image.is (rw c.if-not-reply.false (no_part _ _))

pub returns-in-Image-clause-put : goal.returns-in-Image-clause-put
returns-in-Image-clause-put g c = rw c.in-Image.is
    (on_ok_weaker c.fill.result
    (λ filled. (
      c.if-not-reply.false,
      (
        subst
            (λ t. Fills c.in-Image.path.now t (g.F.Files.holds c.args.files.now) (g.F.Files.holds c.fill.new.files))
            c.deref-in-Image.ensures.value filled,
        Keeps-refl _,
      ),
    ))
    c.fill.ensures.filled)

pub returns-in-Image-clause-state : goal.returns-in-Image-clause-state
returns-in-Image-clause-state g c = rw c.in-Image.is (any_failure _ c.fill.result c.fill.ensures.others)

pub returns-in-Image-clause-failed : goal.returns-in-Image-clause-failed
returns-in-Image-clause-failed g c =
    IfErr-weaker c.fill.result (λ failure. 3 < status_of failure) _ (λ failure late. inr late) c.fill.ensures.failure

-- ---- on the output, or in another file.

pub returns-clause-part : goal.returns-clause-part
returns-clause-part g c = rw c.in-Out.is
    (rw c.if-not-reply.false
    (subst
    (λ t. WritesPart (shown c.in-Out.out t) (g.W.Write.contents (device_of c.args.output.now))
    (g.W.Write.contents (device_of c.deliver.new.output)))
    c.deref-in-Out.ensures.value c.deliver.ensures.part))

pub returns-clause-put : goal.returns-clause-put
returns-clause-put g c = rw c.in-Out.is
    (on_ok_weaker c.deliver.result
    (λ done. (
      c.if-not-reply.false,
      (
        subst
            (λ t. Delivers c.in-Out.out t (g.F.Files.holds c.args.files.now) (g.F.Files.holds c.deliver.new.files))
            c.deref-in-Out.ensures.value done.0,
        subst
            (λ t. Appends (g.W.Write.contents (device_of c.args.output.now))
            (g.W.Write.contents (device_of c.deliver.new.output)) (shown c.in-Out.out t))
            c.deref-in-Out.ensures.value done.1,
      ),
    ))
    (both_done _ _ c.deliver.result c.deliver.ensures.delivered c.deliver.ensures.whole))

pub returns-clause-state : goal.returns-clause-state
returns-clause-state g c = rw c.in-Out.is
    (IfErr-weaker c.deliver.result _ _ (λ failure stays. (stays, c.deliver.ensures.touched)) c.deliver.ensures.stays)

pub returns-clause-failed : goal.returns-clause-failed
returns-clause-failed g c =
    IfErr-weaker c.deliver.result (λ failure. 3 < status_of failure) _ (λ failure late. inr late)
    c.deliver.ensures.failure
