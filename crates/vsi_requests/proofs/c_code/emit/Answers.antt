use Rattle.std.proofs.Common.{◌≡◌, ◌∙◌, ap, false, refl, sym, subst, true}
use Rattle.std.specs.Prelude.{option_map}
use Rattle.std.proofs.lemmas.Bool.{not-true}
use Rattle.std.proofs.lemmas.Result.{IfErr-weaker, IfOk-weaker}
use Rattle.vsi_subject.specs.Performed.{AreLatticeBytes, EmitsFile, IsEmittedAs, IsRequestedC, TellsBounding}
use Rattle.vsi_subject.specs.Refusals.{IsUnbounded, FailsBy}
use Rattle.vsi_subject.specs.Reasons.{LacksEmitBound, WhyEmit, bounding_of}
use Rattle.vsi_subject.proofs.Reasons.{failed_by, late_failed}
use Rattle.vsi_requests.proofs.Unbounded.{lacks_bound}
use Rattle.vsi_requests.proofs.c_code.emit.Goals as goal

pub returns-in_err-found-clause-failed : goal.returns-in_err-found-clause-failed
returns-in_err-found-clause-failed g c =
    let holds = g.F.Files.holds c.args.subject.now.files.now in
    let why = WhyEmit holds c.args.asked.lattice c.args.asked.file in
    failed_by why why (LacksEmitBound holds c.args.asked) (λ reason is. is) c.from_residual.result
    c.in_err-found.field-0.0 c.from_residual.ensures.1 c.in_err-found.ensures.failed

pub returns-then-not-found-clause-failed : goal.returns-then-not-found-clause-failed
returns-then-not-found-clause-failed g c =
    record {
      bounded = c.if-asked.true;
      text = c.in_ok-found.found.text;
      unbounded = subst
          (λ b. TellsBounding false (g.F.Files.holds c.args.subject.now.files.now) (bounding_of c.args.asked) b
          c.in_ok-found.found.text)
          (not-true c.in_ok-found.found.is_good c.if-not-found.true) c.in_ok-found.ensures.told;
      says = refl;
    }

pub returns-in_err-image-clause-failed : goal.returns-in_err-image-clause-failed
returns-in_err-image-clause-failed g c =
    let holds = g.F.Files.holds c.args.subject.now.files.now in
    let why = WhyEmit holds c.args.asked.lattice c.args.asked.file in
    failed_by why why (LacksEmitBound holds c.args.asked) (λ reason is. is) c.from_residual-in_err-image.result
    c.in_err-image.field-0.0 c.from_residual-in_err-image.ensures.1 c.in_err-image.ensures.failed

pub returns-in_err-lattice-clause-failed : goal.returns-in_err-lattice-clause-failed
returns-in_err-lattice-clause-failed g c =
    let holds = g.F.Files.holds c.args.subject.now.files.now in
    late_failed (WhyEmit holds c.args.asked.lattice c.args.asked.file) (LacksEmitBound holds c.args.asked)
    c.from_residual-in_err-lattice.result c.in_err-lattice.field-0.0 c.from_residual-in_err-lattice.ensures.1
    c.in_err-lattice.ensures.late

pub returns-clause-told : goal.returns-clause-told
returns-clause-told g c =
    let holds = g.F.Files.holds c.args.subject.now.files.now in
    let image = c.in_ok-image.verified in
    let origin = c.origin_of-origin.result in
    let form = IsRequestedC c.args.asked.is_bounded c.args.asked.is_header image origin in
    IfOk-weaker c.in_c.result (λ text. form c.function_name-name.result.now text.items)
    (EmitsFile holds c.args.asked)
    (λ text is. record {
      image = image;
      origin = origin;
      ours = c.origin_of-origin.ensures.ours;
      bytes = subst (IsEmittedAs holds c.args.asked.lattice c.args.asked.file image)
          (sym (c.origin_of-origin.ensures.image ∙ c.deref.ensures.value)) c.in_ok-image.ensures.told;
      lattice = subst (AreLatticeBytes holds c.args.asked.lattice)
          (sym (ap (option_map (λ b. b.now)) c.origin_of-origin.ensures.lattice ∙ c.as_deref.ensures.value))
          c.in_ok-lattice.ensures.read;
      is = subst (λ name. form name text.items) c.function_name-name.ensures is;
    })
    c.in_c.ensures.told

pub returns-clause-failed : goal.returns-clause-failed
returns-clause-failed g c =
    let holds = g.F.Files.holds c.args.subject.now.files.now in
    let why = WhyEmit holds c.args.asked.lattice c.args.asked.file in
    let image = c.in_ok-image.verified in
    IfErr-weaker c.in_c.result
    (FailsBy (λ reason. ⊥) (λ s. (c.args.asked.is_bounded ≡ true) × IsUnbounded image s))
    (FailsBy why (LacksEmitBound holds c.args.asked))
    (λ failure. lacks_bound why holds c.args.asked image failure c.in_ok-image.ensures.told.held)
    c.in_c.ensures.failed
