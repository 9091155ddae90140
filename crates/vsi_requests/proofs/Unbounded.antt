-- The reason that there is no C without a budget.
use Rattle.std.proofs.Common.{◌≡◌, true, false, Some, None, refl, sym}
use Rattle.vsi_answers.specs.declared.unanswered.Unanswered.{Unanswered}
use Rattle.vsi_arguments.specs.declared.request.Emission.{Emission}
use Rattle.vsi_image.specs.declared.instr.Image.{Image}
use Rattle.vsi_subject.specs.declared.failure.Failure.{Failure}
use Rattle.vsi_subject.specs.declared.failure.Failure.TheVariants as fails
use Rattle.vsi_subject.specs.Holding.{Holding}
use Rattle.vsi_subject.specs.Performed.{IsEmittedFrom}
use Rattle.vsi_subject.specs.Refusals.{IsUnbounded, FailsBy}
use Rattle.vsi_subject.specs.Reasons.{LacksEmitBound}
use Rattle.vsi_subject.proofs.Reasons.{FailsBy-weaker}

-- A failure that says why no bound was found for the requested image has the line of `bound`.
unbounded_says : (holds : Holding) (asked : Emission) (image : Image) →
    IsEmittedFrom holds asked.lattice asked.file image → asked.is_bounded ≡ true → (failure : Failure) →
    IsUnbounded image failure → LacksEmitBound holds asked failure
unbounded_says holds asked image held bounded (fails.Refused text (Some cause)) is = absurd is
unbounded_says holds asked image held bounded (fails.Refused text None) is = record {
  bounded = bounded;
  text = text;
  unbounded = record {
    image = image;
    held = held;
    is = (
      record { text = text; is_bounded = false; found = is.answer },
      record {
        answer = is.answer;
        is = is.is;
        place = None;
        line = is.says;
        bounded = sym is.unbounded;
        found = refl;
      },
      refl,
      refl,
    );
  };
  says = refl;
}
unbounded_says holds asked image held bounded (fails.Interface text error) is = absurd is
unbounded_says holds asked image held bounded (fails.Audit text error) is = absurd is
unbounded_says holds asked image held bounded (fails.Unsteady text error) is = absurd is
unbounded_says holds asked image held bounded fails.Differs is = absurd is
unbounded_says holds asked image held bounded (fails.Usage text) is = absurd is
unbounded_says holds asked image held bounded (fails.NoClass name) is = absurd is
unbounded_says holds asked image held bounded fails.OutOfBudget is = absurd is
unbounded_says holds asked image held bounded (fails.FileFault path) is = absurd is
unbounded_says holds asked image held bounded (fails.LostFile path) is = absurd is
unbounded_says holds asked image held bounded fails.Memory is = absurd is

-- If the requested image has no bound, this is the reason that there is no C.
pub lacks_bound : (why : Unanswered → Type 0) (holds : Holding) (asked : Emission) (image : Image) (failure : Failure) →
    IsEmittedFrom holds asked.lattice asked.file image →
    FailsBy (λ reason. ⊥) (λ s. (asked.is_bounded ≡ true) × IsUnbounded image s) failure →
    FailsBy why (LacksEmitBound holds asked) failure
lacks_bound why holds asked image failure held =
    FailsBy-weaker (λ reason. ⊥) why (λ s. (asked.is_bounded ≡ true) × IsUnbounded image s) (LacksEmitBound holds asked)
    (λ reason none. absurd none) (λ s is. unbounded_says holds asked image held is.0 s is.1) failure
