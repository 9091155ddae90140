-- Failures and the output, once the line of JSON of a refused file has been written.
use Rattle.std.proofs.Common.{◌≡◌, ◌<◌, ◌≤◌, ◌-◌, ◌^◌, ◌⊎◌, ◌∙◌, ℕ, Bool, true, false, List, Option, Some, None, inl, inr, refl, sym, ap, subst, arith}
use Rattle.std.specs.Prelude.{◌≢◌, if◌then◌else◌}
use Rattle.std.proofs.lemmas.Bool.{cases_lt}
use Rattle.vsi_arguments.specs.declared.request.Request.{Request}
use Rattle.vsi_arguments.specs.declared.request.Request.TheVariants as request
use Rattle.vsi_subject.specs.declared.failure.Failure.{Failure}
use Rattle.vsi_subject.specs.declared.failure.Failure.TheVariants.{Refused, Interface, Audit, Unsteady, Differs, Usage, NoClass, OutOfBudget, FileFault, LostFile, Memory}
use Rattle.vsi_subject.specs.Done.{EndsEarly, IsFailureOf}
use Rattle.vsi_subject.specs.FaultyFiles.{TellsRefusal, answers_json, has_line, is_refusal}
use Rattle.vsi_subject.specs.Failures.{status_of}
use Rattle.vsi_subject.specs.Holding.{Holding}
use Rattle.vsi_subject.specs.Partly.{Answers, Partly}
use Rattle.vsi_subject.specs.Saved.{KeepsState, LeavesState}
use Rattle.vsi_subject.specs.Works.{cut_from, cut_of, document_spends}
use Rattle.vsi_subject.proofs.CarriedOut.{memory_why}
use Rattle.vsi_subject.proofs.Leaving.{leaves_memory}

-- ---- which failures have a line.

-- A choice between false and false is false.
both_false : (b : Bool) → (if b then false else false) ≡ false
both_false true = refl
both_false false = refl

-- A refusal has a line, if its request answers with JSON.
pub refusal_has : (is_json : Bool) (f : Failure) → is_refusal f ≡ true → is_json ≡ true → has_line is_json f ≡ true
refusal_has is_json f refuses json = ap (λ b. if b then is_json else false) refuses ∙ json

-- Any other failure has none.
pub other_lacks : (is_json : Bool) (f : Failure) → is_refusal f ≡ false → has_line is_json f ≡ false
other_lacks is_json f other = ap (λ b. if b then is_json else false) other

-- Nor has a failure of a request that answers otherwise.
pub plain_lacks : (is_json : Bool) (f : Failure) → is_json ≡ false → has_line is_json f ≡ false
plain_lacks is_json f plain = ap (λ j. if is_refusal f then j else false) plain ∙ both_false (is_refusal f)

-- ---- a refused file leaves the output as it was.

-- A failure with a line has status 1 and is no difference, and its request answers with JSON.
pub record IsEarly (is_json : Bool) (first : Failure) : Type 0 where
  pub json : is_json ≡ true
  pub other : first ≢ Differs
  pub one : status_of first ≡ 1

pub has_early : (is_json : Bool) (first : Failure) → has_line is_json first ≡ true → IsEarly is_json first
has_early is_json (Refused text (Some cause)) has = record { json = has; other = λ same. absurd (cc); one = refl }
has_early is_json (Refused text None) has = absurd (cc)
has_early is_json (Interface text error) has = record { json = has; other = λ same. absurd (cc); one = refl }
has_early is_json (Audit text error) has = absurd (cc)
has_early is_json (Unsteady text error) has = absurd (cc)
has_early is_json Differs has = absurd (cc)
has_early is_json (Usage text) has = absurd (cc)
has_early is_json (NoClass name) has = absurd (cc)
has_early is_json OutOfBudget has = absurd (cc)
has_early is_json (FileFault path) has = absurd (cc)
has_early is_json (LostFile path) has = absurd (cc)
has_early is_json Memory has = absurd (cc)

-- A refusal has status 1.
pub refusal_one : (f : Failure) → is_refusal f ≡ true → status_of f ≡ 1
refusal_one f refuses = (has_early true f (refusal_has true f refuses refl)).one

-- No request that answers has written anything at status 1.
cut_some : (spent : Bool) → 1 < cut_of spent
cut_some true = omega arith
cut_some false = omega arith

-- No request that answers with JSON has.
json_silent : (asked : Request) → answers_json asked ≡ true → 1 < cut_from asked
json_silent (request.Try attempt) json = omega arith
json_silent (request.Check asked) json = omega arith
json_silent (request.Survey asked) json = omega arith
json_silent (request.Project asked) json = omega arith
json_silent (request.New folder) json = omega arith
json_silent (request.Document asked) json = cut_some (document_spends asked)
json_silent (request.Conform asked) json = omega arith
json_silent (request.Classes c) json = omega arith
json_silent (request.Flows c has_walks) json = omega arith
json_silent (request.Mend asked) json = omega arith
json_silent (request.Build c image) json = omega arith
json_silent (request.List image) json = omega arith
json_silent (request.Audit asked) json = omega arith
json_silent (request.Source image) json = omega arith
json_silent (request.EmitC asked) json = omega arith
json_silent (request.Bound asked) json = omega arith
json_silent (request.Run e o has_trace has_count) json = omega arith
json_silent (request.View lattice class e o) json = omega arith
json_silent (request.ViewWithin asked) json = omega arith
json_silent (request.Drive driving) json = omega arith
json_silent (request.Compare comparison) json = omega arith
json_silent (request.CompareSteps comparison is_json) json = omega arith
json_silent (request.Steps stepping is_json) json = omega arith
json_silent (request.Monitor stepping rule is_json) json = omega arith
json_silent (request.Leak search) json = omega arith
json_silent (request.Report c) json = omega arith
json_silent (request.Draw drawing) json = omega arith
json_silent (request.Policy looking) json = omega arith
json_silent (request.Visible asked) json = omega arith
json_silent (request.Format source) json = omega arith
json_silent (request.Layout asked) json = omega arith
json_silent (request.Lattice arguments) json = omega arith
json_silent (request.Lsp serving) json = absurd (cc)
json_silent (request.Explain page) json = omega arith

-- ---- the failure after the line.

-- The same for one value of whether there is a line.
told_by : (b : Bool) (holds : Holding) (given : Option (List ℕ)) (asked : Request) (old mid new : Option (List ℕ))
    (first failure : Failure) → IsFailureOf holds given asked old mid first → has_line (answers_json asked) first ≡ b →
    TellsRefusal b first mid new failure → EndsEarly holds given asked old new failure
told_by false holds given asked old mid new first failure so is (same, kept) =
    inl (
      subst (λ f. has_line (answers_json asked) f ≡ false) (sym same) is,
      subst (IsFailureOf holds given asked old new) (sym same)
          (subst (λ o. IsFailureOf holds given asked old o first) (sym kept) so),
    )
told_by true holds given asked old mid new first failure so is (inl writes) =
    let early = has_early (answers_json asked) first is in
    let one = early.one in
    let cut = json_silent asked early.json in
    inr (record {
      first = first;
      has = is;
      between = mid;
      fails = so;
      kept = so.leaves.silent early.other (omega (arith, one, cut));
      told = writes;
    })
told_by true holds given asked old mid new first failure so is (inr (wants, kept)) =
    inl (
      subst (λ f. has_line (answers_json asked) f ≡ false) (sym wants) refl,
      subst (IsFailureOf holds given asked old new) (sym wants)
          (record {
            why = memory_why holds asked old new;
            leaves = leaves_memory (Answers holds given asked) asked old new
                (subst (Partly (Answers holds given asked) old) (sym kept) so.leaves.partly);
          }),
    )

-- A request that has failed so ends early once its line, if it has one, is written.
pub told_failure : (holds : Holding) (given : Option (List ℕ)) (asked : Request) (old mid new : Option (List ℕ))
    (first failure : Failure) → IsFailureOf holds given asked old mid first →
    TellsRefusal (has_line (answers_json asked) first) first mid new failure → EndsEarly holds given asked old new failure
told_failure holds given asked old mid new first failure so told =
    told_by (has_line (answers_json asked) first) holds given asked old mid new first failure so refl told

-- The line of a refusal changes no file, and a drive writes none.
pub told_state : (asked : Request) (holds : Holding) (given : Option (List ℕ)) (left : Holding)
    (old mid new : Option (List ℕ)) (first failure : Failure) → KeepsState holds given asked left old mid →
    TellsRefusal (has_line (answers_json asked) first) first mid new failure → KeepsState holds given asked left old new
told_state (request.Try attempt) holds given left old mid new first failure so told = so
told_state (request.Check asked) holds given left old mid new first failure so told = so
told_state (request.Survey asked) holds given left old mid new first failure so told = so
told_state (request.Project asked) holds given left old mid new first failure so told = so
told_state (request.New folder) holds given left old mid new first failure so told = so
told_state (request.Document asked) holds given left old mid new first failure so told = so
told_state (request.Conform asked) holds given left old mid new first failure so told = so
told_state (request.Classes c) holds given left old mid new first failure so told = so
told_state (request.Flows c has_walks) holds given left old mid new first failure so told = so
told_state (request.Mend asked) holds given left old mid new first failure so told = so
told_state (request.Build c image) holds given left old mid new first failure so told = so
told_state (request.List image) holds given left old mid new first failure so told = so
told_state (request.Audit asked) holds given left old mid new first failure so told = so
told_state (request.Source image) holds given left old mid new first failure so told = so
told_state (request.EmitC asked) holds given left old mid new first failure so told = so
told_state (request.Bound asked) holds given left old mid new first failure so told = so
told_state (request.Run e o has_trace has_count) holds given left old mid new first failure so told = so
told_state (request.View lattice class e o) holds given left old mid new first failure so told = so
told_state (request.ViewWithin asked) holds given left old mid new first failure so told = so
told_state (request.Drive driving) holds given left old mid new first failure so told =
    let quiet = subst (λ b. TellsRefusal b first mid new failure) (both_false (is_refusal first)) told in
    subst (LeavesState holds driving given left old) (sym quiet.1) so
told_state (request.Compare comparison) holds given left old mid new first failure so told = so
told_state (request.CompareSteps comparison is_json) holds given left old mid new first failure so told = so
told_state (request.Steps stepping is_json) holds given left old mid new first failure so told = so
told_state (request.Monitor stepping rule is_json) holds given left old mid new first failure so told = so
told_state (request.Leak search) holds given left old mid new first failure so told = so
told_state (request.Report c) holds given left old mid new first failure so told = so
told_state (request.Draw drawing) holds given left old mid new first failure so told = so
told_state (request.Policy looking) holds given left old mid new first failure so told = so
told_state (request.Visible asked) holds given left old mid new first failure so told = so
told_state (request.Format source) holds given left old mid new first failure so told = so
told_state (request.Layout asked) holds given left old mid new first failure so told = so
told_state (request.Lattice arguments) holds given left old mid new first failure so told = so
told_state (request.Lsp serving) holds given left old mid new first failure so told = so
told_state (request.Explain page) holds given left old mid new first failure so told = so

-- ---- the count of faults.

-- A device whose faults could be counted before a failure still has room, unless the failure is late.
pub room_left : (old mid : ℕ) (failure : Failure) → old < 2 ^ 64 - 1 → (old < mid → status_of failure ≡ 4) →
    status_of failure < 4 → mid < 2 ^ 64 - 1
room_left old mid failure room fault early =
    elim (cases_lt old mid) [
      | inl more ↦ let four = fault more in absurd (omega (arith, four, early))
      | inr same ↦ omega (arith, room, same)
    ]

-- A fault while a request is performed or while its line is written makes the status 4.
pub fault_told : (old mid new : ℕ) (before failure : Failure) → (old < mid → status_of before ≡ 4) →
    (status_of before ≡ 4 → status_of failure ≡ 4) → (mid < new → status_of failure ≡ 4) → old < new →
    status_of failure ≡ 4
fault_told old mid new before failure first stays second more =
    elim (cases_lt old mid) [
      | inl fault ↦ stays (first fault)
      | inr same ↦ second (omega (arith, same, more))
    ]
