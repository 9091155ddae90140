-- Parts of answers, and what a failure leaves of the output.
use Rattle.std.proofs.Common.{◌≡◌, ◌<◌, ℕ, List, Option, Result, Ok, Err, inl, inr, length, sym, subst, arith}
use Rattle.std.specs.Prelude.{IfErr, IsErrAnd, OnOk}
use Rattle.std.specs.Io.KnownBytes.{Appends}
use Rattle.std.proofs.KnownBytes.{Appends-nil, Keeps-refl}
use Rattle.std.proofs.lemmas.List.{take_all}
use Rattle.vsi_subject.specs.declared.failure.Failure.{Failure}
use Rattle.vsi_subject.specs.declared.failure.Failure.TheVariants.{Refused, Interface, Audit, Unsteady, Differs, Usage, NoClass, OutOfBudget, FileFault, LostFile, Memory}
use Rattle.vsi_subject.specs.Partly.{Leaves, Partly, WritesPart}
use Rattle.vsi_subject.specs.Failures.{status_of}
use Rattle.vsi_subject.proofs.Reasons.{handed}

-- Nothing of a text has been written.
pub no_part : (text : List ℕ) (old : Option (List ℕ)) → WritesPart text old old
no_part text old = (0, Appends-nil old)

-- All of it has been.
pub whole_part : (text : List ℕ) (old new : Option (List ℕ)) → Appends old new text → WritesPart text old new
whole_part text old new written =
    (length text, subst (Appends old new) (sym (take_all (length text) text (omega arith))) written)

-- A part of a text of one kind is a part of one of a wider kind.
pub Partly-weaker : (Kind Wider : List ℕ → Type 0) (old new : Option (List ℕ)) →
    ((text : List ℕ) → Kind text → Wider text) → Partly Kind old new → Partly Wider old new
Partly-weaker Kind Wider old new f (inl kept) = inl kept
Partly-weaker Kind Wider old new f (inr (text, is, part)) = inr (text, f text is, part)

-- Where nothing is written, it is nothing of an answer.
pub kept_partly : (Kind : List ℕ → Type 0) (old : Option (List ℕ)) → Partly Kind old old
kept_partly Kind old = inl (Keeps-refl old)

-- A fact that doesn't depend on the failure holds for the failure that an answer is.
pub any_failure : {T : Type 0} (A : Type 0) (result : Result T Failure) → A → IfErr result (λ failure. A)
any_failure A (Ok x) a = tt
any_failure A (Err failure) a = a

-- A fact that always holds also holds if an answer is given.
pub on_ok_of : {T A : Type 0} (result : Result T Failure) → A → OnOk result A
on_ok_of (Ok x) a = a
on_ok_of (Err failure) a = tt

-- A failure that comes before anything is written leaves the output.
pub kept_leaf : (Kind : List ℕ → Type 0) (from : ℕ) (old : Option (List ℕ)) (failure : Failure) →
    Leaves Kind from old old failure
kept_leaf Kind from old failure = record { partly = inl (Keeps-refl old); silent = λ other below. Keeps-refl old }

-- An answer that is such a failure leaves the output too.
pub kept_leaves : {T : Type 0} (Kind : List ℕ → Type 0) (from : ℕ) (old : Option (List ℕ)) (result : Result T Failure) →
    IfErr result (Leaves Kind from old old)
kept_leaves Kind from old (Ok x) = tt
kept_leaves Kind from old (Err failure) = kept_leaf Kind from old failure

-- A fault, or lack of memory, leaves a part of an answer.
pub late_leaf : (Kind : List ℕ → Type 0) (old new : Option (List ℕ)) (failure : Failure) → 3 < status_of failure →
    Partly Kind old new → Leaves Kind 4 old new failure
late_leaf Kind old new failure late part = record { partly = part; silent = λ other below. absurd (omega arith) }

-- An answer that is such a failure leaves the same.
pub late_leaves : {T : Type 0} (Kind : List ℕ → Type 0) (old new : Option (List ℕ)) (result : Result T Failure) →
    IfErr result (λ failure. 3 < status_of failure) → Partly Kind old new → IfErr result (Leaves Kind 4 old new)
late_leaves Kind old new (Ok x) late part = tt
late_leaves Kind old new (Err failure) late part = late_leaf Kind old new failure late part

-- And a late failure that is passed on.
pub late_handed : {T : Type 0} (Kind : List ℕ → Type 0) (old new : Option (List ℕ)) (result : Result T Failure)
    (failure : Failure) → IsErrAnd result (λ s. s ≡ failure) → 3 < status_of failure → Partly Kind old new →
    IfErr result (Leaves Kind 4 old new)
late_handed Kind old new result failure is late part =
    handed (Leaves Kind 4 old new) failure result is (late_leaf Kind old new failure late part)

-- A run that is out of budget, or fails later, leaves a part of an answer.
pub spent_leaf : (Kind : List ℕ → Type 0) (old new : Option (List ℕ)) (failure : Failure) → 2 < status_of failure →
    Partly Kind old new → Leaves Kind 3 old new failure
spent_leaf Kind old new failure late part = record { partly = part; silent = λ other below. absurd (omega arith) }

-- An answer that is such a failure leaves the same.
pub spent_leaves : {T : Type 0} (Kind : List ℕ → Type 0) (old new : Option (List ℕ)) (result : Result T Failure) →
    IfErr result (λ failure. 3 < status_of failure) → Partly Kind old new → IfErr result (Leaves Kind 3 old new)
spent_leaves Kind old new (Ok x) late part = tt
spent_leaves Kind old new (Err failure) late part = spent_leaf Kind old new failure (omega (arith, late)) part

-- Lack of memory that is passed on leaves a part of an answer too.
pub memory_handed : {T : Type 0} (Kind : List ℕ → Type 0) (old new : Option (List ℕ)) (result : Result T Failure)
    (failure : Failure) → IsErrAnd result (λ s. s ≡ failure) → failure ≡ Memory → Partly Kind old new →
    IfErr result (Leaves Kind 3 old new)
memory_handed Kind old new result failure is wants part =
    handed (Leaves Kind 3 old new) failure result is
    (subst (Leaves Kind 3 old new) (sym wants) (spent_leaf Kind old new Memory (omega arith) part))

-- A fault of the output leaves a part of what was to be written.
pub fault_leaves : {T : Type 0} (Kind : List ℕ → Type 0) (old new : Option (List ℕ)) (text : List ℕ)
    (result : Result T Failure) → Kind text → IfErr result (λ failure. status_of failure ≡ 4) → WritesPart text old new →
    IfErr result (Leaves Kind 4 old new)
fault_leaves Kind old new text (Ok x) is fault part = tt
fault_leaves Kind old new text (Err failure) is fault part =
    late_leaf Kind old new failure (omega arith) (inr (text, is, part))

-- Each failure has a status above 0.
pub some_status : (failure : Failure) → 0 < status_of failure
some_status (Refused text cause) = omega arith
some_status (Interface text error) = omega arith
some_status (Audit text error) = omega arith
some_status (Unsteady text error) = omega arith
some_status Differs = omega arith
some_status (Usage text) = omega arith
some_status (NoClass name) = omega arith
some_status OutOfBudget = omega arith
some_status (FileFault path) = omega arith
some_status (LostFile path) = omega arith
some_status Memory = omega arith

-- An answer that may be cut at any failure leaves a part of what it writes.
pub cut_leaves : {T : Type 0} (Kind : List ℕ → Type 0) (old new : Option (List ℕ)) (result : Result T Failure) →
    IfErr result (λ _. Partly Kind old new) → IfErr result (Leaves Kind 1 old new)
cut_leaves Kind old new (Ok x) part = tt
cut_leaves Kind old new (Err failure) part =
    record { partly = part; silent = λ other below. absurd (omega (arith, some_status failure)) }
