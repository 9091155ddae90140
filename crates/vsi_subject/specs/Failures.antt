-- The status of the program when it fails early, and its message.
use Rattle.std.specs.Prelude.{◌≡◌, ◌<◌, ◌-◌, ◌^◌, ◌==◌, ◌++◌, ◌∷◌, [], ℕ, List, Option, Some, None, Result, IsErrAnd, codes, if◌then◌else◌, string_bytes}
use Rattle.std.specs.Io.KnownBytes.{Appends}
use Rattle.vsi_answers.specs.declared.unanswered.Unanswered.{Unanswered}
use Rattle.vsi_answers.specs.declared.unanswered.Unanswered.TheVariants as unanswered
use Rattle.vsi_drive.specs.Counted.{device_of, faults_of}
use Rattle.vsi_drive.specs.declared.engine.Counted.{Counted}
use Rattle.vsi_subject.specs.declared.failure.Failure.{Failure}
use Rattle.vsi_subject.specs.declared.failure.Failure.TheVariants.{Refused, Interface, Audit, Unsteady, Differs, Usage, NoClass, OutOfBudget, FileFault, LostFile, Memory}

-- The status of the program.
abbrev pub status_of : Failure → ℕ
status_of (Refused text cause) = 1
status_of (Interface text error) = 1
status_of (Audit text error) = 1
status_of (Unsteady text error) = 1
status_of Differs = 1
status_of (Usage text) = 2
status_of (NoClass name) = 2
status_of OutOfBudget = 3
status_of (FileFault path) = 4
status_of (LostFile path) = 4
status_of Memory = 5

-- A request that has no answer fails with the text that says why.
abbrev pub failure_of : Unanswered → Failure
failure_of (unanswered.Refused text cause) = Refused text (Some cause)
failure_of unanswered.OutOfBudget = OutOfBudget
failure_of unanswered.Memory = Memory

-- If a stream's count of faults rose, the answer is a file fault.
abbrev pub TellsFault : {T : Type 0} → ℕ → ℕ → Result T Failure → Type 0
TellsFault old new answer = old < new → IsErrAnd answer (λ failure. status_of failure ≡ 4)

-- A line made of a start and a name.
abbrev pub line_of : List ℕ → List ℕ → List ℕ
line_of start word = start ++ word ++ 10 ∷ []

-- The text of a failure.
abbrev pub text_of_failure : Failure → List ℕ
text_of_failure (Refused text cause) = text.items
text_of_failure (Interface text error) = text.items
text_of_failure (Audit text error) = text.items
text_of_failure (Unsteady text error) = text.items
text_of_failure Differs = []
text_of_failure (Usage text) = string_bytes text
text_of_failure (NoClass name) = line_of (codes "no class ") name.now
text_of_failure OutOfBudget = codes "out of budget\n"
text_of_failure (FileFault path) = line_of (codes "file fault: ") path.now
text_of_failure (LostFile path) = line_of (codes "file fault: ") (string_bytes path)
text_of_failure Memory = codes "out of memory\n"

-- The note after the text of a failure: nothing if memory ran out.
abbrev pub note_after : Failure → List ℕ → List ℕ
note_after failure note = if status_of failure == 5 then [] else note

-- A writer has got this text, unless a call of it failed, or no more failures of it can be counted.
abbrev pub Gets : {E : Type 0} → (E → Option (List ℕ)) → Counted E → Counted E → List ℕ → Type 0
Gets contents old new text =
    faults_of old < 2 ^ 64 - 1 → faults_of new ≡ faults_of old →
    Appends (contents (device_of old)) (contents (device_of new)) text

-- The meaning of a failure of the run without arguments: why there is no answer, a fault at this path, or lack of
-- memory.
abbrev pub FailsFor : (Unanswered → Type 0) → (List ℕ → Type 0) → Failure → Type 0
FailsFor why faulted (Refused text (Some cause)) = why (unanswered.Refused text cause)
FailsFor why faulted (Refused text None) = ⊥
FailsFor why faulted (Interface text error) = ⊥
FailsFor why faulted (Audit text error) = ⊥
FailsFor why faulted (Unsteady text error) = ⊥
FailsFor why faulted Differs = ⊥
FailsFor why faulted (Usage text) = ⊥
FailsFor why faulted (NoClass name) = ⊥
FailsFor why faulted OutOfBudget = why unanswered.OutOfBudget
FailsFor why faulted (FileFault path) = faulted path.now
FailsFor why faulted (LostFile path) = ⊥
FailsFor why faulted Memory = Unit {0}

-- The path of a standard stream, if a device has failed.
abbrev pub IsStreamFault : Type 0 → List ℕ → Type 0
IsStreamFault faulted path = (path ≡ codes "-") × faulted
