-- The meaning of a failure of the run without arguments, and the report of it.
use Rattle.std.proofs.Common.{◌≡◌, ◌≢◌, ◌-◌, ◌^◌, ◌≤◌, ◌<◌, ◌++◌, [], ℕ, List, Option, Some, None, Result, Ok, Err, sym, ap, subst, ◌∙◌, arith, append-nil}
use Rattle.std.specs.Prelude.{IfOk, IfErr, OnOk, MatchResult, Bool, true, false, codes, ◌==◌, if◌then◌else◌}
use Rattle.std.specs.Global.{Vec}
use Rattle.std.proofs.KnownBytes.{Appends-trans}
use Rattle.vsi_answers.specs.declared.unanswered.Unanswered.{Unanswered}
use Rattle.vsi_answers.specs.declared.unanswered.Unanswered.TheVariants as unanswered
use Rattle.vsi_drive.specs.Counted.{faults_of}
use Rattle.vsi_drive.specs.declared.engine.Counted.{Counted}
use Rattle.vsi_subject.specs.declared.failure.Failure.{Failure}
use Rattle.vsi_subject.specs.declared.failure.Failure.TheVariants.{Refused, Interface, Audit, Unsteady, Differs, Usage, NoClass, OutOfBudget, FileFault, LostFile, Memory}
use Rattle.vsi_subject.specs.Failures.{Gets, IsStreamFault, FailsFor, line_of, note_after, status_of, failure_of, text_of_failure}
use Rattle.vsi_subject.specs.Screen.{tamed}
use Rattle.vsi_subject.specs.Input.{RefusesRun, SpendsRun, FailsRun, TellsFailure}
use Rattle.vsi_subject.proofs.ScreenLemmas.{tamed_tame}

-- The failure for the reason why there is no answer means that reason.
pub failure_of_why : (W : Unanswered → Type 0) (reason : Unanswered) → W reason →
    FailsFor W (λ path. ⊥) (failure_of reason)
failure_of_why W (unanswered.Refused text cause) why = why
failure_of_why W unanswered.OutOfBudget why = why
failure_of_why W unanswered.Memory why = tt

-- A property of an answer is the meaning of the failure that it becomes.
pub answered_failed : (P : Result (Vec ℕ) Unanswered → Type 0) (answer : Result (Vec ℕ) Unanswered)
    (result : Result (Vec ℕ) Failure) →
    MatchResult answer (λ text. result ≡ Ok text) (λ reason. result ≡ Err (failure_of reason)) → P answer →
    IfErr result (FailsFor (λ reason. P (Err reason)) (λ path. ⊥))
answered_failed P (Ok text) result is told =
    subst (λ r. IfErr r (FailsFor (λ reason. P (Err reason)) (λ path. ⊥))) (sym is) tt
answered_failed P (Err reason) result is told =
    subst (λ r. IfErr r (FailsFor (λ reason. P (Err reason)) (λ path. ⊥))) (sym is)
    (failure_of_why (λ reason. P (Err reason)) reason told)

-- The meaning of a failure implies every weaker meaning.
pub FailsFor-weaker : (V W : Unanswered → Type 0) (F G : List ℕ → Type 0) →
    ((reason : Unanswered) → V reason → W reason) → ((path : List ℕ) → F path → G path) →
    (failure : Failure) → FailsFor V F failure → FailsFor W G failure
FailsFor-weaker V W F G v f (Refused text (Some cause)) why = v (unanswered.Refused text cause) why
FailsFor-weaker V W F G v f (Refused text None) why = absurd why
FailsFor-weaker V W F G v f (Interface text error) why = absurd why
FailsFor-weaker V W F G v f (Audit text error) why = absurd why
FailsFor-weaker V W F G v f (Unsteady text error) why = absurd why
FailsFor-weaker V W F G v f Differs why = absurd why
FailsFor-weaker V W F G v f (Usage text) why = absurd why
FailsFor-weaker V W F G v f (NoClass name) why = absurd why
FailsFor-weaker V W F G v f OutOfBudget why = v unanswered.OutOfBudget why
FailsFor-weaker V W F G v f (FileFault path) why = f path.now why
FailsFor-weaker V W F G v f (LostFile path) why = absurd why
FailsFor-weaker V W F G v f Memory why = tt

-- A deed that was done to its end was done if the status is 0.
pub done_at_zero : {T P : Type 0} (answer : Result T Failure) (status : ℕ) → OnOk answer P →
    IfErr answer (λ failure. status ≡ status_of failure) → status ≡ 0 → P
done_at_zero (Ok x) status done failed zero = done
done_at_zero (Err (Refused text cause)) status done failed zero = absurd (omega arith)
done_at_zero (Err (Interface text error)) status done failed zero = absurd (omega arith)
done_at_zero (Err (Audit text error)) status done failed zero = absurd (omega arith)
done_at_zero (Err (Unsteady text error)) status done failed zero = absurd (omega arith)
done_at_zero (Err Differs) status done failed zero = absurd (omega arith)
done_at_zero (Err (Usage text)) status done failed zero = absurd (omega arith)
done_at_zero (Err (NoClass name)) status done failed zero = absurd (omega arith)
done_at_zero (Err OutOfBudget) status done failed zero = absurd (omega arith)
done_at_zero (Err (FileFault path)) status done failed zero = absurd (omega arith)
done_at_zero (Err (LostFile path)) status done failed zero = absurd (omega arith)
done_at_zero (Err Memory) status done failed zero = absurd (omega arith)

-- One text after another.
pub Gets-trans : {E : Type 0} (contents : E → Option (List ℕ)) (old mid new : Counted E) (first second : List ℕ) →
    faults_of old ≤ faults_of mid → faults_of mid ≤ faults_of new → Gets contents old mid first →
    Gets contents mid new second → Gets contents old new (first ++ second)
Gets-trans contents old mid new first second up more got gets = λ room same.
    let begun : faults_of mid ≡ faults_of old = omega arith in
    let ended : faults_of new ≡ faults_of mid = omega arith in
    let still : faults_of mid < 2 ^ 64 - 1 = omega arith in
    Appends-trans _ _ _ first second (got room begun) (gets still ended)

-- Nothing follows a text in either case.
nothing_either : (wants : Bool) (text note : List ℕ) → note ≡ [] →
    text ++ (if wants then [] else note) ≡ text
nothing_either true text note none = append-nil text
nothing_either false text note none = ap (λ l. text ++ l) none ∙ append-nil text

-- The text of a failure and the note after it have been written, if memory didn't run out.
pub told_with_note : {E : Type 0} (contents : E → Option (List ℕ)) (old mid new : Counted E) (failure : Failure)
    (note : List ℕ) (wants : Bool) → wants ≡ (status_of failure == 5) → wants ≡ false →
    faults_of old ≤ faults_of mid → faults_of mid ≤ faults_of new → Gets contents old mid (text_of_failure failure) →
    Gets contents mid new note → Gets contents old new (text_of_failure failure ++ note_after failure note)
told_with_note contents old mid new failure note wants is not up more got gets =
    subst (λ b. Gets contents old new (text_of_failure failure ++ (if b then [] else note))) (sym not ∙ is)
    (Gets-trans contents old mid new (text_of_failure failure) note up more got gets)

-- The text of a failure has been written alone, if memory ran out.
pub told_alone : {E : Type 0} (contents : E → Option (List ℕ)) (old new : Counted E) (failure : Failure)
    (note : List ℕ) (wants : Bool) → wants ≡ (status_of failure == 5) → wants ≡ true →
    Gets contents old new (text_of_failure failure) → Gets contents old new (text_of_failure failure ++ note_after failure note)
told_alone contents old new failure note wants is yes_wants got =
    subst (λ b. Gets contents old new (text_of_failure failure ++ (if b then [] else note))) (sym yes_wants ∙ is)
    (subst (Gets contents old new) (sym (append-nil (text_of_failure failure))) got)

-- The text of a failure has been written if nothing follows it.
pub heard_failure : {T E : Type 0} (contents : E → Option (List ℕ)) (old new : Counted E) (note : List ℕ)
    (answer : Result T Failure) → note ≡ [] →
    IfErr answer (λ failure. Gets contents old new (text_of_failure failure ++ note_after failure note)) →
    IfErr answer (λ failure. Gets contents old new (text_of_failure failure))
heard_failure contents old new note (Ok x) none told = tt
heard_failure contents old new note (Err failure) none told =
    subst (Gets contents old new) (nothing_either (status_of failure == 5) (text_of_failure failure) note none) told

-- At a status of 5 nothing but lack of memory has been reported.
pub told_memory : {E : Type 0} (contents : E → Option (List ℕ)) (old new : Counted E) (failure : Failure)
    (note : List ℕ) (status : ℕ) → status ≡ status_of failure → status ≡ 5 →
    Gets contents old new (text_of_failure failure ++ note_after failure note) →
    Gets contents old new (codes "out of memory\n")
told_memory contents old new (Refused text cause) note status is five told = absurd (omega arith)
told_memory contents old new (Interface text error) note status is five told = absurd (omega arith)
told_memory contents old new (Audit text error) note status is five told = absurd (omega arith)
told_memory contents old new (Unsteady text error) note status is five told = absurd (omega arith)
told_memory contents old new Differs note status is five told = absurd (omega arith)
told_memory contents old new (Usage text) note status is five told = absurd (omega arith)
told_memory contents old new (NoClass name) note status is five told = absurd (omega arith)
told_memory contents old new OutOfBudget note status is five told = absurd (omega arith)
told_memory contents old new (FileFault path) note status is five told = absurd (omega arith)
told_memory contents old new (LostFile path) note status is five told = absurd (omega arith)
told_memory contents old new Memory note status is five told = told

-- Nothing has been written where all was done and the note is empty.
pub heard_nothing : {T E : Type 0} (contents : E → Option (List ℕ)) (old new : Counted E) (note : List ℕ)
    (answer : Result T Failure) (status : ℕ) → note ≡ [] → OnOk answer (Gets contents old new note) →
    IfErr answer (λ failure. status ≡ status_of failure) → status ≡ 0 → Gets contents old new []
heard_nothing contents old new note answer status none noted is zero =
    subst (Gets contents old new) none (done_at_zero answer status noted is zero)

-- The text of a failure with a status of 4 says that a standard stream failed.
stream_text : (W : Unanswered → Type 0) (F : Type 0) (failure : Failure) → FailsFor W (IsStreamFault F) failure →
    status_of failure ≡ 4 → text_of_failure failure ≡ codes "file fault: -\n"
stream_text W F (Refused text cause) why four = absurd (omega arith)
stream_text W F (Interface text error) why four = absurd why
stream_text W F (Audit text error) why four = absurd why
stream_text W F (Unsteady text error) why four = absurd why
stream_text W F Differs why four = absurd why
stream_text W F (Usage text) why four = absurd why
stream_text W F (NoClass name) why four = absurd why
stream_text W F OutOfBudget why four = absurd (omega arith)
stream_text W F (FileFault path) why four = ap (line_of (codes "file fault: ")) why.0
stream_text W F (LostFile path) why four = absurd why
stream_text W F Memory why four = absurd (omega arith)

-- The fault of a standard stream is reported.
pub heard_fault : {T E : Type 0} (contents : E → Option (List ℕ)) (old new : Counted E) (note : List ℕ)
    (W : Unanswered → Type 0) (F : Type 0) (answer : Result T Failure) (status : ℕ) → note ≡ [] →
    IfOk answer (λ _. status ≡ 0) → IfErr answer (λ failure. status ≡ status_of failure) →
    IfErr answer (FailsFor W (IsStreamFault F)) →
    IfErr answer (λ failure. Gets contents old new (text_of_failure failure ++ note_after failure note)) →
    status ≡ 4 → Gets contents old new (codes "file fault: -\n")
heard_fault contents old new note W F (Ok x) status none done is why told four = absurd (omega arith)
heard_fault contents old new note W F (Err failure) status none done is why told four =
    subst (Gets contents old new)
    (nothing_either (status_of failure == 5) (text_of_failure failure) note none
    ∙ stream_text W F failure why (sym is ∙ four)) told

-- If a failure is reported, it is reported at a status that isn't 0.
pub tells_failure : {T E : Type 0} (So : Failure → List ℕ → Type 0) (contents : E → Option (List ℕ))
    (old new : Counted E) (lines : List ℕ) (answer : Result T Failure) (status : ℕ) →
    IfErr answer (λ failure. So failure (tamed lines)) → IfOk answer (λ _. status ≡ 0) →
    IfErr answer (λ failure. status ≡ status_of failure) →
    IfErr answer (λ failure. Gets contents old new (text_of_failure failure ++ note_after failure (tamed lines))) →
    status ≢ 0 → TellsFailure So status contents old new
tells_failure So contents old new lines (Ok x) status so done is told other = absurd (other done)
tells_failure So contents old new lines (Err failure) status so done is told other = record {
  failure = failure;
  note = tamed lines;
  so = so;
  failed = is;
  tame = tamed_tame lines;
  told = told;
}

-- A status of 1 means a refusal, whose text is written.
pub refused_at_one : {T : Type 0} (remaining : Option (List ℕ)) (F : List ℕ → Type 0) (told : List ℕ → Type 0)
    (answer : Result T Failure) (status : ℕ) → IfOk answer (λ _. status ≡ 0) →
    IfErr answer (λ failure. status ≡ status_of failure) → IfErr answer (FailsFor (FailsRun remaining) F) →
    IfErr answer (λ failure. told (text_of_failure failure)) → status ≡ 1 → RefusesRun remaining told
refused_at_one r F told (Ok x) status done is why tells one = absurd (omega arith)
refused_at_one r F told (Err (Refused text (Some cause))) status done is why tells one =
    (text, cause, why, tells)
refused_at_one r F told (Err (Refused text None)) status done is why tells one = absurd why
refused_at_one r F told (Err (Interface text error)) status done is why tells one = absurd why
refused_at_one r F told (Err (Audit text error)) status done is why tells one = absurd why
refused_at_one r F told (Err (Unsteady text error)) status done is why tells one = absurd why
refused_at_one r F told (Err Differs) status done is why tells one = absurd why
refused_at_one r F told (Err (Usage text)) status done is why tells one = absurd why
refused_at_one r F told (Err (NoClass name)) status done is why tells one = absurd why
refused_at_one r F told (Err OutOfBudget) status done is why tells one = absurd (omega arith)
refused_at_one r F told (Err (FileFault path)) status done is why tells one = absurd (omega arith)
refused_at_one r F told (Err (LostFile path)) status done is why tells one = absurd why
refused_at_one r F told (Err Memory) status done is why tells one = absurd (omega arith)

-- A status of 3 means a spent budget, which is reported.
pub spent_at_three : {T : Type 0} (remaining : Option (List ℕ)) (F : List ℕ → Type 0) (told : List ℕ → Type 0)
    (answer : Result T Failure) (status : ℕ) → IfOk answer (λ _. status ≡ 0) →
    IfErr answer (λ failure. status ≡ status_of failure) → IfErr answer (FailsFor (FailsRun remaining) F) →
    IfErr answer (λ failure. told (text_of_failure failure)) → status ≡ 3 → SpendsRun remaining told
spent_at_three r F told (Ok x) status done is why tells three = absurd (omega arith)
spent_at_three r F told (Err (Refused text cause)) status done is why tells three = absurd (omega arith)
spent_at_three r F told (Err (Interface text error)) status done is why tells three = absurd why
spent_at_three r F told (Err (Audit text error)) status done is why tells three = absurd why
spent_at_three r F told (Err (Unsteady text error)) status done is why tells three = absurd why
spent_at_three r F told (Err Differs) status done is why tells three = absurd why
spent_at_three r F told (Err (Usage text)) status done is why tells three = absurd why
spent_at_three r F told (Err (NoClass name)) status done is why tells three = absurd why
spent_at_three r F told (Err OutOfBudget) status done is why tells three = (why, tells)
spent_at_three r F told (Err (FileFault path)) status done is why tells three = absurd (omega arith)
spent_at_three r F told (Err (LostFile path)) status done is why tells three = absurd why
spent_at_three r F told (Err Memory) status done is why tells three = absurd (omega arith)
