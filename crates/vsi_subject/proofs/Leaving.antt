-- The output that requests leave if they fail.
use Rattle.std.proofs.Common.{◌≡◌, ◌+◌, ◌-◌, ◌≤◌, ◌++◌, ◌∙◌, ℕ, ℤ, List, [], Bool, true, false, Option, Some, None, Result, Ok, Err, inl, inr, refl, sym, ap, subst, arith}
use Rattle.std.specs.Prelude.{◌≢◌, IfOk, IfErr}
use Rattle.std.specs.Io.KnownBytes.{Appends}
use Rattle.vsi_lattice.specs.declared.lattice.Lattice.{Lattice}
use Rattle.vsi_image.specs.declared.instr.Image.{Image}
use Rattle.vsi_image.specs.declared.instr.Instr.{Instr}
use Rattle.vsi_image.specs.Meaning.{State, start}
use Rattle.vsi_drive.specs.Boundary.{Boundary}
use Rattle.vsi_drive.specs.BoundaryFaults.{boundary_fault}
use Rattle.vsi_drive.specs.Control.{Control, controlled}
use Rattle.vsi_drive.specs.Engine.{IsOfWriting}
use Rattle.vsi_drive.specs.Running.{RunsApart, WrittenSteps, trace_of, trace_text}
use Rattle.vsi_drive.specs.declared.engine.EngineError.{EngineError}
use Rattle.vsi_drive.specs.declared.engine.EngineError.TheVariants as engine
use Rattle.vsi_drive.proofs.Outputs.{longer_text, text_then}
use Rattle.vsi_drive.proofs.Traces.{trace_rest}
use Rattle.vsi_arguments.specs.declared.request.Driving.{Driving}
use Rattle.vsi_arguments.specs.declared.request.Execution.{Execution}
use Rattle.vsi_arguments.specs.declared.request.InitialStore.{InitialStore}
use Rattle.vsi_arguments.specs.declared.request.Request.{Request}
use Rattle.vsi_subject.specs.declared.failure.Failure.{Failure}
use Rattle.vsi_subject.specs.declared.failure.Failure.TheVariants.{Memory}
use Rattle.vsi_subject.specs.Admitted.{IsAdmitted}
use Rattle.vsi_subject.specs.Holding.{Holding, IsImageAt}
use Rattle.vsi_subject.specs.Partly.{AnswersDrive, AnswersRun, DrivenText, Leaves, Partly, WritesPart}
use Rattle.vsi_subject.specs.Beginning.{IsBegun}
use Rattle.vsi_subject.specs.Files.{BeginsAt, IsBudgetOf, shown}
use Rattle.vsi_subject.specs.Failures.{status_of}
use Rattle.vsi_subject.specs.Steering.{IsSteered}
use Rattle.vsi_subject.specs.Works.{Drives, Lays, Lists, Replies, Runs, Talks, Work, cut_by, cut_from, spends, work_of}
use Rattle.vsi_subject.proofs.Partly.{Partly-weaker, spent_leaf, whole_part}

-- No request writes a part of an answer at a lower status than that of a file fault, but for a run and a server.
cut_below : (work : Work) (spent : Bool) → cut_by work spent ≤ 4
cut_below (Lists c has_walks) spent = omega arith
cut_below (Runs e o has_trace has_count) spent = omega arith
cut_below (Drives driving) spent = omega arith
cut_below (Lays layout) spent = omega arith
cut_below Talks spent = omega arith
cut_below Replies true = omega arith
cut_below Replies false = omega arith

-- Where the explanation of a failure has found no memory, the same is left.
pub leaves_memory : (Kind : List ℕ → Type 0) (asked : Request) (old new : Option (List ℕ)) →
    Partly Kind old new → Leaves Kind (cut_from asked) old new Memory
leaves_memory Kind asked old new part =
    record { partly = part; silent = λ other below. absurd (omega (arith, below, cut_below (work_of asked) (spends asked))) }

-- If the status isn't 0, the output is left as a failed answer leaves it.
pub partly_at : {T : Type 0} (A : Type 0) (answer : Result T Failure) (status : ℕ) → IfErr answer (λ failure. A) →
    IfOk answer (λ x. status ≡ 0) → status ≢ 0 → A
partly_at A (Ok x) status so done some = absurd (some done)
partly_at A (Err failure) status so done some = so

-- ---- runs.

-- The trace of the first steps is a part of the whole trace.
steps_text : (code : List Instr) (k budget : ℕ) (s : State) (old new : Option (List ℕ)) → k ≤ budget →
    Appends old new (trace_text code k s) → WritesPart (trace_text code budget s) old new
steps_text code k budget s old new within written =
    let rest = trace_rest code k (budget - k) s in
    subst (λ t. WritesPart t old new)
    (sym rest.1 ∙ ap (λ n. trace_text code n s) (let same : k + (budget - k) ≡ budget = omega (arith, within) in same))
    (longer_text old new (trace_text code k s) rest.0 (whole_part (trace_text code k s) old new written))

-- The same with a requested trace or without.
steps_part : (traced : Bool) (code : List Instr) (budget : ℕ) (s : State) (old new : Option (List ℕ)) →
    WrittenSteps (λ k. trace_of traced code k s) budget old new → WritesPart (trace_of traced code budget s) old new
steps_part true code budget s old new (k, within, written) = steps_text code k budget s old new within written
steps_part false code budget s old new (k, within, written) = whole_part [] old new written

-- A run that has ended has written its trace.
pub traced_part : (holds : Holding) (e : Execution) (o : InitialStore) (traced : Bool) (image : Image) (words given : List ℤ)
    (budget : ℕ) (told : Option (List ℕ)) (trace : List ℕ) (old new : Option (List ℕ)) →
    IsBudgetOf e.budget image budget → BeginsAt holds e o image given → words ≡ given →
    RunsApart traced image words budget told trace → Appends old new trace →
    Partly (AnswersRun holds e o traced) old new
traced_part holds e o traced image words given budget told trace old new within begins same ran written =
    inr (
      trace,
      inl (record {
        image = image;
        words = words;
        begins = subst (BeginsAt holds e o image) (sym same) begins;
        budget = budget;
        within = within;
        is = ran.written;
      }),
      whole_part trace old new written,
    )

-- Where it has halted, a part of the text of the store has been written after it.
pub shown_part : (holds : Holding) (e : Execution) (o : InitialStore) (traced : Bool) (image : Image) (words given : List ℤ)
    (budget : ℕ) (text delivered trace : List ℕ) (old mid new : Option (List ℕ)) →
    IsBudgetOf e.budget image budget → BeginsAt holds e o image given → words ≡ given →
    RunsApart traced image words budget (Some text) trace → Appends old mid trace → delivered ≡ text →
    WritesPart (shown o.out delivered) mid new → Partly (AnswersRun holds e o traced) old new
shown_part holds e o traced image words given budget text delivered trace old mid new within begins same ran written
    is part =
    inr (
      trace ++ shown o.out text,
      inr (record {
        trace = trace;
        text = text;
        ran = record {
          image = image;
          words = words;
          begins = subst (BeginsAt holds e o image) (sym same) begins;
          budget = budget;
          within = within;
          ran = ran;
        };
        is = refl;
      }),
      text_then old mid new trace (shown o.out text) written
          (subst (λ t. WritesPart (shown o.out t) mid new) is part),
    )

-- The output of a call that only writes, if it has failed.
written_part : (text : List ℕ) (old new : Option (List ℕ)) (Steps : Type 0) (error : EngineError) →
    IsOfWriting error → (error ≡ engine.WriteFault → WritesPart text old new) → (error ≡ engine.Memory → Steps) →
    (Steps → WritesPart text old new) → WritesPart text old new
written_part text old new Steps engine.ReadFault only write memory f = absurd only
written_part text old new Steps engine.WriteFault only write memory f = write refl
written_part text old new Steps (engine.Compile e) only write memory f = absurd only
written_part text old new Steps (engine.Decode e) only write memory f = absurd only
written_part text old new Steps (engine.Verify e) only write memory f = absurd only
written_part text old new Steps (engine.Store e) only write memory f = absurd only
written_part text old new Steps engine.Memory only write memory f = f (memory refl)

-- A run that is cut short has written a part of its trace.
pub cut_part : (holds : Holding) (e : Execution) (o : InitialStore) (traced : Bool) (image : Image) (words given : List ℤ)
    (budget : ℕ) (error : EngineError) (old new : Option (List ℕ)) → IsBudgetOf e.budget image budget →
    BeginsAt holds e o image given → words ≡ given → IsOfWriting error →
    (error ≡ engine.WriteFault → WritesPart (trace_of traced image.code.items budget (start image words)) old new) →
    (error ≡ engine.Memory →
    WrittenSteps (λ k. trace_of traced image.code.items k (start image words)) budget old new) →
    Partly (AnswersRun holds e o traced) old new
cut_part holds e o traced image words given budget error old new within begins same only write memory =
    inr (
      trace_of traced image.code.items budget (start image words),
      inl (record {
        image = image;
        words = words;
        begins = subst (BeginsAt holds e o image) (sym same) begins;
        budget = budget;
        within = within;
        is = refl;
      }),
      written_part (trace_of traced image.code.items budget (start image words)) old new
          (WrittenSteps (λ k. trace_of traced image.code.items k (start image words)) budget old new) error only write
          memory (steps_part traced image.code.items budget (start image words) old new),
    )

-- A call that only writes fails no earlier than with a fault.
pub device_leaf : (Kind : List ℕ → Type 0) (error : EngineError) (old new : Option (List ℕ)) (failure : Failure) →
    IsOfWriting error → (error ≡ engine.WriteFault → status_of failure ≡ 4) → (error ≡ engine.Memory → failure ≡ Memory) →
    Partly Kind old new → Leaves Kind 3 old new failure
device_leaf Kind engine.ReadFault old new failure only write memory part = absurd only
device_leaf Kind engine.WriteFault old new failure only write memory part =
    let four = write refl in spent_leaf Kind old new failure (omega (arith, four)) part
device_leaf Kind (engine.Compile e) old new failure only write memory part = absurd only
device_leaf Kind (engine.Decode e) old new failure only write memory part = absurd only
device_leaf Kind (engine.Verify e) old new failure only write memory part = absurd only
device_leaf Kind (engine.Store e) old new failure only write memory part = absurd only
device_leaf Kind engine.Memory old new failure only write memory part =
    subst (Leaves Kind 3 old new) (sym (memory refl)) (spent_leaf Kind old new Memory (omega arith) part)

-- ---- controllers.

-- The text that a controller has written for its input is a part of the answer of `drive`.
pub driven_answers : (holds : Holding) (d : Driving) (given old new : Option (List ℕ)) (l : Lattice) (driver : ℕ)
    (image : Image) (b : Boundary) (first : List ℤ) (budget : ℕ) (k : Control) →
    IsBudgetOf d.execution.budget image budget → IsSteered holds d l driver image b →
    IsImageAt holds d.execution.image.now image → IsBegun holds d image first →
    k ≡ controlled l driver image budget b → IsAdmitted d.is_unbounded l image budget →
    boundary_fault k ≡ None → Partly (DrivenText k first given) old new → Partly (AnswersDrive holds d given) old new
driven_answers holds d given old new l driver image b first budget k within steered held begun same admitted sound =
    Partly-weaker (DrivenText k first given) (AnswersDrive holds d given) old new
    (λ text is. record {
      lattice = l;
      driver = driver;
      image = image;
      boundary = b;
      steered = steered;
      held = held;
      first = first;
      begun = begun;
      budget = budget;
      within = within;
      admitted = admitted;
      sound = subst (λ c. boundary_fault c ≡ None) same sound;
      driven = subst (λ c. DrivenText c first given text) same is;
    })
