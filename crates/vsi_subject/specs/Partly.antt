-- The output that a failed request leaves: nothing new, or the beginning of one of its answers.
use Rattle.std.specs.Prelude.{◌≡◌, ◌≢◌, ◌<◌, ◌⊎◌, ℕ, ◌++◌, ℤ, Bool, true, false, List, Option, None, IfSome, take}
use Rattle.std.specs.Global.{Vec}
use Rattle.std.specs.Io.KnownBytes.{Appends, Keeps}
use Rattle.vsi_lattice.specs.declared.lattice.Lattice.{Lattice}
use Rattle.vsi_image.specs.declared.instr.Image.{Image}
use Rattle.vsi_image.specs.Meaning.{start}
use Rattle.vsi_client.specs.Frames.{AreFrames}
use Rattle.vsi_flows.specs.Text.{IsWalksText}
use Rattle.vsi_drive.specs.Boundary.{Boundary}
use Rattle.vsi_drive.specs.BoundaryFaults.{boundary_fault}
use Rattle.vsi_drive.specs.Control.{Control, controlled}
use Rattle.vsi_drive.specs.Cycles.{text_of}
use Rattle.vsi_drive.specs.Running.{trace_of}
use Rattle.vsi_arguments.specs.declared.request.Compilation.{Compilation}
use Rattle.vsi_arguments.specs.declared.request.Driving.{Driving}
use Rattle.vsi_arguments.specs.declared.request.Execution.{Execution}
use Rattle.vsi_arguments.specs.declared.request.InitialStore.{InitialStore}
use Rattle.vsi_arguments.specs.declared.request.Request.{Request}
use Rattle.vsi_subject.specs.declared.failure.Failure.{Failure}
use Rattle.vsi_subject.specs.declared.failure.Failure.TheVariants.{Differs}
use Rattle.vsi_subject.specs.Admitted.{IsAdmitted}
use Rattle.vsi_subject.specs.Driven.{lines_of}
use Rattle.vsi_subject.specs.Holding.{Holding, IsImageAt}
use Rattle.vsi_subject.specs.Laying.{AnswersLayout}
use Rattle.vsi_subject.specs.Beginning.{IsBegun}
use Rattle.vsi_subject.specs.Files.{AreFiles, BeginsAt, IsBudgetOf, OfFiles, shown}
use Rattle.vsi_subject.specs.Performed.{RunsFiles, Tells, ToldFlows, profile_of}
use Rattle.vsi_subject.specs.Steering.{IsSteered}
use Rattle.vsi_subject.specs.Failures.{status_of}
use Rattle.vsi_subject.specs.Works.{Drives, Lays, Lists, Replies, Runs, Talks, Work, out_of, place_of, work_of}

-- ---- a part of an answer.

-- Some first bytes of a text have been written, possibly none or all of them.
abbrev pub WritesPart : List ℕ → Option (List ℕ) → Option (List ℕ) → Type 0
WritesPart text old new = (n : ℕ) × Appends old new (take n text)

-- The output is as it was, or some first bytes of a text of this kind have been written.
abbrev pub Partly : (List ℕ → Type 0) → Option (List ℕ) → Option (List ℕ) → Type 0
Partly Kind old new = Keeps old new ⊎ ((text : List ℕ) × Kind text × WritesPart text old new)

-- The bytes of a text of this kind.
abbrev pub BytesOf : (Vec ℕ → Type 0) → List ℕ → Type 0
BytesOf Kind bytes = (text : Vec ℕ) × Kind text × (bytes ≡ text.items)

-- ---- the answers of each request, of what its files hold.

-- `flows --walks`: the table of the text with a walk below each pair.
pub record AnswersWalks (holds : Holding) (c : Compilation) (bytes : List ℕ) : Type 0 where
  pub lattice : Lattice
  pub source : List ℕ
  pub files : AreFiles holds c lattice source
  pub is : IsWalksText lattice (profile_of c.is_strict) source bytes

-- `flows`: the table of the text, and with `--walks` a walk below each pair.
abbrev pub AnswersFlows : Bool → Holding → Compilation → List ℕ → Type 0
AnswersFlows true holds c = AnswersWalks holds c
AnswersFlows false holds c = BytesOf (OfFiles holds c (ToldFlows false c.is_strict))

-- `run`: the whole trace of the run, and nothing without `--trace`.
pub record TracesRun (holds : Holding) (e : Execution) (o : InitialStore) (traced : Bool) (bytes : List ℕ) : Type 0 where
  pub image : Image
  pub words : List ℤ
  pub begins : BeginsAt holds e o image words
  pub budget : ℕ
  pub within : IsBudgetOf e.budget image budget
  pub is : bytes ≡ trace_of traced image.code.items budget (start image words)

-- `run`: the trace of a run that halts, and after it the text of the store.
pub record ShowsRun (holds : Holding) (e : Execution) (o : InitialStore) (traced : Bool) (bytes : List ℕ) : Type 0 where
  pub trace : List ℕ
  pub text : List ℕ
  pub ran : RunsFiles holds e o traced trace text
  pub is : bytes ≡ trace ++ shown o.out text

-- `run`: the trace, and after it the text of the store if the run halts.
abbrev pub AnswersRun : Holding → Execution → InitialStore → Bool → List ℕ → Type 0
AnswersRun holds e o traced bytes = TracesRun holds e o traced bytes ⊎ ShowsRun holds e o traced bytes

-- The text that a controller writes for all lines of an input.
pub record DrivenText (c : Control) (m : List ℤ) (remaining : Option (List ℕ)) (text : List ℕ) : Type 0 where
  pub bytes : List ℕ
  pub whole : IfSome remaining (λ all. bytes ≡ all)
  pub is : text ≡ text_of c m (lines_of bytes)

-- `drive`: the text that the cycles of all lines of the input write, from a store that is full if it has to be, within
-- a boundary without a fault.
pub record AnswersDrive (holds : Holding) (d : Driving) (given : Option (List ℕ)) (text : List ℕ) : Type 0 where
  pub lattice : Lattice
  pub driver : ℕ
  pub image : Image
  pub boundary : Boundary
  pub steered : IsSteered holds d lattice driver image boundary
  pub held : IsImageAt holds d.execution.image.now image
  pub first : List ℤ
  pub begun : IsBegun holds d image first
  pub budget : ℕ
  pub within : IsBudgetOf d.execution.budget image budget
  pub admitted : IsAdmitted d.is_unbounded lattice image budget
  pub sound : boundary_fault (controlled lattice driver image budget boundary) ≡ None
  pub driven : DrivenText (controlled lattice driver image budget boundary) first given text

-- The part of an answer, good or bad, that goes to the output.
pub record AnswersText (holds : Holding) (asked : Request) (bytes : List ℕ) : Type 0 where
  pub good : Bool
  pub text : Vec ℕ
  pub told : Tells holds asked good text
  pub is : bytes ≡ out_of good (place_of asked) text.items

-- The answers of a request that is carried out so.
abbrev pub AnswersWork : Work → Holding → Option (List ℕ) → Request → List ℕ → Type 0
AnswersWork (Lists c has_walks) holds given asked = AnswersFlows has_walks holds c
AnswersWork (Runs e o has_trace has_count) holds given asked = AnswersRun holds e o has_trace
AnswersWork (Drives driving) holds given asked = AnswersDrive holds driving given
AnswersWork (Lays layout) holds given asked =
    AnswersLayout layout.is_checked layout.is_written holds layout.source.now
AnswersWork Talks holds given asked = AreFrames
AnswersWork Replies holds given asked = AnswersText holds asked

-- The answers of a request.
abbrev pub Answers : Holding → Option (List ℕ) → Request → List ℕ → Type 0
Answers holds given asked = AnswersWork (work_of asked) holds given asked

-- ---- what a failure leaves.

-- The output that a failure leaves: only first bytes of an answer of this kind, and nothing at all below this status,
-- unless the failure is a difference, which is the answer itself.
pub record Leaves (Kind : List ℕ → Type 0) (from : ℕ) (old new : Option (List ℕ)) (failure : Failure) : Type 0 where
  pub partly : Partly Kind old new
  pub silent : failure ≢ Differs → status_of failure < from → Keeps old new
