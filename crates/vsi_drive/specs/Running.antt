-- The output of an image's run.
use Rattle.std.specs.Prelude.{◌≡◌, ℕ, ◌≤◌, zero, suc, List, [], ◌∷◌, ◌++◌, ℤ, Bool, take, Option, Some, None, Ok, if◌then◌else◌}
use Rattle.std.specs.Io.KnownBytes.{Appends}
use Rattle.vsi_image.specs.declared.instr.Instr.{Instr}
use Rattle.vsi_image.specs.declared.instr.Image.{Image}
use Rattle.vsi_image.specs.Fields.{fields, globals}
use Rattle.vsi_image.specs.Meaning.{State, after, start}
use Rattle.vsi_image.specs.Reading.{image_of}
use Rattle.vsi_image.specs.Valid.{IsValid}
use Rattle.vsi_machine.specs.declared.interpreter.Outcome.{Outcome}
use Rattle.vsi_machine.specs.Runs.{outcome_of, globals_of, run_of}
use Rattle.vsi_machine.specs.Trace.{trace_line}
use Rattle.vsi_store.specs.File.{Tells}
use Rattle.vsi_store.specs.Text.{store_text_of}
use Rattle.vsi_drive.specs.Engine.{IsReadFrom}

-- A line with its line feed, if there is a line.
abbrev pub ended : Option (List ℕ) → List ℕ
ended None = []
ended (Some line) = line ++ 10 ∷ []

-- The trace line of a state, if there is a state and it has not halted.
abbrev pub line_at : List Instr → Option State → List ℕ
line_at code None = []
line_at code (Some s) = ended (trace_line code s)

-- The trace lines of the first k steps from a state.
abbrev pub trace_text : List Instr → ℕ → State → List ℕ
trace_text code zero s = []
trace_text code (suc k) s = trace_text code k s ++ line_at code (after code k s)

-- The trace lines of the first k steps from a state, if they are requested.
abbrev pub trace_of : Bool → List Instr → ℕ → State → List ℕ
trace_of traced code k s = if traced then trace_text code k s else []

-- The text of the store if a run has halted.
abbrev pub ending_of : Image → State → List ℕ
ending_of image last = if last.halted then store_text_of (globals image.globals.items) (globals_of image last) else []

-- A run of the image from a store ends with this outcome, and its whole output is its trace and then its store.
pub record RunsAndWrites (traced : Bool) (image : Image) (words : List ℤ) (budget : ℕ) (outcome : Outcome)
    (output : List ℕ) : Type 0 where
  pub last : State
  pub reached : run_of image words budget ≡ Some last
  pub ends : outcome ≡ outcome_of last
  pub written :
      output ≡ trace_of traced image.code.items budget (start image words) ++ ending_of image last

-- The text of the store in which a run has halted, if it has.
abbrev pub text_at : Image → State → Option (List ℕ)
text_at image last =
    if last.halted then Some (store_text_of (globals image.globals.items) (globals_of image last)) else None

-- A run of the image from a store leaves this text of its store, and its trace is this output.
pub record RunsApart (traced : Bool) (image : Image) (words : List ℤ) (budget : ℕ) (text : Option (List ℕ))
    (output : List ℕ) : Type 0 where
  pub last : State
  pub reached : run_of image words budget ≡ Some last
  pub told : text ≡ text_at image last
  pub written : output ≡ trace_of traced image.code.items budget (start image words)

-- A run that leaves this text has written its whole trace.
abbrev pub WrittenApart : (Option (List ℕ) → List ℕ → Type 0) → Option (List ℕ) → Option (List ℕ) →
    Option (List ℕ) → Type 0
WrittenApart run old new text = (output : List ℕ) × run text output × Appends old new output

-- The image and the store that two texts give for a run.
pub record Asks (bytes store : List ℕ) (image : Image) (words : List ℤ) : Type 0 where
  pub decoded : image_of bytes ≡ Ok (fields image)
  pub valid : IsValid image
  pub told : Tells store (globals image.globals.items) words

-- The image and the store that a reader's bytes and a text give for a run.
pub record Started (remaining : Option (List ℕ)) (store : List ℕ) (image : Image) (words : List ℤ) : Type 0 where
  pub bytes : List ℕ
  pub given : IsReadFrom remaining bytes
  pub asks : Asks bytes store image words

-- The run given by a reader's bytes and a text ends with this outcome and this whole output.
pub record Runs (traced : Bool) (remaining : Option (List ℕ)) (store : List ℕ) (budget : ℕ) (outcome : Outcome)
    (output : List ℕ) : Type 0 where
  pub image : Image
  pub words : List ℤ
  pub started : Started remaining store image words
  pub ends : RunsAndWrites traced image words budget outcome output

-- This text is the trace of the first steps of the requested run, for some number of them within the budget.
pub record Traces (traced : Bool) (remaining : Option (List ℕ)) (store : List ℕ) (budget : ℕ)
    (text : List ℕ) : Type 0 where
  pub image : Image
  pub words : List ℤ
  pub started : Started remaining store image words
  pub steps : ℕ
  pub within : steps ≤ budget
  pub is : text ≡ trace_of traced image.code.items steps (start image words)

-- A run with this outcome has written its whole output.
abbrev pub WrittenWhole : (Outcome → List ℕ → Type 0) → Option (List ℕ) → Option (List ℕ) → Outcome → Type 0
WrittenWhole run old new outcome = (output : List ℕ) × run outcome output × Appends old new output

-- A run has written a prefix of its output.
abbrev pub WrittenPartly : (Outcome → List ℕ → Type 0) → Option (List ℕ) → Option (List ℕ) → Type 0
WrittenPartly run old new =
    (outcome : Outcome) × (output : List ℕ) × run outcome output × ((n : ℕ) × Appends old new (take n output))

-- Some text of this kind has been written.
abbrev pub WrittenSome : (List ℕ → Type 0) → Option (List ℕ) → Option (List ℕ) → Type 0
WrittenSome kind old new = (text : List ℕ) × kind text × Appends old new text

-- The trace of the first steps has been written, for some number of them within the budget.
abbrev pub WrittenSteps : (ℕ → List ℕ) → ℕ → Option (List ℕ) → Option (List ℕ) → Type 0
WrittenSteps trace budget old new = (steps : ℕ) × (steps ≤ budget) × Appends old new (trace steps)
