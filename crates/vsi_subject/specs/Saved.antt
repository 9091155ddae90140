-- How old the store of a drive on the disk may be.
use Rattle.std.specs.Prelude.{◌≡◌, ◌⊎◌, ◌≤◌, ◌+◌, ◌-◌, ◌++◌, ℕ, ℤ, List, Option, Some, None, IfSome, length}
use Rattle.std.specs.Borrow.{Bor}
use Rattle.std.specs.Io.KnownBytes.{Keeps}
use Rattle.std.specs.Prelude.{String}
use Rattle.std.specs.declared.alloc.Global.{Global}
use Rattle.vsi_lattice.specs.declared.lattice.Lattice.{Lattice}
use Rattle.vsi_image.specs.declared.instr.Image.{Image}
use Rattle.vsi_drive.specs.Boundary.{Boundary}
use Rattle.vsi_drive.specs.BoundaryFaults.{boundary_fault}
use Rattle.vsi_drive.specs.Control.{Control, controlled}
use Rattle.vsi_drive.specs.Cycles.{store_behind, text_of}
use Rattle.vsi_arguments.specs.declared.request.Driving.{Driving}
use Rattle.vsi_arguments.specs.declared.request.Request.{Request}
use Rattle.vsi_arguments.specs.Asked.{AsksFor}
use Rattle.vsi_subject.specs.Admitted.{IsAdmitted}
use Rattle.vsi_subject.specs.Driven.{lines_of}
use Rattle.vsi_subject.specs.Beginning.{IsBegun}
use Rattle.vsi_subject.specs.Files.{IsBudgetOf}
use Rattle.vsi_subject.specs.Holding.{Holding, HoldsAt, IsImageAt}
use Rattle.vsi_subject.specs.Laying.{written_by}
use Rattle.vsi_subject.specs.Partly.{WritesPart}
use Rattle.vsi_subject.specs.State.{HoldsState, StaysAt, StaysBeside, Touches, state_text}
use Rattle.vsi_subject.specs.Steering.{IsSteered}
use Rattle.vsi_subject.specs.Works.{Drives, Lays, Lists, Replies, Runs, Stays, Talks, Work, place_of, work_of}

-- ---- while lines are driven.

-- A line is counted and nothing is saved, or this text is saved and no line is counted.
abbrev pub SavesLine : Option (Bor (List ℕ)) → List ℕ → ℕ → ℕ → Holding → Holding → Type 0
SavesLine save text unsaved more old new =
    ((more ≡ unsaved + 1) × (new ≡ old)) ⊎ ((more ≡ 0) × HoldsState save text new)

-- The file at the path holds the store after all of these lines but the last ones, which are so many.
pub record SavesLines (path : List ℕ) (im : Image) (c : Control) (m : List ℤ) (lines : List (List ℕ)) (unsaved : ℕ)
    (left : Holding) : Type 0 where
  pub before : List (List ℕ)
  pub since : List (List ℕ)
  pub are : lines ≡ before ++ since
  pub many : length since ≡ unsaved
  pub held : HoldsAt left path (state_text im (store_behind c m before))

-- While these lines are driven, none is saved, and each is counted; or some are, and those after them are counted.
abbrev pub Advances : Option (Bor (List ℕ)) → Image → Control → List ℤ → List (List ℕ) → ℕ → ℕ → Holding → Holding →
    Type 0
Advances None im c m lines unsaved more old new = Unit {0}
Advances (Some path) im c m lines unsaved more old new =
    ((more ≡ unsaved + length lines) × (new path.now ≡ old path.now))
    ⊎ SavesLines path.now im c m lines more new

-- The driving of lines is cut short: the first of them are driven, and a part of their answers is written.
pub record CutsLines (save : Option (Bor (List ℕ))) (im : Image) (c : Control) (m : List ℤ) (most : ℕ)
    (lines : List (List ℕ)) (unsaved : ℕ) (before after : Option (List ℕ)) (old new : Holding) : Type 0 where
  pub done : List (List ℕ)
  pub rest : List (List ℕ)
  pub more : ℕ
  pub are : lines ≡ done ++ rest
  pub few : more ≤ most
  pub advances : Advances save im c m done unsaved more old new
  pub part : WritesPart (text_of c m done) before after

-- The same for the lines of an input, whose bytes these are if they are known.
pub record CutsInput (save : Option (Bor (List ℕ))) (im : Image) (c : Control) (m : List ℤ) (most : ℕ)
    (remaining before after : Option (List ℕ)) (old new : Holding) : Type 0 where
  pub bytes : List ℕ
  pub whole : IfSome remaining (λ all. bytes ≡ all)
  pub cuts : CutsLines save im c m most (lines_of bytes) 0 before after old new

-- ---- at the end.

-- The requested file holds the store after the first lines of an input, and the answers that have been written are
-- those of these lines and of fewer others than `every`, the last answer perhaps in part.
pub record SavesInput (save : Option (Bor (List ℕ))) (im : Image) (c : Control) (m : List ℤ) (every : ℕ)
    (remaining before after : Option (List ℕ)) (left : Holding) : Type 0 where
  pub bytes : List ℕ
  pub whole : IfSome remaining (λ all. bytes ≡ all)
  pub saved : List (List ℕ)
  pub since : List (List ℕ)
  pub rest : List (List ℕ)
  pub are : lines_of bytes ≡ (saved ++ since) ++ rest
  pub few : length since ≤ every - 1
  pub held : HoldsState save (state_text im (store_behind c m saved)) left
  pub part : WritesPart (text_of c m (saved ++ since)) before after

-- The drive of the image in a file has begun, from a store that is full if it has to be and within a boundary without a
-- fault, and has saved its store so.
pub record SavesDrive (holds : Holding) (d : Driving) (given : Option (List ℕ)) (left : Holding)
    (old new : Option (List ℕ)) : Type 0 where
  pub lattice : Lattice
  pub driver : ℕ
  pub image : Image
  pub boundary : Boundary
  pub steered : IsSteered holds d lattice driver image boundary
  pub held : IsImageAt holds d.execution.image.now image
  pub first : List ℤ
  pub begun : IsBegun holds d image first
  pub budget : ℕ
  pub within : IsBudgetOf d.execution.budget image budget
  pub admitted : IsAdmitted d.is_unbounded lattice image budget
  pub sound : boundary_fault (controlled lattice driver image budget boundary) ≡ None
  pub saves : SavesInput d.save image (controlled lattice driver image budget boundary) first d.every given old new left

-- A drive that fails leaves its file as it was, and no answer, or with the store after some of the lines. No other file
-- has changed.
pub record LeavesState (holds : Holding) (d : Driving) (given : Option (List ℕ)) (left : Holding)
    (old new : Option (List ℕ)) : Type 0 where
  pub touches : Touches d.save holds left
  pub state : (StaysAt d.save holds left × Keeps old new) ⊎ SavesDrive holds d given left old new

-- A request that fails and is carried out so leaves the files so: a drive leaves its store's file in one of these
-- states;
-- `run` and `fmt` leave each file as it was but the one that is filled beside theirs; an answer stays out of its place.
abbrev pub KeepsStateWork : Work → Holding → Option (List ℕ) → Request → Holding → Option (List ℕ) → Option (List ℕ) →
    Type 0
KeepsStateWork (Lists c has_walks) holds given asked left old new = left ≡ holds
KeepsStateWork (Runs e o has_trace has_count) holds given asked left old new = StaysBeside o.out holds left
KeepsStateWork (Drives d) holds given asked left old new = LeavesState holds d given left old new
KeepsStateWork (Lays layout) holds given asked left old new =
    StaysBeside (written_by layout.is_checked layout.is_written layout.source) holds left
KeepsStateWork Talks holds given asked left old new = left ≡ holds
KeepsStateWork Replies holds given asked left old new = Stays (place_of asked) holds left

-- A request that fails leaves the files so.
abbrev pub KeepsState : Holding → Option (List ℕ) → Request → Holding → Option (List ℕ) → Option (List ℕ) → Type 0
KeepsState holds given asked = KeepsStateWork (work_of asked) holds given asked

-- Arguments that fail, without changing a file or with what their request leaves.
abbrev pub KeepsStateOf : Holding → Option (List ℕ) → List (String Global) → Holding → Option (List ℕ) →
    Option (List ℕ) → Type 0
KeepsStateOf holds given words left old new =
    (left ≡ holds) ⊎ ((request : Request) × AsksFor words request × KeepsState holds given request left old new)
