-- The output of `fmt`, given the contents of its file.
use Rattle.std.specs.Prelude.{◌≡◌, ◌≢◌, ◌⊎◌, ℕ, Bool, true, false, List, Option, Some, None, bytes_eq}
use Rattle.std.specs.Borrow.{Bor}
use Rattle.std.specs.Global.{Vec}
use Rattle.std.specs.Io.KnownBytes.{Appends, Keeps}
use Rattle.vsi_compiler.specs.Source.{IsCanonicalText}
use Rattle.vsi_syntax.specs.Layout.{IsLayout}
use Rattle.vsi_syntax.specs.Places.{IsChangeText}
use Rattle.vsi_subject.specs.declared.failure.Failure.{Failure}
use Rattle.vsi_subject.specs.declared.failure.Failure.TheVariants.{Differs}
use Rattle.vsi_subject.specs.Holding.{Holding, IsReadAt, Replaces}

-- The canonical text of a text that has a tree.
abbrev pub ToldCanonical : List ℕ → Vec ℕ → Type 0
ToldCanonical source text = IsCanonicalText source text.items

-- The text of a file, and its layout.
pub record LaysOut (holds : Holding) (source text layout : List ℕ) : Type 0 where
  pub read : IsReadAt holds source text
  pub is : IsLayout text layout

-- The text isn't its layout, and these are the lines about the places in which it differs from it.
pub record TellsChanges (text layout lines : List ℕ) : Type 0 where
  pub differs : text ≢ layout
  pub are : IsChangeText text layout lines

-- `fmt --keep-comments`: the layout of the text of a file.
pub record PrintsLayout (holds : Holding) (source layout : List ℕ) : Type 0 where
  pub text : List ℕ
  pub lays : LaysOut holds source text layout

-- `fmt --check`: the text of a file is its layout.
pub record IsLaidOut (holds : Holding) (source : List ℕ) : Type 0 where
  pub text : List ℕ
  pub lays : LaysOut holds source text text

-- `fmt --check`: the text of a file isn't its layout, and the lines say where.
pub record DiffersIn (holds : Holding) (source lines : List ℕ) : Type 0 where
  pub text : List ℕ
  pub layout : List ℕ
  pub lays : LaysOut holds source text layout
  pub told : TellsChanges text layout lines

-- A file has been replaced by the layout of its text, or the text is its layout and no file has changed.
abbrev pub PutsBack : List ℕ → List ℕ → List ℕ → Holding → Holding → Type 0
PutsBack source text layout old new = Replaces source layout old new ⊎ ((new ≡ old) × (layout ≡ text))

-- `fmt --write`: the layout of the text of a file has been put back into the file.
pub record WritesLayout (holds : Holding) (source : List ℕ) (left : Holding) : Type 0 where
  pub text : List ℕ
  pub layout : List ℕ
  pub lays : LaysOut holds source text layout
  pub put : PutsBack source text layout holds left

-- The file that the request replaces, by whether `--check` and `--write` are given: that of its text, with `--write`.
abbrev pub written_by : Bool → Bool → Bor (List ℕ) → Option (Bor (List ℕ))
written_by true is_written source = None
written_by false true source = Some source
written_by false false source = None

-- The request is performed, by whether `--check` and `--write` are given; only `--write` changes a file.
abbrev pub PerformsLayout : Bool → Bool → Holding → List ℕ → Holding → Option (List ℕ) → Option (List ℕ) → Type 0
PerformsLayout true is_written holds source left old new = (left ≡ holds) × IsLaidOut holds source × Keeps old new
PerformsLayout false true holds source left old new = WritesLayout holds source left × Keeps old new
PerformsLayout false false holds source left old new =
    (left ≡ holds) × (bytes : List ℕ) × PrintsLayout holds source bytes × Appends old new bytes

-- The text that is written to the output; `--write` writes none.
abbrev pub AnswersLayout : Bool → Bool → Holding → List ℕ → List ℕ → Type 0
AnswersLayout true is_written holds source bytes = DiffersIn holds source bytes
AnswersLayout false true holds source bytes = ⊥
AnswersLayout false false holds source bytes = PrintsLayout holds source bytes

-- A text differs from its layout, and the lines that say where have been written.
abbrev pub ToldChanges : (List ℕ → Type 0) → Option (List ℕ) → Option (List ℕ) → Failure → Type 0
ToldChanges Kind old new failure = (failure ≡ Differs) × ((lines : List ℕ) × Kind lines × Appends old new lines)

-- The other reason to fail, which only `--check` has: the text of the file differs from its layout.
abbrev pub OtherLayout : Bool → Holding → List ℕ → Option (List ℕ) → Option (List ℕ) → Failure → Type 0
OtherLayout true holds source old new failure = ToldChanges (DiffersIn holds source) old new failure
OtherLayout false holds source old new failure = ⊥

-- `fmt --check --json`: whether the text of a file is its layout, as a line of JSON says.
pub record ChecksLayout (holds : Holding) (source : List ℕ) (good : Bool) (line : Vec ℕ) : Type 0 where
  pub text : List ℕ
  pub layout : List ℕ
  pub lays : LaysOut holds source text layout
  pub verdict : good ≡ bytes_eq text layout
