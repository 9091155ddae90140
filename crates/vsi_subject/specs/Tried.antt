-- The output of `try`.
use Rattle.std.specs.Prelude.{ℕ, ℤ, false, List, [], Option, Some, None, Result, Ok}
use Rattle.std.specs.Borrow.{Bor}
use Rattle.std.specs.Global.{Vec}
use Rattle.std.specs.Str.Lossy.{utf8_lossy}
use Rattle.vsi_lattice.specs.NamePlaces.{texts}
use Rattle.vsi_lattice.specs.declared.lattice.Lattice.{Lattice}
use Rattle.vsi_types.specs.declared.rules.Profile.TheVariants.{Base}
use Rattle.vsi_image.specs.declared.instr.Image.{Image}
use Rattle.vsi_documents.specs.Named.{named_policy}
use Rattle.vsi_conform.specs.Beside.{beside}
use Rattle.vsi_answers.specs.Judged.{AreImage, Declares}
use Rattle.vsi_answers.specs.Requests.{Answer, BeginsWith, BuildsTo, RunsTo, ViewsTo}
use Rattle.vsi_answers.specs.declared.unanswered.Unanswered.{Unanswered}
use Rattle.vsi_arguments.specs.declared.request.Attempt.{Attempt}
use Rattle.vsi_subject.specs.Files.{LooksFor}
use Rattle.vsi_subject.specs.Holding.{Holding, IsLatticeAt, IsReadAt}
use Rattle.vsi_subject.specs.Input.{two_classes}

-- ---- the lattice.

-- The path at which a lattice file named by a text is opened: relative to the folder of the text.
abbrev pub policy_path : List ℕ → List ℕ → List ℕ
policy_path source path = utf8_lossy (beside source path)

-- The lattice of the file that a text names, or `L` below `H` if it names none.
abbrev pub IsNamedLattice : Holding → List ℕ → Option (List ℕ) → Lattice → Type 0
IsNamedLattice holds source (Some path) l = IsLatticeAt holds (policy_path source path) l
IsNamedLattice holds source None l = Declares two_classes l

-- The lattice that a text is tried under: that of the given file, or else the text's own.
abbrev pub IsTriedUnder : Holding → Option (Bor (List ℕ)) → List ℕ → List ℕ → Lattice → Type 0
IsTriedUnder holds (Some path) source text l = IsLatticeAt holds path.now l
IsTriedUnder holds None source text l = IsNamedLattice holds source (named_policy text) l

-- ---- the run.

-- The image whose bytes `build` makes from a text.
pub record IsMade (l : Lattice) (text : List ℕ) (im : Image) : Type 0 where
  pub bytes : Vec ℕ
  pub built : BuildsTo l Base text (Ok bytes)
  pub are : AreImage bytes.items im

-- The store that an image begins with: the settings, and zeros elsewhere.
abbrev pub BeginsSet : Image → List (Bor (List ℕ)) → Result (Vec ℤ) Unanswered → Type 0
BeginsSet im settings answer = BeginsWith im [] (texts settings) false answer

-- The answer of `run` for an image, or that of `view` for a class.
abbrev pub ShowsTo : Lattice → Option ℕ → Image → List ℤ → ℕ → Answer → Type 0
ShowsTo l None im words budget = RunsTo im words budget
ShowsTo l (Some class) im words budget = ViewsTo l class im words budget

-- The run of the image made from a text, beginning with the settings.
pub record RunsMade (l : Lattice) (viewer : Option ℕ) (a : Attempt) (text : List ℕ) (answer : Answer) : Type 0 where
  pub image : Image
  pub made : IsMade l text image
  pub words : Vec ℤ
  pub begins : BeginsSet image a.settings.items (Ok words)
  pub shows : ShowsTo l viewer image words.items a.budget answer

-- A source text, the lattice that it is tried under, and the class of the viewer.
pub record AreTried (holds : Holding) (a : Attempt) (l : Lattice) (viewer : Option ℕ) (text : List ℕ) : Type 0 where
  pub read : IsReadAt holds a.source.now text
  pub under : IsTriedUnder holds a.lattice a.source.now text l
  pub looks : LooksFor l a.class viewer

-- `try`: the lines of the run of the source text of a file.
pub record TriesFile (holds : Holding) (a : Attempt) (lines : Vec ℕ) : Type 0 where
  pub text : List ℕ
  pub lattice : Lattice
  pub viewer : Option ℕ
  pub tried : AreTried holds a lattice viewer text
  pub runs : RunsMade lattice viewer a text (Ok lines)
