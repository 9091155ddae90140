-- The programs of a project file, each judged as the file requires.
use Rattle.std.specs.Prelude.{◌≡◌, ◌≤◌, ◌==◌, ℕ, ◌+◌, ◌++◌, ◌∷◌, ℤ, Bool, true, false, List, [], Option, None, Some, IfSome, Contains, codes, string_bytes}
use Rattle.std.specs.Borrow.{Bor}
use Rattle.std.specs.Global.{Vec}
use Rattle.vsi_lattice.specs.LatticeView.{class_named, order}
use Rattle.vsi_lattice.specs.declared.lattice.Lattice.{Lattice}
use Rattle.vsi_image.specs.Fields.{globals}
use Rattle.vsi_image.specs.declared.instr.Image.{Image}
use Rattle.vsi_store.specs.File.{Tells}
use Rattle.vsi_store.specs.Seal.{is_whole}
use Rattle.vsi_answers.specs.Bounds.{IsBound}
use Rattle.vsi_conform.specs.Conformity.{Said, conforms as is_well}
use Rattle.vsi_conform.specs.Conforms.{Conforms, IsAcceptedAs}
use Rattle.vsi_conform.specs.Totals.{total_of}
use Rattle.vsi_conform.specs.declared.reader.InterfaceFile.{InterfaceFile}
use Rattle.vsi_project.specs.declared.reader.Program.{Program}
use Rattle.vsi_arguments.specs.declared.request.Projecting.{Projecting}
use Rattle.vsi_subject.specs.Documents.{judgement_of}
use Rattle.vsi_subject.specs.Holding.{Holding, IsLatticeAt, IsReadAt}
use Rattle.vsi_subject.specs.Interfaces.{IsAskedAt, IsPolicyAt}
use Rattle.vsi_subject.specs.Reached.{AreReleasedIn, IsTried}
use Rattle.vsi_subject.specs.Surveys.{Concludes}
use Rattle.vsi_subject.specs.declared.failure.Failure.{Failure}
use Rattle.vsi_subject.specs.declared.failure.Failure.TheVariants as fails

-- ---- what a project file requires of a program.

-- The file at the path is a store of the image: it is whole, and gives words to the globals.
pub record IsStoreIn (holds : Holding) (path : List ℕ) (image : Image) : Type 0 where
  pub file : List ℕ
  pub read : IsReadAt holds path file
  pub whole : is_whole file ≡ true
  pub words : List ℤ
  pub gives : Tells file (globals image.globals.items) words

-- The interface in a file, and its lattice. Its runs take together no more instructions than the budget has.
pub record IsRequired (holds : Holding) (budget : ℕ) (path : List ℕ) (asked : InterfaceFile) (l : Lattice)
    : Type 0 where
  pub interface : IsAskedAt holds path asked
  pub lattice : IsPolicyAt holds path asked.policy l
  pub within : total_of asked.interface ≤ budget

-- The answer about a source text beside an interface is correct: no point differs only if the text conforms, and it has
-- the released outputs, and a trial exactly if the interface names a reference.
pub record IsAnswerTo (l : Lattice) (source : List ℕ) (asked : InterfaceFile) (said : Said) : Type 0 where
  pub fits : said.fits ≡ true → Conforms l source asked.interface
  pub released : AreReleasedIn false l source asked said.found
  pub tried : IsTried asked.reference said.tried

-- A source text conforms to the interface in a file, under the interface's lattice.
pub record ConformsIn (holds : Holding) (budget : ℕ) (path source : List ℕ) : Type 0 where
  pub asked : InterfaceFile
  pub lattice : Lattice
  pub required : IsRequired holds budget path asked lattice
  pub said : Said
  pub is : IsAnswerTo lattice source asked said
  pub well : is_well said ≡ true

-- A program whose text has this image meets the other requirements: the image has a bound if one is required, the store
-- file is one of the image, if there is one, and the text conforms to the interface, if there is one.
pub record MeetsAll (holds : Holding) (budget : ℕ) (p : Program) (source : List ℕ) (image : Image) : Type 0 where
  pub bound : p.is_bounded ≡ true → (most : ℕ) × IsBound image most
  pub store : IfSome p.store (λ path. IsStoreIn holds (string_bytes path) image)
  pub interface : IfSome p.interface (λ path. ConformsIn holds budget (string_bytes path) source)

-- A program is right: its text is accepted under its lattice and profile, and it meets the other requirements.
pub record IsRight (holds : Holding) (budget : ℕ) (p : Program) : Type 0 where
  pub lattice : Lattice
  pub declared : IsLatticeAt holds (string_bytes p.lattice) lattice
  pub source : List ℕ
  pub read : IsReadAt holds (string_bytes p.source) source
  pub image : Image
  pub accepted :
      IsAcceptedAs (class_named lattice) (order lattice) (judgement_of p.is_steady p.is_strict) source image
  pub meets : MeetsAll holds budget p source image

-- ---- their verdicts.

-- Each of these programs has one verdict, in their order: so many are right, and so many are wrong.
pub data Judges (holds : Holding) (budget : ℕ) : List Program → ℕ → ℕ → Type 0 where
  NONE : Judges holds budget [] 0 0
  RIGHT : (before : List Program) (p : Program) (r w : ℕ) → Judges holds budget before r w → IsRight holds budget p →
      Judges holds budget (before ++ p ∷ []) (r + 1) w
  WRONG : (before : List Program) (p : Program) (r w : ℕ) → Judges holds budget before r w →
      Judges holds budget (before ++ p ∷ []) r (w + 1)

-- This is one of these programs, and it has this name.
pub record IsNamedIn (name : List ℕ) (programs : List Program) (p : Program) : Type 0 where
  pub among : Contains programs p
  pub named : string_bytes p.name ≡ name

-- All programs of a project are chosen, or the one of a name.
abbrev pub AreChosen : Option (Bor (List ℕ)) → List Program → List Program → Type 0
AreChosen None programs chosen = chosen ≡ programs
AreChosen (Some name) programs chosen = (p : Program) × IsNamedIn name.now programs p × (chosen ≡ p ∷ [])

-- The answer for the programs that a project file names, which is good exactly if none is wrong.
pub record ProjectsFiles (holds : Holding) (asked : Projecting) (good : Bool) (text : Vec ℕ) : Type 0 where
  pub bytes : List ℕ
  pub read : IsReadAt holds asked.project.now bytes
  pub programs : List Program
  pub chosen : List Program
  pub are : AreChosen asked.name programs chosen
  pub right : ℕ
  pub wrong : ℕ
  pub judges : Judges holds asked.budget chosen right wrong
  pub good_is : good ≡ (wrong == 0)
  pub concludes :
      Concludes asked.form (codes "program") (codes "right") (codes "wrong") right wrong text.items

-- The project file is refused.
abbrev pub IsFaulty : Failure → Type 0
IsFaulty (fails.Refused text None) = Unit {0}
IsFaulty failure = ⊥
