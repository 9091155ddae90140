-- The files that a request names, and the text that is written of them.
use Rattle.std.specs.Prelude.{◌≡◌, ℕ, ℤ, Bool, List, [], Option, Some, None, IsSomeAnd}
use Rattle.std.specs.Borrow.{Bor}
use Rattle.std.specs.Global.{Vec}
use Rattle.std.specs.Io.KnownBytes.{Appends}
use Rattle.vsi_lattice.specs.LatticeView.{class_named, order}
use Rattle.vsi_lattice.specs.NamePlaces.{texts}
use Rattle.vsi_lattice.specs.Order.{IsClass}
use Rattle.vsi_lattice.specs.declared.lattice.Lattice.{Lattice}
use Rattle.vsi_image.specs.declared.instr.Image.{Image}
use Rattle.vsi_image.specs.Fields.{globals}
use Rattle.vsi_store.specs.File.{Names, Tells}
use Rattle.vsi_compiler.specs.Observation.{IsStoreOf}
use Rattle.vsi_drive.specs.Starts.{Begins, unnamed_in}
use Rattle.vsi_answers.specs.Bounds.{IsBound}
use Rattle.vsi_arguments.specs.declared.request.Budget.{Budget}
use Rattle.vsi_arguments.specs.declared.request.Budget.TheVariants.{Number, Auto}
use Rattle.vsi_arguments.specs.declared.request.Compilation.{Compilation}
use Rattle.vsi_arguments.specs.declared.request.Execution.{Execution}
use Rattle.vsi_arguments.specs.declared.request.InitialStore.{InitialStore}
use Rattle.vsi_subject.specs.Holding.{Holding, IsImageAt, IsLatticeAt, IsReadAt, IsStoreAt}

-- ---- what is written.

-- A text of this kind has been written.
pub record Writes (Kind : Vec ℕ → Type 0) (old new : Option (List ℕ)) : Type 0 where
  pub text : Vec ℕ
  pub is : Kind text
  pub written : Appends old new text.items

-- The part of a text that goes to the output: nothing if it is put into a file.
abbrev pub shown : Option (Bor (List ℕ)) → List ℕ → List ℕ
shown None text = text
shown (Some path) text = []

-- ---- of which files.

-- The lattice and the source text of a compilation, as the files hold them.
pub record AreFiles (holds : Holding) (c : Compilation) (l : Lattice) (source : List ℕ) : Type 0 where
  pub lattice : IsLatticeAt holds c.lattice.now l
  pub read : IsReadAt holds c.source.now source

-- The text written for the files of a compilation, where `Kind` describes it for a lattice and a source text.
pub record OfFiles (holds : Holding) (c : Compilation) (Kind : Lattice → List ℕ → Vec ℕ → Type 0) (text : Vec ℕ)
    : Type 0 where
  pub lattice : Lattice
  pub source : List ℕ
  pub files : AreFiles holds c lattice source
  pub is : Kind lattice source text

-- The text written for one file, where `Kind` describes it for the file's bytes.
pub record OfFile (holds : Holding) (path : List ℕ) (Kind : List ℕ → Vec ℕ → Type 0) (text : Vec ℕ) : Type 0 where
  pub bytes : List ℕ
  pub read : IsReadAt holds path bytes
  pub is : Kind bytes text

-- The image in a file, and the words that a run of it begins with: those of the store file, changed by the settings.
pub record BeginsAt (holds : Holding) (e : Execution) (o : InitialStore) (im : Image) (words : List ℤ) : Type 0 where
  pub image : IsImageAt holds e.image.now im
  pub file : List ℕ
  pub read : IsStoreAt holds e.store file
  pub begins : Begins im file (texts o.settings.items) o.is_full words
  pub whole : IsStoreOf im words

-- The words that a store file gives to the globals of an image.
pub record IsStoredAt (holds : Holding) (path : Option (Bor (List ℕ))) (im : Image) (words : List ℤ) : Type 0 where
  pub file : List ℕ
  pub read : IsStoreAt holds path file
  pub told : Tells file (globals im.globals.items) words

-- Each global of an image has a key in the store file, if that is required.
pub record IsFullAt (holds : Holding) (path : Option (Bor (List ℕ))) (im : Image) (is_full : Bool) : Type 0 where
  pub file : List ℕ
  pub read : IsStoreAt holds path file
  pub named : List Bool
  pub names : Names file (globals im.globals.items) named
  pub full : unnamed_in is_full named ≡ None

-- The class of the viewer, under the lattice that a file declares.
pub record LooksAt (holds : Holding) (path name : List ℕ) (l : Lattice) (class : ℕ) : Type 0 where
  pub lattice : IsLatticeAt holds path l
  pub named : class_named l name ≡ Some class
  pub is : IsClass (order l) class

-- The class of a viewer: that of the name, if one is given.
abbrev pub LooksFor : Lattice → Option (Bor (List ℕ)) → Option ℕ → Type 0
LooksFor l None viewer = viewer ≡ None
LooksFor l (Some name) viewer = IsSomeAnd viewer (λ a. class_named l name.now ≡ Some a)

-- The number of a budget: the given one, or with `auto` one within which the image halts from every store.
abbrev pub IsBudgetOf : Budget → Image → ℕ → Type 0
IsBudgetOf (Number given) image number = number ≡ given
IsBudgetOf Auto image number = IsBound image number
