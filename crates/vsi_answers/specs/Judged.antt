-- When a file is valid, and the report about one that isn't.
use Rattle.std.specs.Prelude.{◌≡◌, ◌≢◌, ◌⊎◌, ◌++◌, ℕ, Bool, List, Some, Ok, Err, codes}
use Rattle.vsi_syntax.specs.Tree.{Whole}
use Rattle.vsi_lattice.specs.FileFaults.{ExplainsLattice, IsAccepted, IsRead}
use Rattle.vsi_lattice.specs.LatticeView.{class_named, names, order}
use Rattle.vsi_lattice.specs.Shape.{File, IsFile}
use Rattle.vsi_lattice.specs.declared.lattice.Lattice.{Lattice}
use Rattle.vsi_lattice.specs.declared.reader.LatticeError.{LatticeError}
use Rattle.vsi_lattice.specs.declared.reader.LatticeError.TheVariants as lattice
use Rattle.vsi_types.specs.declared.rules.Profile.{Profile}
use Rattle.vsi_image.specs.declared.instr.Image.{Image}
use Rattle.vsi_image.specs.declared.decoder.DecodeError.TheVariants as decoder
use Rattle.vsi_image.specs.Faults.{first_fault}
use Rattle.vsi_image.specs.Fields.{fields, globals}
use Rattle.vsi_image.specs.Reading.{image_of}
use Rattle.vsi_image.specs.Valid.{IsValid}
use Rattle.vsi_store.specs.File.{IsRefusal}
use Rattle.vsi_store.specs.View.{first_unknown}
use Rattle.vsi_store.specs.declared.reader.StoreError.TheVariants as store
use Rattle.vsi_store.specs.declared.views.ViewError.TheVariants as views
use Rattle.vsi_compiler.specs.Headline.{IsImageOf}
use Rattle.vsi_compiler.specs.Readable.{HasProgram}
use Rattle.vsi_compiler.specs.Refusal.{IsRefused, RefusesProgram, RefusesTree}
use Rattle.vsi_compiler.specs.Source.{Reads}
use Rattle.vsi_compiler.specs.declared.source.CompileError.{CompileError}
use Rattle.vsi_compiler.specs.declared.source.CompileError.TheVariants as compiler
use Rattle.vsi_types.specs.declared.rules.Step.{Step}
use Rattle.vsi_steady.specs.Source.{ExplainsLoopedWalk}
use Rattle.vsi_steady.specs.Telling.{IsUnsteadyText}
use Rattle.vsi_steady.specs.declared.check.SteadyError.{SteadyError}
use Rattle.vsi_steady.specs.declared.source.UnsteadyError.{UnsteadyError}
use Rattle.vsi_steady.specs.declared.source.UnsteadyError.TheVariants as unsteady
use Rattle.vsi_drive.specs.Starts.{IsStartFault, start_fault_line}
use Rattle.vsi_drive.specs.declared.boundary.StartFault.{StartFault}
use Rattle.vsi_answers.specs.Files.{fault_diagnostic}
use Rattle.vsi_answers.specs.Texts.{IsRefusalText, text_of}
use Rattle.vsi_answers.specs.declared.diagnostic.Fault.{Fault}
use Rattle.vsi_answers.specs.declared.diagnostic.Fault.TheVariants as fault
use Rattle.vsi_answers.specs.declared.unanswered.Cause.TheVariants.{Source, File as InFile, Start, Steady, Raised}
use Rattle.vsi_answers.specs.Answers.{Telling}

-- The text is the refusal of a source text for an error of this kind.
abbrev pub TellsSource : (CompileError → Type 0) → Lattice → List ℕ → Telling
TellsSource Kind l source text (Source e) = (e ≢ compiler.Memory) × Kind e × IsRefusalText l source e text
TellsSource Kind l source text (InFile f) = ⊥
TellsSource Kind l source text (Start f) = ⊥
TellsSource Kind l source text (Steady e) = ⊥
TellsSource Kind l source text (Raised e) = ⊥

-- The text is the refusal of another file for a fault of this kind.
abbrev pub TellsFault : (Fault → Type 0) → Telling
TellsFault Kind text (Source e) = ⊥
TellsFault Kind text (InFile f) = Kind f × (text ≡ text_of (fault_diagnostic f))
TellsFault Kind text (Start f) = ⊥
TellsFault Kind text (Steady e) = ⊥
TellsFault Kind text (Raised e) = ⊥

-- The text of a walk with a loop in place of each choice: its line, followed by the explanation of the walk.
abbrev pub IsLoopedText : Lattice → List ℕ → List Step → List ℕ → Type 0
IsLoopedText l source steps text =
    (more : List ℕ) × ExplainsLoopedWalk l source steps more × (text ≡ codes "refused: 25 Refused\n" ++ more)

-- The text of the refusal of a text's image.
pub record IsImageText (l : Lattice) (source : List ℕ) (e : SteadyError) (text : List ℕ) : Type 0 where
  pub program : HasProgram (class_named l) source
  pub image : Image
  pub is_image : IsImageOf (class_named l) source image
  pub told : IsUnsteadyText l image e text

-- The text of a refusal when a steady image is required.
abbrev pub IsSteadyText : Lattice → List ℕ → UnsteadyError → List ℕ → Type 0
IsSteadyText l source (unsteady.Compile (compiler.Flow walk)) text = IsLoopedText l source walk.steps.items text
IsSteadyText l source (unsteady.Compile (compiler.Lex e)) text = IsRefusalText l source (compiler.Lex e) text
IsSteadyText l source (unsteady.Compile (compiler.Parse e)) text = IsRefusalText l source (compiler.Parse e) text
IsSteadyText l source (unsteady.Compile (compiler.Scope e)) text = IsRefusalText l source (compiler.Scope e) text
IsSteadyText l source (unsteady.Compile compiler.Memory) text = Unit {0}
IsSteadyText l source (unsteady.Image e) text = IsImageText l source e text
IsSteadyText l source unsteady.Memory text = Unit {0}

-- The text is the refusal of a source text, when a steady image is required, for an error of this kind.
abbrev pub TellsSteady : (UnsteadyError → Type 0) → Lattice → List ℕ → Telling
TellsSteady Kind l source text (Source e) = ⊥
TellsSteady Kind l source text (InFile f) = ⊥
TellsSteady Kind l source text (Start f) = ⊥
TellsSteady Kind l source text (Steady e) = (e ≢ unsteady.Memory) × Kind e × IsSteadyText l source e text
TellsSteady Kind l source text (Raised e) = ⊥

-- The refusal of a text with raised classes: its lines, and the line that names this text.
abbrev pub IsRaisedRefusal : Lattice → List ℕ → CompileError → List ℕ → Type 0
IsRaisedRefusal l raised e text =
    (lines : List ℕ) × IsRefusalText l raised e lines
    × (text ≡ lines ++ codes "in the text with the raised classes\n")

-- The text is the refusal of a text with raised classes, which is refused by an error of this kind.
abbrev pub TellsRaised : (List ℕ → CompileError → Type 0) → Lattice → Telling
TellsRaised Kind l text (Source e) = ⊥
TellsRaised Kind l text (InFile f) = ⊥
TellsRaised Kind l text (Start f) = ⊥
TellsRaised Kind l text (Steady e) = ⊥
TellsRaised Kind l text (Raised e) = (raised : List ℕ) × Kind raised e × IsRaisedRefusal l raised e text

-- The compiler refuses the text under a profile with this error, and the text isn't accepted.
abbrev pub IsCompileFault : Lattice → Profile → List ℕ → CompileError → Type 0
IsCompileFault l P source e = IsRefused (class_named l) (order l) P source e

-- The text has no tree or no resolution, and this error is the reason.
abbrev pub IsProgramFault : Lattice → List ℕ → CompileError → Type 0
IsProgramFault l source e = RefusesProgram (class_named l) source e × ¬ (HasProgram (class_named l) source)

-- The text has no tree, and this error is the reason.
abbrev pub IsTreeFault : List ℕ → CompileError → Type 0
IsTreeFault source e = RefusesTree source e × ((tree : Whole) → ¬ (Reads source tree))

-- The bytes of a lattice file declare this lattice.
abbrev pub Declares : List ℕ → Lattice → Type 0
Declares bytes l = IsRead bytes (names l) (order l)

-- The bytes aren't an accepted lattice file, and this error gives their first fault.
pub record IsNoLattice (bytes : List ℕ) (e : LatticeError) : Type 0 where
  pub other : e ≢ lattice.Memory
  pub told : ExplainsLattice bytes e
  pub unaccepted : (f : File) → IsFile bytes f → ¬ (IsAccepted f)

-- The fault of a lattice file.
abbrev pub IsLatticeFault : List ℕ → Fault → Type 0
IsLatticeFault bytes (fault.Lattice e) = IsNoLattice bytes e
IsLatticeFault bytes (fault.Decode e) = ⊥
IsLatticeFault bytes (fault.Verify e) = ⊥
IsLatticeFault bytes (fault.Store e) = ⊥
IsLatticeFault bytes (fault.View e) = ⊥

-- The bytes are those of this image, and it is valid.
abbrev pub AreImage : List ℕ → Image → Type 0
AreImage bytes image = (image_of bytes ≡ Ok (fields image)) × IsValid image

-- The fault of bytes that aren't an image, or of an image that isn't valid.
abbrev pub IsImageFault : List ℕ → Fault → Type 0
IsImageFault bytes (fault.Lattice e) = ⊥
IsImageFault bytes (fault.Decode e) = (e ≢ decoder.Memory) × (image_of bytes ≡ Err e)
IsImageFault bytes (fault.Verify e) =
    (image : Image) × (image_of bytes ≡ Ok (fields image)) × (first_fault image ≡ Some e)
IsImageFault bytes (fault.Store e) = ⊥
IsImageFault bytes (fault.View e) = ⊥

-- The text is the refusal of a run that doesn't start, for a fault of this kind.
abbrev pub TellsStartFault : (StartFault → Type 0) → Telling
TellsStartFault Kind text (Source e) = ⊥
TellsStartFault Kind text (InFile f) = ⊥
TellsStartFault Kind text (Start f) = Kind f × (text ≡ start_fault_line f)
TellsStartFault Kind text (Steady e) = ⊥
TellsStartFault Kind text (Raised e) = ⊥

-- The fault of a store file for an image.
abbrev pub IsStoreFault : Image → List ℕ → Fault → Type 0
IsStoreFault image file (fault.Lattice e) = ⊥
IsStoreFault image file (fault.Decode e) = ⊥
IsStoreFault image file (fault.Verify e) = ⊥
IsStoreFault image file (fault.Store e) = (e ≢ store.Memory) × IsRefusal (globals image.globals.items) file e
IsStoreFault image file (fault.View e) = ⊥

-- The text is the refusal of a store file, or of the settings after it.
abbrev pub TellsStart : Image → List ℕ → List (List ℕ) → Bool → Telling
TellsStart image file settings is_full text cause =
    TellsFault (IsStoreFault image file) text cause
    ⊎ TellsStartFault (IsStartFault image file settings is_full) text cause

-- The fault of an image whose first global with an unknown class is this one.
abbrev pub IsViewFault : Lattice → Image → Fault → Type 0
IsViewFault l image (fault.Lattice e) = ⊥
IsViewFault l image (fault.Decode e) = ⊥
IsViewFault l image (fault.Verify e) = ⊥
IsViewFault l image (fault.Store e) = ⊥
IsViewFault l image (fault.View (views.ClassNotInLattice i)) =
    first_unknown (class_named l) 0 (globals image.globals.items) ≡ Some i
IsViewFault l image (fault.View (views.WrongStore n)) = ⊥
IsViewFault l image (fault.View views.Memory) = ⊥
