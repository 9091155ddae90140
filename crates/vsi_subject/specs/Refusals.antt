-- Why a request has no answer: the refused file, or the request about it.
use Rattle.std.specs.Prelude.{◌≡◌, ◌≢◌, ◌⊎◌, ℕ, Bool, true, false, List, [], Option, Some, None, Result, Err, IsSomeAnd}
use Rattle.std.specs.Borrow.{Bor}
use Rattle.vsi_lattice.specs.LatticeView.{class_named}
use Rattle.vsi_lattice.specs.NamePlaces.{texts}
use Rattle.vsi_lattice.specs.declared.lattice.Lattice.{Lattice}
use Rattle.vsi_lattice.specs.declared.reader.LatticeError.TheVariants as lattice
use Rattle.vsi_image.specs.declared.decoder.DecodeError.TheVariants as decoder
use Rattle.vsi_image.specs.declared.instr.Image.{Image}
use Rattle.vsi_store.specs.declared.reader.StoreError.TheVariants as store
use Rattle.vsi_store.specs.declared.views.ViewError.TheVariants as views
use Rattle.vsi_answers.specs.declared.diagnostic.Fault.{Fault}
use Rattle.vsi_answers.specs.declared.diagnostic.Fault.TheVariants as fault
use Rattle.vsi_answers.specs.Answers.{Because}
use Rattle.vsi_answers.specs.Bounds as bounds
use Rattle.vsi_answers.specs.Judged.{Declares, IsProgramFault, IsStoreFault, TellsFault, TellsSource}
use Rattle.vsi_answers.specs.Requests.{Answer, AppliesTo, BeginsWith, BuildsTo, ChecksSteadyTo, ChecksTo, ClassesTo, FlowsTo, FormatsTo, MendsTo, ReadsImage, ReadsLattice, WalksTo}
use Rattle.vsi_answers.specs.declared.unanswered.Unanswered.{Unanswered}
use Rattle.vsi_answers.specs.declared.unanswered.Unanswered.TheVariants as unanswered
use Rattle.vsi_arguments.specs.declared.request.Budget.{Budget}
use Rattle.vsi_arguments.specs.declared.request.Budget.TheVariants.{Auto}
use Rattle.vsi_arguments.specs.declared.request.Compilation.{Compilation}
use Rattle.vsi_arguments.specs.declared.request.Execution.{Execution}
use Rattle.vsi_arguments.specs.declared.request.InitialStore.{InitialStore}
use Rattle.vsi_subject.specs.declared.failure.Failure.{Failure}
use Rattle.vsi_subject.specs.declared.failure.Failure.TheVariants as fails
use Rattle.vsi_subject.specs.Holding.{Holding, IsImageAt, IsLatticeAt, IsReadAt, IsStoreAt}
use Rattle.vsi_subject.specs.Input.{two_classes}
use Rattle.vsi_subject.specs.Files.{AreFiles}
use Rattle.vsi_subject.specs.Performed.{profile_of}

-- ---- the meaning of a failure.

-- The first property holds for the reason of a refused file or text and of a run out of budget, the second holds for
-- the other failures of status 1 and for a missing class, and nothing is claimed about mistaken arguments, file faults
-- and lack of memory.
abbrev pub FailsBy : (Unanswered → Type 0) → (Failure → Type 0) → Failure → Type 0
FailsBy why other (fails.Refused text (Some cause)) = why (unanswered.Refused text cause)
FailsBy why other (fails.Refused text None) = other (fails.Refused text None)
FailsBy why other (fails.Interface text error) = other (fails.Interface text error)
FailsBy why other (fails.Audit text error) = other (fails.Audit text error)
FailsBy why other (fails.Unsteady text error) = other (fails.Unsteady text error)
FailsBy why other fails.Differs = other fails.Differs
FailsBy why other (fails.Usage text) = Unit {0}
FailsBy why other (fails.NoClass name) = other (fails.NoClass name)
FailsBy why other fails.OutOfBudget = why unanswered.OutOfBudget
FailsBy why other (fails.FileFault path) = Unit {0}
FailsBy why other (fails.LostFile path) = Unit {0}
FailsBy why other fails.Memory = Unit {0}

-- There is no other failure of status 1, and no class is missing.
abbrev pub NoOther : Failure → Type 0
NoOther failure = ⊥

-- The fault isn't lack of memory.
abbrev pub IsNoMemory : Fault → Type 0
IsNoMemory (fault.Lattice e) = e ≢ lattice.Memory
IsNoMemory (fault.Decode e) = e ≢ decoder.Memory
IsNoMemory (fault.Verify e) = Unit {0}
IsNoMemory (fault.Store e) = e ≢ store.Memory
IsNoMemory (fault.View e) = e ≢ views.Memory

-- A lattice has no class of this name, and the failure gives that name.
abbrev pub LacksClass : Lattice → List ℕ → Failure → Type 0
LacksClass l name (fails.NoClass told) = (told.now ≡ name) × (class_named l name ≡ None)
LacksClass l name failure = ⊥

-- A lattice has no class of the name, if one is given.
abbrev pub LacksGiven : Lattice → Option (Bor (List ℕ)) → Failure → Type 0
LacksGiven l name failure = IsSomeAnd name (λ n. LacksClass l n.now failure)

-- The text of the failure says why no bound was found for an image.
abbrev pub IsUnbounded : Image → Failure → Type 0
IsUnbounded image (fails.Refused text None) = bounds.LacksBound image text.items
IsUnbounded image failure = ⊥

-- With the budget `auto` no bound was found for an image, and the text of the failure says why.
abbrev pub LacksBound : Budget → Image → Failure → Type 0
LacksBound budget image (fails.Refused text None) = (budget ≡ Auto) × bounds.LacksBound image text.items
LacksBound budget image failure = ⊥

-- ---- the refused file, or the request about it.

-- The lattice of a file has no class of this name.
abbrev pub LacksClassAt : Holding → List ℕ → List ℕ → Failure → Type 0
LacksClassAt holds path name failure = (l : Lattice) × IsLatticeAt holds path l × LacksClass l name failure

-- With the budget `auto` no bound was found for the image of a file.
abbrev pub LacksBoundAt : Holding → List ℕ → Budget → Failure → Type 0
LacksBoundAt holds path budget failure = (image : Image) × IsImageAt holds path image × LacksBound budget image failure

-- The lattice of a file has no class of this name, or no bound was found for the image of another one.
abbrev pub LacksEither : Holding → List ℕ → List ℕ → List ℕ → Budget → Failure → Type 0
LacksEither holds lattice class path budget failure =
    LacksClassAt holds lattice class failure ⊎ LacksBoundAt holds path budget failure

-- A request about the bytes of a file has no answer, for this reason.
pub record RefusesFile {T : Type 0} (holds : Holding) (path : List ℕ) (Ask : List ℕ → Result T Unanswered → Type 0)
    (reason : Unanswered) : Type 0 where
  pub bytes : List ℕ
  pub read : IsReadAt holds path bytes
  pub is : Ask bytes (Err reason)

-- A lattice file is refused.
abbrev pub RefusesLattice : Holding → List ℕ → Unanswered → Type 0
RefusesLattice holds path = RefusesFile holds path ReadsLattice

-- An image file is refused.
abbrev pub RefusesImage : Holding → List ℕ → Unanswered → Type 0
RefusesImage holds path = RefusesFile holds path ReadsImage

-- A request about a lattice and a source text has no answer, for this reason.
pub record RefusesText (holds : Holding) (c : Compilation) (Ask : Lattice → List ℕ → Answer → Type 0)
    (reason : Unanswered) : Type 0 where
  pub lattice : Lattice
  pub source : List ℕ
  pub files : AreFiles holds c lattice source
  pub is : Ask lattice source (Err reason)

-- A request about a compilation has no answer, for this reason: its lattice file is refused, or else its source text.
abbrev pub RefusesFiles : Holding → Compilation → (Lattice → List ℕ → Answer → Type 0) → Unanswered → Type 0
RefusesFiles holds c Ask reason = RefusesLattice holds c.lattice.now reason ⊎ RefusesText holds c Ask reason

-- The words that a run begins with are refused: the store file, or the settings applied to it.
pub record RefusesStart (holds : Holding) (e : Execution) (o : InitialStore) (reason : Unanswered) : Type 0 where
  pub image : Image
  pub held : IsImageAt holds e.image.now image
  pub file : List ℕ
  pub read : IsStoreAt holds e.store file
  pub is : BeginsWith image file (texts o.settings.items) o.is_full (Err reason)

-- A store file is refused for the image of a file.
pub record RefusesStore (holds : Holding) (path : List ℕ) (store : Option (Bor (List ℕ))) (reason : Unanswered)
    : Type 0 where
  pub image : Image
  pub held : IsImageAt holds path image
  pub file : List ℕ
  pub read : IsStoreAt holds store file
  pub is : Because (TellsFault (IsStoreFault image file)) ⊥ reason

-- The words that a drive of the image in a file begins with are refused: the store file, or that it leaves out a
-- global, if that is required.
pub record RefusesFirst (holds : Holding) (path : List ℕ) (store : Option (Bor (List ℕ))) (is_full : Bool)
    (reason : Unanswered) : Type 0 where
  pub image : Image
  pub held : IsImageAt holds path image
  pub file : List ℕ
  pub read : IsStoreAt holds store file
  pub is : BeginsWith image file [] is_full (Err reason)

-- The source text of a file has no program under a lattice, and is refused.
pub record RefusesProgramAt (holds : Holding) (l : Lattice) (path : List ℕ) (reason : Unanswered) : Type 0 where
  pub text : List ℕ
  pub read : IsReadAt holds path text
  pub is : Because (TellsSource (IsProgramFault l text) l text) ⊥ reason

-- The same under the lattice of a file.
pub record RefusesSource (holds : Holding) (lattice source : List ℕ) (reason : Unanswered) : Type 0 where
  pub classes : Lattice
  pub declared : IsLatticeAt holds lattice classes
  pub refused : RefusesProgramAt holds classes source reason

-- ---- what is asked.

-- The request of `check`, and that of `check --steady`.
abbrev pub AsksCheck : Bool → Bool → Lattice → List ℕ → Answer → Type 0
AsksCheck true is_strict l source = ChecksSteadyTo l source
AsksCheck false is_strict l source = ChecksTo l (profile_of is_strict) source

-- The request of `classes`.
abbrev pub AsksClasses : Bool → Lattice → List ℕ → Answer → Type 0
AsksClasses is_strict l source = ClassesTo l (profile_of is_strict) source

-- The request of `flows`, and that of `flows --walks`.
abbrev pub AsksFlows : Bool → Bool → Lattice → List ℕ → Answer → Type 0
AsksFlows true is_strict l source = WalksTo l (profile_of is_strict) source
AsksFlows false is_strict l source = FlowsTo l (profile_of is_strict) source

-- The request of `mend`, and that of `mend --apply`.
abbrev pub AsksMend : Bool → Bool → Lattice → List ℕ → Answer → Type 0
AsksMend true is_strict l source = AppliesTo l (profile_of is_strict) source
AsksMend false is_strict l source = MendsTo l (profile_of is_strict) source

-- The request of `build`.
abbrev pub AsksImage : Bool → Lattice → List ℕ → Answer → Type 0
AsksImage is_strict l source = BuildsTo l (profile_of is_strict) source

-- The request of `fmt`, whose refusals need no lattice and are reported as under two classes.
abbrev pub AsksCanonical : List ℕ → Answer → Type 0
AsksCanonical source answer = (l : Lattice) × Declares two_classes l × FormatsTo l source answer
