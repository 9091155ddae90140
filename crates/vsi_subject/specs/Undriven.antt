-- Why an image isn't driven, or why no class views it.
use Rattle.std.specs.Prelude.{◌≡◌, ◌⊎◌, ℕ, Bool, true, false, List, map, Option, Some, None, Err}
use Rattle.std.specs.Borrow.{Bor}
use Rattle.vsi_lattice.specs.declared.lattice.Lattice.{Lattice}
use Rattle.vsi_image.specs.declared.instr.Image.{Image}
use Rattle.vsi_drive.specs.BoundaryFaults.{boundary_fault}
use Rattle.vsi_drive.specs.Boundary.{Boundary}
use Rattle.vsi_drive.specs.Control.{Control, controlled}
use Rattle.vsi_drive.specs.declared.boundary.BoundaryFault.{BoundaryFault}
use Rattle.vsi_drive.specs.declared.boundary.StartFault.{StartFault}
use Rattle.vsi_drive.specs.declared.boundary.StartFault.TheVariants as start
use Rattle.vsi_conform.specs.Bounded.{demands_bound}
use Rattle.vsi_conform.specs.Faulty.{interface_line}
use Rattle.vsi_conform.specs.Reading.{ClassBoundary, cycle}
use Rattle.vsi_conform.specs.declared.reader.InterfaceFile.{InterfaceFile}
use Rattle.vsi_conform.specs.declared.reader.Policy.{Policy}
use Rattle.vsi_conform.specs.declared.reader.Policy.TheVariants.{File, Tables}
use Rattle.vsi_answers.specs.Answers.{Because}
use Rattle.vsi_answers.specs.Judged.{IsViewFault, TellsFault, TellsStartFault}
use Rattle.vsi_answers.specs.Requests.{ReadsLattice}
use Rattle.vsi_answers.specs.declared.unanswered.Unanswered.{Unanswered}
use Rattle.vsi_arguments.specs.declared.request.Budget.{Budget}
use Rattle.vsi_arguments.specs.declared.request.DrivePolicy.{DrivePolicy}
use Rattle.vsi_arguments.specs.declared.request.DrivePolicy.TheVariants as policy
use Rattle.vsi_arguments.specs.declared.request.Driving.{Driving}
use Rattle.vsi_arguments.specs.declared.request.Viewing.{Viewing}
use Rattle.vsi_subject.specs.declared.failure.Failure.{Failure}
use Rattle.vsi_subject.specs.declared.failure.Failure.TheVariants as fails
use Rattle.vsi_subject.specs.Admitted.{IsShort}
use Rattle.vsi_subject.specs.Beginning.{IsBegunFrom}
use Rattle.vsi_subject.specs.Boundaries.{boundary_at}
use Rattle.vsi_subject.specs.Holding.{Holding, IsImageAt}
use Rattle.vsi_subject.specs.Interfaces.{IsAskedAt, named_path}
use Rattle.vsi_subject.specs.Steering.{IsInForce, IsLatticeOf, IsSteered, insisting_line, no_cycle_line}
use Rattle.vsi_subject.specs.Reached.{TellsDifference}
use Rattle.vsi_subject.specs.Files.{IsBudgetOf}
use Rattle.vsi_subject.specs.Refusals.{LacksBoundAt, LacksClass, LacksClassAt, RefusesFirst, RefusesImage, RefusesLattice}

-- The lattice of an interface is refused: that of the file that it names, or its own tables.
abbrev pub RefusesPolicy : Holding → List ℕ → Policy → Unanswered → Type 0
RefusesPolicy holds interface (File path) reason = RefusesLattice holds (named_path interface path) reason
RefusesPolicy holds interface (Tables text) reason = ReadsLattice text.items (Err reason)

-- `conform`: the lattice of the interface of the file is refused.
pub record RefusesAsked (holds : Holding) (path : List ℕ) (reason : Unanswered) : Type 0 where
  pub asked : InterfaceFile
  pub interface : IsAskedAt holds path asked
  pub refused : RefusesPolicy holds path asked.policy reason

-- `conform`: the interface is refused with an error that the text describes; nothing claims that the interface has it.
abbrev pub IsUnusable : Failure → Type 0
IsUnusable (fails.Interface text error) = text.items ≡ interface_line error
IsUnusable failure = ⊥

-- The failure is a refusal with this line.
abbrev pub SaysLine : List ℕ → Failure → Type 0
SaysLine line (fails.Refused text None) = text.items ≡ line
SaysLine line failure = ⊥

-- `drive`: the lattice lacks the class of a global of the image.
pub record RefusesController (holds : Holding) (d : Driving) (reason : Unanswered) : Type 0 where
  pub lattice : Lattice
  pub driver : ℕ
  pub image : Image
  pub boundary : Boundary
  pub steered : IsSteered holds d lattice driver image boundary
  pub held : IsImageAt holds d.execution.image.now image
  pub is : Because (TellsFault (IsViewFault lattice image)) ⊥ reason

-- The boundary of a controller has this fault, so that no drive begins.
abbrev pub IsBoundaryStart : Control → StartFault → Type 0
IsBoundaryStart c fault = (f : BoundaryFault) × (fault ≡ start.Boundary f) × (boundary_fault c ≡ Some f)

-- A controller is refused: the lattice lacks the class of a global, or the boundary has a fault.
abbrev pub RefusesControl : Boundary → Lattice → ℕ → Image → ℕ → Unanswered → Type 0
RefusesControl b l driver image budget reason =
    Because (TellsFault (IsViewFault l image)) ⊥ reason
    ⊎ Because (TellsStartFault (IsBoundaryStart (controlled l driver image budget b))) ⊥ reason

-- `drive`: the boundary has a fault.
pub record RefusesBoundary (holds : Holding) (d : Driving) (reason : Unanswered) : Type 0 where
  pub lattice : Lattice
  pub driver : ℕ
  pub image : Image
  pub boundary : Boundary
  pub steered : IsSteered holds d lattice driver image boundary
  pub held : IsImageAt holds d.execution.image.now image
  pub budget : ℕ
  pub within : IsBudgetOf d.execution.budget image budget
  pub is : Because (TellsStartFault (IsBoundaryStart (controlled lattice driver image budget boundary))) ⊥ reason

-- The lattice of a drive or of a view is refused: that of a file, or of an interface.
abbrev pub RefusesSteering : Holding → DrivePolicy → Unanswered → Type 0
RefusesSteering holds (policy.Lattice path lists) reason = RefusesLattice holds path.now reason
RefusesSteering holds (policy.Interface path) reason = RefusesAsked holds path.now reason

-- `drive`: the store file with which the drive begins is refused, or it leaves out a global that it must have.
abbrev pub RefusesBegun : Holding → Driving → Unanswered → Type 0
RefusesBegun holds d reason =
    (path : Option (Bor (List ℕ))) × IsBegunFrom holds d path
    × RefusesFirst holds d.execution.image.now path d.is_full reason

-- `drive`: the lattice is refused, or the image, or the store file, or no controller begins; a wrong line of the input
-- isn't a reason, because its cycle writes the fault.
abbrev pub WhyDrive : Holding → Driving → Unanswered → Type 0
WhyDrive holds d reason =
    RefusesSteering holds d.policy reason ⊎ RefusesImage holds d.execution.image.now reason
    ⊎ RefusesBegun holds d reason ⊎ RefusesController holds d reason ⊎ RefusesBoundary holds d reason

-- The text of the failure says why a budget isn't enough.
abbrev pub SaysShort : Lattice → Image → ℕ → Failure → Type 0
SaysShort l image budget (fails.Refused text None) = IsShort l image budget text.items
SaysShort l image budget failure = ⊥

-- The budget isn't enough for the image of a file, under a lattice of this kind, and `--unbounded` isn't given.
pub record FallsShort (holds : Holding) (is_unbounded : Bool) (Kind : Lattice → Type 0) (path : List ℕ) (given : Budget)
    (failure : Failure) : Type 0 where
  pub bounded : is_unbounded ≡ false
  pub lattice : Lattice
  pub declared : Kind lattice
  pub image : Image
  pub held : IsImageAt holds path image
  pub budget : ℕ
  pub within : IsBudgetOf given image budget
  pub is : SaysShort lattice image budget failure

-- The text of the failure has the lines that `conform` writes of an image that doesn't conform to an interface.
abbrev pub SaysDiffering : Lattice → Image → InterfaceFile → Failure → Type 0
SaysDiffering l image asked (fails.Refused text None) = TellsDifference l image asked text.items
SaysDiffering l image asked failure = ⊥

-- By an interface: the image of a file doesn't conform to it.
pub record DiffersGoverned (holds : Holding) (interface path : List ℕ) (failure : Failure) : Type 0 where
  pub asked : InterfaceFile
  pub lattice : Lattice
  pub force : IsInForce holds interface asked lattice
  pub image : Image
  pub held : IsImageAt holds path image
  pub is : SaysDiffering lattice image asked failure

-- These boundaries leave out a class, and the text of the failure says so.
abbrev pub LacksCycle : List ClassBoundary → List ℕ → Failure → Type 0
LacksCycle bs class failure = (boundary_at bs class ≡ None) × SaysLine (no_cycle_line class) failure

-- By an interface: its lattice has no class of the name, or its tables leave out the class.
pub record LacksGovernedClass (holds : Holding) (interface class : List ℕ) (failure : Failure) : Type 0 where
  pub asked : InterfaceFile
  pub lattice : Lattice
  pub force : IsInForce holds interface asked lattice
  pub is : LacksClass lattice class failure ⊎ LacksCycle (map cycle asked.cycles.items) class failure

-- By an interface: it requires a bound, `--unbounded` is given, and the text of the failure says so.
pub record InsistsGoverned (holds : Holding) (interface : List ℕ) (is_unbounded : Bool) (failure : Failure)
    : Type 0 where
  pub unbounded : is_unbounded ≡ true
  pub asked : InterfaceFile
  pub lattice : Lattice
  pub force : IsInForce holds interface asked lattice
  pub required : demands_bound asked.interface.bounded ≡ true
  pub says : SaysLine insisting_line failure

-- By an interface: it is refused, or it lacks the class, or the image doesn't conform to it, or it insists on a bound.
abbrev pub LacksGoverned : Holding → List ℕ → List ℕ → List ℕ → Bool → Failure → Type 0
LacksGoverned holds interface class path is_unbounded failure =
    IsUnusable failure ⊎ LacksGovernedClass holds interface class failure ⊎ DiffersGoverned holds interface path failure
    ⊎ InsistsGoverned holds interface is_unbounded failure

-- The lattice of a file has no class of this name, or an interface doesn't let the class drive or view the image.
abbrev pub LacksPolicy : Holding → List ℕ → List ℕ → DrivePolicy → Bool → Failure → Type 0
LacksPolicy holds class image (policy.Lattice path lists) is_unbounded failure = LacksClassAt holds path.now class failure
LacksPolicy holds class image (policy.Interface path) is_unbounded failure =
    LacksGoverned holds path.now class image is_unbounded failure

-- The same by the policy of a drive.
abbrev pub LacksSteering : Holding → Driving → Failure → Type 0
LacksSteering holds d = LacksPolicy holds d.class.now d.execution.image.now d.policy d.is_unbounded

-- `view` within a boundary: the class doesn't view the image, no bound was found for the image, or the budget isn't
-- enough.
abbrev pub LacksView : Holding → Viewing → Failure → Type 0
LacksView holds v failure =
    (LacksPolicy holds v.class.now v.execution.image.now v.policy v.is_unbounded failure
    ⊎ LacksBoundAt holds v.execution.image.now v.execution.budget failure)
    ⊎ FallsShort holds v.is_unbounded (IsLatticeOf holds v.policy) v.execution.image.now v.execution.budget failure

-- `drive`: the class doesn't drive the image, no bound was found for the image, or the budget isn't enough.
abbrev pub LacksDrive : Holding → Driving → Failure → Type 0
LacksDrive holds d failure =
    (LacksSteering holds d failure ⊎ LacksBoundAt holds d.execution.image.now d.execution.budget failure)
    ⊎ FallsShort holds d.is_unbounded (IsLatticeOf holds d.policy) d.execution.image.now d.execution.budget failure
