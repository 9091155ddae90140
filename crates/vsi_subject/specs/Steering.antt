-- The class that drives an image or views its run, its lattice and its boundary.
use Rattle.std.specs.Prelude.{◌≡◌, ◌≤◌, ℕ, ◌++◌, Bool, true, false, List, Some, codes, map}
use Rattle.vsi_lattice.specs.LatticeView.{class_named, order}
use Rattle.vsi_lattice.specs.Order.{IsClass}
use Rattle.vsi_lattice.specs.declared.lattice.Lattice.{Lattice}
use Rattle.vsi_image.specs.declared.instr.Image.{Image}
use Rattle.vsi_drive.specs.Boundary.{Boundary}
use Rattle.vsi_conform.specs.Bounded.{demands_bound}
use Rattle.vsi_conform.specs.Reading.{cycle}
use Rattle.vsi_conform.specs.Totals.{total_of}
use Rattle.vsi_conform.specs.declared.reader.InterfaceFile.{InterfaceFile}
use Rattle.vsi_conform.specs.ImageConforms.{Conforms}
use Rattle.vsi_arguments.specs.declared.request.DrivePolicy.{DrivePolicy}
use Rattle.vsi_arguments.specs.declared.request.DrivePolicy.TheVariants as policy
use Rattle.vsi_arguments.specs.declared.request.Driving.{Driving}
use Rattle.vsi_arguments.specs.declared.request.TheConstants.{RUNS_BUDGET}
use Rattle.vsi_arguments.specs.declared.request.Viewing.{Viewing}
use Rattle.vsi_subject.specs.Boundaries.{boundary_at, requested}
use Rattle.vsi_subject.specs.Files.{LooksAt}
use Rattle.vsi_subject.specs.Holding.{Holding, IsLatticeAt}
use Rattle.vsi_subject.specs.Interfaces.{IsAskedAt, IsPolicyAt}
use Rattle.vsi_subject.specs.Reached.{AllowsReleases}

-- The interface of a file and its lattice, with runs that take together at most the default budget of `conform`.
pub record IsInForce (holds : Holding) (interface : List ℕ) (asked : InterfaceFile) (l : Lattice) : Type 0 where
  pub is_asked : IsAskedAt holds interface asked
  pub declared : IsPolicyAt holds interface asked.policy l
  pub within : total_of asked.interface ≤ RUNS_BUDGET

-- By the interface of a file, a class drives or views an image within a boundary: the image conforms to the interface
-- under the lattice of the interface, and no released output is reached by a global that isn't allowed; the lattice has
-- the class, and the boundary is the one that the interface has for it. An interface that requires a bound insists on
-- it: `--unbounded` isn't given.
pub record IsGoverned (holds : Holding) (interface class : List ℕ) (is_unbounded : Bool) (l : Lattice) (driver : ℕ)
    (im : Image) (b : Boundary) : Type 0 where
  pub asked : InterfaceFile
  pub force : IsInForce holds interface asked l
  pub named : class_named l class ≡ Some driver
  pub is : IsClass (order l) driver
  pub conforms : Conforms l im asked.interface
  pub allows : AllowsReleases l im asked
  pub bounded : boundary_at (map cycle asked.cycles.items) class ≡ Some b
  pub insists : is_unbounded ≡ true → demands_bound asked.interface.bounded ≡ false

-- By a lattice file, a class drives or views an image within the boundary that lists give.
pub record IsListed (holds : Holding) (path class : List ℕ) (listed : Boundary) (l : Lattice) (driver : ℕ)
    (b : Boundary) : Type 0 where
  pub looks : LooksAt holds path class l driver
  pub same : b ≡ listed

-- By a policy, with `--unbounded` or without, the class of this name, under a lattice and with an image, and its
-- boundary.
abbrev pub IsSteeredBy : Holding → List ℕ → DrivePolicy → Bool → Lattice → ℕ → Image → Boundary → Type 0
IsSteeredBy holds class (policy.Lattice path lists) is_unbounded l driver im b =
    IsListed holds path.now class (requested lists) l driver b
IsSteeredBy holds class (policy.Interface path) is_unbounded l driver im b =
    IsGoverned holds path.now class is_unbounded l driver im b

-- The same by the policy of a drive.
abbrev pub IsSteered : Holding → Driving → Lattice → ℕ → Image → Boundary → Type 0
IsSteered holds d = IsSteeredBy holds d.class.now d.policy d.is_unbounded

-- The same by the policy of a view.
abbrev pub IsViewed : Holding → Viewing → Lattice → ℕ → Image → Boundary → Type 0
IsViewed holds v = IsSteeredBy holds v.class.now v.policy v.is_unbounded

-- The lattice of a drive.
abbrev pub IsLatticeOf : Holding → DrivePolicy → Lattice → Type 0
IsLatticeOf holds (policy.Lattice path lists) l = IsLatticeAt holds path.now l
IsLatticeOf holds (policy.Interface path) l = (asked : InterfaceFile) × IsInForce holds path.now asked l

-- The line of a class that the tables of an interface leave out.
abbrev pub no_cycle_line : List ℕ → List ℕ
no_cycle_line class = codes "no cycle of class " ++ class ++ codes "\n"

-- The line of `--unbounded` with an interface that requires a bound.
abbrev pub insisting_line : List ℕ
insisting_line = codes "--unbounded refused: the interface requires a bound\n"
