-- Drives of an image that always halts.
use Rattle.std.specs.Prelude.{ℕ, ◌≤◌, ℤ, List}
use Rattle.vsi_lattice.specs.Order.{IsClass}
use Rattle.vsi_image.specs.Valid.{IsValid}
use Rattle.vsi_machine.specs.Bound.{AlwaysHalts}
use Rattle.vsi_compiler.specs.Observation.{IsNoninterfering, IsStoreOf}
use Rattle.vsi_drive.specs.Control.{Control}
use Rattle.vsi_drive.specs.Laws.{AllHalt, AlwaysAlike, ReleasedAlwaysAlike, ReleasesNothing}

-- The image of a controller is valid and always halts, and the budget of each cycle is at least its bound.
pub record IsBounded (c : Control) : Type 0 where
  pub least : ℕ
  pub most : ℕ
  pub valid : IsValid c.image
  pub halts : AlwaysHalts c.image least most
  pub enough : most ≤ c.budget

-- With such a budget no cycle is out of budget.
abbrev pub BoundedDrivesHalt : Type 0
BoundedDrivesHalt =
    (c : Control) (m : List ℤ) (lines : List (List ℕ)) → IsBounded c → IsStoreOf c.image m → AllHalt c m lines

-- With such a budget drives of a noninterfering image are alike: there is no premise that cycles halt.
abbrev pub SameBoundedDrives : Type 0
SameBoundedDrives =
    (c : Control) → ReleasesNothing c → IsClass c.order c.class → IsNoninterfering c.known c.order c.image →
    IsBounded c → AlwaysAlike c

-- With such a budget drives of a noninterfering image that release the same are alike.
abbrev pub SameReleasedBoundedDrives : Type 0
SameReleasedBoundedDrives =
    (c : Control) → IsClass c.order c.class → IsNoninterfering c.known c.order c.image → IsBounded c →
    ReleasedAlwaysAlike c
