-- The budgets of a drive, of a view within a boundary and of a comparison.
use Rattle.std.specs.Prelude.{◌≡◌, ◌≢◌, ◌<◌, ◌≤◌, ◌⊎◌, ◌++◌, ℕ, Bool, true, false, List, codes, decimal}
use Rattle.vsi_lattice.specs.LatticeView.{class_named, order}
use Rattle.vsi_lattice.specs.declared.lattice.Lattice.{Lattice}
use Rattle.vsi_image.specs.declared.instr.Image.{Image}
use Rattle.vsi_steady.specs.Refusal as steady
use Rattle.vsi_steady.specs.Steady.{IsSteady}
use Rattle.vsi_steady.specs.declared.check.SteadyError.{SteadyError}
use Rattle.vsi_steady.specs.declared.check.SteadyError.TheVariants as unsteady
use Rattle.vsi_answers.specs.Bounds.{IsBound, LacksBound}

-- A budget is enough for the runs of an image: the image has a bound, and the budget isn't below it or the image is
-- steady. Then whether a run is out of budget reveals nothing.
pub record IsEnough (l : Lattice) (image : Image) (budget : ℕ) : Type 0 where
  pub most : ℕ
  pub halts : IsBound image most
  pub covers : (most ≤ budget) ⊎ IsSteady (class_named l) (order l) image

-- A budget that is enough is taken, and with `--unbounded` any.
abbrev pub IsAdmitted : Bool → Lattice → Image → ℕ → Type 0
IsAdmitted true l image budget = Unit {0}
IsAdmitted false l image budget = IsEnough l image budget

-- The line of a budget below a bound.
abbrev pub short_line : ℕ → ℕ → List ℕ
short_line budget most =
    codes "budget below the bound: " ++ decimal budget ++ codes " of " ++ decimal most ++ codes " instructions\n"

-- The line says that a budget is below the bound of an image, which is refused as not steady.
pub record IsBelow (l : Lattice) (image : Image) (budget : ℕ) (line : List ℕ) : Type 0 where
  pub most : ℕ
  pub halts : IsBound image most
  pub below : budget < most
  pub error : SteadyError
  pub known : error ≢ unsteady.Memory
  pub refused : steady.Refuses (class_named l) (order l) image error
  pub says : line ≡ short_line budget most

-- The line says why a budget isn't enough: no bound was found for the image, or the budget is below it.
abbrev pub IsShort : Lattice → Image → ℕ → List ℕ → Type 0
IsShort l image budget line = LacksBound image line ⊎ IsBelow l image budget line
