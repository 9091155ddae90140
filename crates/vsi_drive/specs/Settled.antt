-- Pairs of runs of an image that always halts.
use Rattle.std.specs.Prelude.{ℕ, ◌≤◌, ℤ, List}
use Rattle.vsi_lattice.specs.Known.{Known}
use Rattle.vsi_lattice.specs.Order.{Lattice, IsLattice, IsClass}
use Rattle.vsi_image.specs.declared.instr.Image.{Image}
use Rattle.vsi_image.specs.Valid.{IsValid}
use Rattle.vsi_machine.specs.Counting.{HaltsIn}
use Rattle.vsi_machine.specs.Bound.{AlwaysHalts}
use Rattle.vsi_scope.specs.Meaning.{Store}
use Rattle.vsi_compiler.specs.Observation.{AgreeAt, Ends, IsNoninterfering, IsStoreOf}
use Rattle.vsi_steady.specs.Steady.{IsSteady}
use Rattle.vsi_steady.specs.Laws.{AgreeBelow}

-- Two runs with these budgets halt, in stores that agree at and below a class.
pub record EndAgreeing (known : Known) (L : Lattice) (image : Image) (a : ℕ) (m : Store) (budget : ℕ) (m' : Store)
    (budget' : ℕ) : Type 0 where
  pub last : Store
  pub last' : Store
  pub ends : Ends image m budget last
  pub ends' : Ends image m' budget' last'
  pub agree : AgreeAt known L image a last last'

-- If a noninterfering image always halts, every two runs from stores that agree at and below a class, with budgets of
-- at least its bound, halt in stores that agree there: there is no premise that they halt.
abbrev pub SettledNoninterference : Type 0
SettledNoninterference =
    (known : Known) (L : Lattice) (image : Image) (least most : ℕ) → IsNoninterfering known L image
    → AlwaysHalts image least most → (a : ℕ) (m m' : Store) (budget budget' : ℕ) → IsClass L a → IsStoreOf image m
    → IsStoreOf image m' → AgreeAt known L image a m m' → most ≤ budget → most ≤ budget'
    → EndAgreeing known L image a m budget m' budget'

-- Two runs have the same number of instructions, which is between these two.
pub record CountAlike (image : Image) (m m' : List ℤ) (least most : ℕ) : Type 0 where
  pub count : ℕ
  pub exact : HaltsIn image m count
  pub exact' : HaltsIn image m' count
  pub enough : least ≤ count
  pub few : count ≤ most

-- If a valid steady image always halts, every two runs from stores that agree at the bottom class have the same number
-- of instructions.
abbrev pub SettledCount : Type 0
SettledCount =
    (known : Known) (L : Lattice) (image : Image) (least most : ℕ) → IsLattice L → IsValid image
    → IsSteady known L image → AlwaysHalts image least most → (m m' : List ℤ)
    → AgreeBelow known L image L.bottom m m' → CountAlike image m m' least most
