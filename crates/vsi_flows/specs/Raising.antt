-- The answer for a program: the raises that make it accepted, or a walk that no raise permits.
use Rattle.std.specs.Prelude.{◌≡◌, ℕ, zero, suc, ◌<◌, ◌==◌, if◌then◌else◌, Option, Some, None, List, [], ◌∷◌, ◌++◌, map, slice_index}
use Rattle.std.specs.List.{All}
use Rattle.vsi_lattice.specs.Order.{Lattice, Below}
use Rattle.vsi_types.specs.declared.rules.Profile.{Profile}
use Rattle.vsi_types.specs.declared.rules.Step.{Step}
use Rattle.vsi_types.specs.Steps.{sink}
use Rattle.vsi_types.specs.Security.{Program, steps_of}
use Rattle.vsi_types.specs.Walks.{declared_class, IsBad}
use Rattle.vsi_infer.specs.Flowing.{size_of}
use Rattle.vsi_infer.specs.Paths.{IsPath}
use Rattle.vsi_flows.specs.declared.least.Raise.{Raise}
use Rattle.vsi_flows.specs.declared.least.Raising.{Raising}
use Rattle.vsi_flows.specs.declared.least.Raising.TheVariants.{Raised, Refused}
use Rattle.vsi_flows.specs.Policy.{IsLeastPolicy, IsHopeless}

-- A declaration, its declared class and another one.
pub record Change : Type 0 where
  pub variable : ℕ
  pub old : ℕ
  pub new : ℕ

-- The change of a declared class to another one, if they differ.
abbrev pub change : ℕ → ℕ → ℕ → List Change
change v old new = if old == new then [] else record { variable = v; old = old; new = new } ∷ []

-- The change at a declaration, if a class is declared there.
abbrev pub change_at : ℕ → Option ℕ → ℕ → List Change
change_at v None new = []
change_at v (Some old) new = change v old new

-- The changes from the declared classes to those of a policy at the first n declarations, in their order.
abbrev pub changes : Lattice → Program → List ℕ → ℕ → List Change
changes L p policy zero = []
changes L p policy (suc n) = changes L p policy n ++ change_at n (declared_class L p n) (slice_index policy n)

-- The change that a raise makes.
abbrev pub change_of : Raise → Change
change_of r = record { variable = r.variable; old = r.old; new = r.new }

-- A declared variable whose class isn't at or below the old one reaches the raised variable.
pub record IsForced (L : Lattice) (P : Profile) (p : Program) (r : Raise) : Type 0 where
  pub within : r.cause < size_of p
  pub class : ℕ
  pub declared : declared_class L p r.cause ≡ Some class
  pub high : Below L class r.old → ⊥
  pub walk : List Step
  pub path : IsPath (steps_of P p) r.cause walk r.variable

-- The raises are the changes to the least policy under which the program is accepted, and each is forced.
pub record AreLeastRaises (L : Lattice) (P : Profile) (p : Program) (raises : List Raise) : Type 0 where
  pub policy : List ℕ
  pub least : IsLeastPolicy L P p policy
  pub listed : map change_of raises ≡ changes L p policy (size_of p)
  pub forced : All (IsForced L P p) raises

-- A bad walk to the ending of loops, whose class can't rise: no policy helps.
pub record IsFinal (L : Lattice) (P : Profile) (p : Program) (walk : List Step) : Type 0 where
  pub bad : IsBad L P p walk
  pub from : ℕ
  pub ends : IsPath (steps_of P p) from walk sink
  pub hopeless : IsHopeless L P p

-- The meaning of an answer.
abbrev pub Answers : Lattice → Profile → Program → Raising → Type 0
Answers L P p (Raised raises) = AreLeastRaises L P p raises.items
Answers L P p (Refused walk) = IsFinal L P p walk.steps.items
