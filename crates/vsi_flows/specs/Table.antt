-- The table of flows: the pairs of declared variables joined by a chain of flow steps.
use Rattle.std.specs.Prelude.{◌≡◌, ◌⊎◌, ℕ, ◌<◌, ◌≤◌, true, List, [], ◌∷◌, length, Some}
use Rattle.std.specs.List.{All, Contains}
use Rattle.vsi_lattice.specs.Order.{Lattice}
use Rattle.vsi_types.specs.declared.rules.Profile.{Profile}
use Rattle.vsi_types.specs.declared.rules.Step.{Step}
use Rattle.vsi_types.specs.Security.{Program, IsTypable, steps_of}
use Rattle.vsi_types.specs.Walks.{declared_class, IsBad}
use Rattle.vsi_infer.specs.Paths.{IsPath}
use Rattle.vsi_flows.specs.declared.table.Pair.{Pair}

-- This many steps lead from a to b, and no walk from a to b has fewer.
pub record IsDistance (ss : List Step) (a b n : ℕ) : Type 0 where
  pub walk : List Step
  pub path : IsPath ss a walk b
  pub count : length walk ≡ n
  pub fewest : (other : List Step) → IsPath ss a other b → n ≤ length other

-- A walk joins two different variables that have declared classes.
pub record IsJoined (L : Lattice) (P : Profile) (p : Program) (a b : ℕ) : Type 0 where
  pub apart : a ≡ b → ⊥
  pub low : ℕ
  pub high : ℕ
  pub source : declared_class L p a ≡ Some low
  pub target : declared_class L p b ≡ Some high
  pub walk : List Step
  pub path : IsPath (steps_of P p) a walk b

-- The pair is true: its steps are the fewest of a walk, and it is allowed if the first class is at or below the second.
pub record IsTold (L : Lattice) (P : Profile) (p : Program) (r : Pair) : Type 0 where
  pub apart : r.source ≡ r.target → ⊥
  pub low : ℕ
  pub high : ℕ
  pub source : declared_class L p r.source ≡ Some low
  pub target : declared_class L p r.target ≡ Some high
  pub verdict : r.allowed ≡ L.leq low high
  pub steps : IsDistance (steps_of P p) r.source r.target r.steps

-- The list has a pair from a to b.
abbrev pub HasPair : List Pair → ℕ → ℕ → Type 0
HasPair pairs a b = (r : Pair) × Contains pairs r × (r.source ≡ a) × (r.target ≡ b)

-- A pair comes before another one by its source, then by its target, in the order of declarations.
abbrev pub Precedes : Pair → Pair → Type 0
Precedes r s = (r.source < s.source) ⊎ ((r.source ≡ s.source) × (r.target < s.target))

-- Each pair comes before all later ones.
abbrev pub AreSorted : List Pair → Type 0
AreSorted [] = Unit {0}
AreSorted (r ∷ rest) = All (Precedes r) rest × AreSorted rest

-- Each pair is true, every two variables joined by a walk are a pair, and the pairs are sorted.
pub record IsTable (L : Lattice) (P : Profile) (p : Program) (pairs : List Pair) : Type 0 where
  pub told : All (IsTold L P p) pairs
  pub sorted : AreSorted pairs
  pub whole : (a b : ℕ) → IsJoined L P p a b → HasPair pairs a b

-- No pair is refused.
abbrev pub AreAllowed : List Pair → Type 0
AreAllowed pairs = All (λ r. r.allowed ≡ true) pairs

-- Some choice of classes is typable.
abbrev pub HasChoice : Lattice → Profile → Program → Type 0
HasChoice L P p = (s : List ℕ) × IsTypable L P p s

-- Some walk is bad.
abbrev pub HasBadWalk : Lattice → Profile → Program → Type 0
HasBadWalk L P p = (w : List Step) × IsBad L P p w
