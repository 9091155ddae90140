-- The class that reaches a variable: the least one at or above those of all variables that flow to it.
use Rattle.std.specs.Prelude.{◌≡◌, ℕ, ◌<◌, Option, Some, None, List, [], ◌∷◌, length, slice_index, unwrap_or, MatchOption}
use Rattle.vsi_lattice.specs.Order.{Lattice, IsClass, Below}
use Rattle.vsi_types.specs.declared.rules.Profile.{Profile}
use Rattle.vsi_types.specs.declared.rules.Step.{Step}
use Rattle.vsi_types.specs.Steps.{sink}
use Rattle.vsi_types.specs.Security.{Program, steps_of}
use Rattle.vsi_types.specs.Walks.{declared_class}
use Rattle.vsi_infer.specs.Flowing.{size_of}
use Rattle.vsi_infer.specs.Paths.{IsPath}
use Rattle.vsi_flows.specs.declared.least.Raise.{Raise}
use Rattle.vsi_flows.specs.Raising.{change_at, change_of, IsForced}

-- The least class that a variable can have: its declared class, or the bottom if none is declared.
abbrev pub floor : Lattice → Program → ℕ → ℕ
floor L p v = unwrap_or (declared_class L p v) L.bottom

-- The list has the floor of each declaration.
pub record AreFloors (L : Lattice) (p : Program) (floors : List ℕ) : Type 0 where
  pub len : length floors ≡ size_of p
  pub each : (v : ℕ) → v < size_of p → slice_index floors v ≡ floor L p v

-- The class is the least one at or above the floors of those of the first n positions with a distance in the row.
pub record IsJoined (L : Lattice) (floors row : List ℕ) (n c : ℕ) : Type 0 where
  pub within : IsClass L c
  pub above : (a : ℕ) → a < n → slice_index row a < 65535 → Below L (slice_index floors a) c
  pub least : (x : ℕ) → IsClass L x →
      ((a : ℕ) → a < n → slice_index row a < 65535 → Below L (slice_index floors a) x) → Below L c x

-- The position has a distance in the row, and its floor isn't at or below the class.
pub record IsOver (L : Lattice) (floors row : List ℕ) (class a : ℕ) : Type 0 where
  pub within : a < length floors
  pub near : slice_index row a < 65535
  pub high : Below L (slice_index floors a) class → ⊥

-- The floors of all positions with a distance in the row are at or below the class.
abbrev pub AreUnder : Lattice → List ℕ → List ℕ → ℕ → Type 0
AreUnder L floors row class =
    (a : ℕ) → a < length floors → slice_index row a < 65535 → Below L (slice_index floors a) class

-- The class is the least one at or above the floors of all variables that reach b.
pub record IsReached (L : Lattice) (P : Profile) (p : Program) (b c : ℕ) : Type 0 where
  pub within : IsClass L c
  pub above : (a : ℕ) (w : List Step) → a < size_of p → IsPath (steps_of P p) a w b → Below L (floor L p a) c
  pub least : (x : ℕ) → IsClass L x →
      ((a : ℕ) (w : List Step) → a < size_of p → IsPath (steps_of P p) a w b → Below L (floor L p a) x) → Below L c x

-- Only variables whose floor is the bottom reach the ending of loops.
abbrev pub IsQuiet : Lattice → Profile → Program → Type 0
IsQuiet L P p =
    (a : ℕ) (w : List Step) → a < size_of p → IsPath (steps_of P p) a w sink → Below L (floor L p a) L.bottom

-- The class reaches the variable, and the raise is its change, if any.
pub record IsSettled (L : Lattice) (P : Profile) (p : Program) (v c : ℕ) (raise : Option Raise) : Type 0 where
  pub reached : IsReached L P p v c
  pub changed : MatchOption raise (change_at v (declared_class L p v) c ≡ [])
      (λ r. (change_at v (declared_class L p v) c ≡ change_of r ∷ []) × IsForced L P p r)
