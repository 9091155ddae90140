-- A table that is filled position by position.
use Rattle.std.specs.Prelude.{◌≡◌, ◌⊎◌, ℕ, ◌<◌, ◌≤◌, List}
use Rattle.std.specs.List.{All}
use Rattle.vsi_lattice.specs.Order.{Lattice}
use Rattle.vsi_types.specs.declared.rules.Profile.{Profile}
use Rattle.vsi_types.specs.Security.{Program}
use Rattle.vsi_infer.specs.Flowing.{size_of, variable_at}
use Rattle.vsi_infer.specs.Shortest.{row_of}
use Rattle.vsi_flows.specs.declared.table.Pair.{Pair}
use Rattle.vsi_flows.specs.Table.{IsJoined, IsTold, HasPair, AreSorted}

-- A position comes before another one, by its source and then by its target.
abbrev pub ComesBefore : ℕ → ℕ → ℕ → ℕ → Type 0
ComesBefore x y a b = (x < a) ⊎ ((x ≡ a) × (y < b))

-- The pair's position comes before this one.
abbrev pub IsBefore : ℕ → ℕ → ℕ → Pair → Type 0
IsBefore last a b r = ComesBefore r.source (row_of last r.target) a b

-- The list is the table up to the position (a, b).
pub record IsFilled (L : Lattice) (P : Profile) (p : Program) (a b : ℕ) (pairs : List Pair) : Type 0 where
  pub told : All (IsTold L P p) pairs
  pub sorted : AreSorted pairs
  pub before : All (IsBefore (size_of p) a b) pairs
  pub whole : (x y : ℕ) → y ≤ size_of p → ComesBefore x y a b → IsJoined L P p x (variable_at (size_of p) y) →
      HasPair pairs x (variable_at (size_of p) y)
