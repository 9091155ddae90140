-- Rows of distances: for each declared variable, the fewest steps that lead to it.
use Rattle.std.specs.Prelude.{◌≡◌, ℕ, ◌+◌, ◌<◌, ◌≤◌, Bool, List, [], length, slice_index, slice_index_or, Some}
use Rattle.vsi_lattice.specs.Order.{Lattice}
use Rattle.vsi_types.specs.declared.rules.Profile.{Profile}
use Rattle.vsi_types.specs.declared.rules.Step.{Step}
use Rattle.vsi_types.specs.Security.{Program, steps_of}
use Rattle.vsi_types.specs.Walks.{declared_class}
use Rattle.vsi_infer.specs.Distances.{AreLeast}
use Rattle.vsi_infer.specs.Flowing.{size_of, variable_at, AreFlowsOf}
use Rattle.vsi_infer.specs.Paths.{IsPath}

-- Each position whose variable has a declared class has a row of least numbers.
abbrev pub AreLeastRows : Lattice → Program → (ℕ → ℕ → Bool) → ℕ → List (List ℕ) → Type 0
AreLeastRows L p flows last rows =
    (b c : ℕ) → b ≤ last → declared_class L p (variable_at last b) ≡ Some c →
    AreLeast flows (last + 1) b (slice_index_or rows b [])

-- The number at each position is the fewest steps from its variable to b, or 65535 if no walk leads there.
pub record IsRowTo (P : Profile) (p : Program) (b : ℕ) (row : List ℕ) : Type 0 where
  pub walk : (a : ℕ) → a ≤ size_of p → slice_index row a < 65535 →
      (w : List Step) × IsPath (steps_of P p) (variable_at (size_of p) a) w b × (length w ≡ slice_index row a)
  pub fewest : (a : ℕ) (w : List Step) → a ≤ size_of p → IsPath (steps_of P p) (variable_at (size_of p) a) w b →
      (slice_index row a < 65535) × (slice_index row a ≤ length w)

-- Each position whose variable has a declared class has such a row.
abbrev pub AreRows : Lattice → Profile → Program → List (List ℕ) → Type 0
AreRows L P p rows =
    (b c : ℕ) → b ≤ size_of p → declared_class L p (variable_at (size_of p) b) ≡ Some c →
    IsRowTo P p (variable_at (size_of p) b) (slice_index_or rows b [])

-- The rows are those of the program's flows.
pub record AreRowsOf (L : Lattice) (P : Profile) (p : Program) (rows : List (List ℕ)) : Type 0 where
  pub flows : ℕ → ℕ → Bool
  pub same : AreFlowsOf P p flows
  pub least : AreLeastRows L p flows (size_of p) rows
