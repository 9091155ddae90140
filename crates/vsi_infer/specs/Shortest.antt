-- The steps that begin a shortest bad walk, and those that continue it.
use Rattle.std.specs.Prelude.{◌≡◌, ◌⊎◌, ◌+◌, ℕ, suc, nat_lt, ◌<◌, ◌≤◌, ◌==◌, ◌&&◌, Bool, false, not, cond, Option, Some, None, List, [], map, length, slice_index, slice_index_or, slice_get}
use Rattle.std.specs.List.{All, Contains}
use Rattle.vsi_lattice.specs.Order.{Lattice}
use Rattle.vsi_types.specs.declared.rules.Step.{Step}
use Rattle.vsi_types.specs.Steps.{sink}
use Rattle.vsi_infer.specs.Distances.{AreDistances}
use Rattle.vsi_infer.specs.Paths.{IsPath}
use Rattle.vsi_infer.specs.declared.shortest.WalksTo.{WalksTo}

-- The class is declared, and isn't at or above `low`.
abbrev pub is_high : (ℕ → ℕ → Bool) → ℕ → Option ℕ → Bool
is_high leq low None = false
is_high leq low (Some c) = not (leq low c)

-- The variables where a walk from class `low` is bad.
abbrev pub goals_of : (ℕ → ℕ → Bool) → List (Option ℕ) → ℕ → List Bool
goals_of leq ds low = map (is_high leq low) ds

-- The distance of variable v in the row of a class.
abbrev pub far_at : List (List ℕ) → ℕ → ℕ → ℕ
far_at rows c v = slice_index (slice_index_or rows c []) v

-- For each declared class there is a row of distances to the variables where a walk from that class is bad.
abbrev pub AreLevels : Lattice → (ℕ → ℕ → Bool) → List (Option ℕ) → List (List ℕ) → Type 0
AreLevels L flows ds rows =
    (v c : ℕ) → slice_get ds v ≡ Some (Some c) → AreDistances flows (goals_of L.leq ds c) (slice_index_or rows c [])

-- No declared variable has a distance below the number, and some has that distance unless none has any.
pub record IsFewest (ds : List (Option ℕ)) (rows : List (List ℕ)) (n : ℕ) : Type 0 where
  pub lower : (v c : ℕ) → slice_get ds v ≡ Some (Some c) → n ≤ far_at rows c v
  pub attained : (n ≡ 65535) ⊎ ((v : ℕ) × (c : ℕ) × (slice_get ds v ≡ Some (Some c)) × (far_at rows c v ≡ n))

-- The number of a variable's row; the ending of a loop has the last row.
abbrev pub row_of : ℕ → ℕ → ℕ
row_of last v = cond (v == sink) last v

-- The step goes from a variable of this class, at distance `now`, to one at distance `after`.
abbrev pub steps_from : List (List ℕ) → ℕ → ℕ → ℕ → Option ℕ → Step → Bool
steps_from rows last now after None s = false
steps_from rows last now after (Some c) s =
    (far_at rows c s.source == now) && (far_at rows c (row_of last s.target) == after)

-- The step starts at some declared variable.
abbrev pub begins : List (Option ℕ) → List (List ℕ) → ℕ → ℕ → ℕ → Step → Bool
begins ds rows last now after s = steps_from rows last now after (slice_index_or ds s.source None) s

-- The step goes from this variable to one at distance `after`.
abbrev pub goes_on : ℕ → List ℕ → ℕ → ℕ → Step → Bool
goes_on at row last after s = (s.source == at) && (slice_index row (row_of last s.target) == after)

-- The step goes to a variable that is one step nearer.
abbrev pub nearer : List ℕ → ℕ → Step → Bool
nearer row last s =
    nat_lt (slice_index row s.source) 65535 && (slice_index row s.source == slice_index row (row_of last s.target) + 1)

-- From each variable at a distance above 0, a step leads to one that is one step nearer.
abbrev pub LeadsDown : List Step → ℕ → List ℕ → Type 0
LeadsDown ss last row =
    (v n : ℕ) → slice_index row (row_of last v) ≡ suc n → suc n < 65535 →
    (s : Step) × Contains ss s × (s.source ≡ v) × (slice_index row (row_of last s.target) ≡ n)

-- A walk of `count` steps leads from a to a variable at distance 0.
pub record IsArrived (ss : List Step) (last : ℕ) (row : List ℕ) (a count : ℕ) (steps : List Step) : Type 0 where
  pub end : ℕ
  pub path : IsPath ss a steps end
  pub level : slice_index row (row_of last end) ≡ 0
  pub size : length steps ≡ count

-- The walks down a row are found from the row and some of the steps of the list.
pub record FindsWalks (ss : List Step) (last : ℕ) (row : List ℕ) (w : WalksTo) : Type 0 where
  pub known : All (Contains ss) w.known.now.steps.items
  pub same_row : w.row.now ≡ row
  pub same_last : w.last ≡ last
