-- Finders for the walks of pairs.
use Rattle.std.specs.Prelude.{◌≡◌, ℕ, ◌<◌, List, map, length, slice_index, Option, Some}
use Rattle.std.specs.List.{All, AllZip, Contains, flat_map, slice_get}
use Rattle.std.specs.Option.{MatchOption}
use Rattle.vsi_lattice.specs.declared.lattice.Lattice.{Lattice}
use Rattle.vsi_scope.specs.Program.{Resolved}
use Rattle.vsi_types.specs.declared.rules.Step.{Step}
use Rattle.vsi_infer.specs.Paths.{IsPath}
use Rattle.vsi_infer.specs.Shortest.{row_of, LeadsDown, FindsWalks}
use Rattle.vsi_infer.specs.declared.shortest.WalksTo.{WalksTo}
use Rattle.vsi_flows.specs.declared.table.Pair.{Pair}
use Rattle.vsi_flows.specs.Text.{Walked, IsWalkOf, walked_lines}

-- No other position reaches the row's variable.
abbrev pub IsUnreached : List ℕ → Type 0
IsUnreached row = (a : ℕ) → 0 < slice_index row a → slice_index row a < 65535 → ⊥

-- Each row has a finder for the walks down it, unless it has no walk.
abbrev pub FindWalks : List Step → ℕ → List (List ℕ) → List (Option WalksTo) → Type 0
FindWalks ss last rows found = AllZip (λ row o. MatchOption o (IsUnreached row) (FindsWalks ss last row)) rows found

-- Down this row the walk of the pair reaches its target.
pub record FindsPair (ss : List Step) (pair : Pair) (w : WalksTo) : Type 0 where
  pub known : All (Contains ss) w.known.now.steps.items
  pub down : LeadsDown ss w.last w.row.now
  pub away : slice_index w.row.now (row_of w.last pair.source) ≡ pair.steps
  pub small : pair.steps < 65535
  pub arrives : (walk : List Step) (e : ℕ) → IsPath ss pair.source walk e → length walk ≡ pair.steps
      → slice_index w.row.now (row_of w.last e) ≡ 0 → e ≡ pair.target

-- The finder at the position of the pair's target finds its walk.
abbrev pub IsFound : List Step → ℕ → List (Option WalksTo) → Pair → Type 0
IsFound ss last found pair =
    (w : WalksTo) × (slice_get found (row_of last pair.target) ≡ Some (Some w)) × FindsPair ss pair w

-- The text consists of the lines of the pairs, each with a walk.
pub record AreWalkLines (l : Lattice) (ss : List Step) (source : List ℕ) (r : Resolved) (pairs : List Pair)
    (text : List ℕ) : Type 0 where
  pub walked : List Walked
  pub pairs_kept : map (λ w. w.pair) walked ≡ pairs
  pub walks : All (λ w. IsWalkOf ss w.pair w.walk) walked
  pub lines : text ≡ flat_map (walked_lines l source r) walked
