-- The invariant of the names of a lattice.
use Rattle.std.specs.Prelude.{◌≡◌, ℕ, ◌<◌, ◌≤◌, List, length}
use Rattle.vsi_lattice.specs.NamePlaces.{Never, IsBadName, StandsEarlier}

-- One name for each of 1 to 64 classes, all distinct.
pub record AreNames (names : List (List ℕ)) (count : ℕ) : Type 0 where
  pub one_each : length names ≡ count
  pub some : 0 < count
  pub few : count ≤ 64
  pub named : Never (IsBadName names)
  pub distinct : Never (StandsEarlier names)
