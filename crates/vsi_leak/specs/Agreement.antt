-- The part of a store that a class sees.
use Rattle.std.specs.Prelude.{◌≡◌, ℕ, pos, List, Some, slice_get, slice_index_or}
use Rattle.vsi_image.specs.Fields.{Global}
use Rattle.vsi_lattice.specs.Order.{Lattice, Below}
use Rattle.vsi_scope.specs.Meaning.{Store}
use Rattle.vsi_lattice.specs.Known.{Known}

-- Two stores have equal words in each of these globals whose class is at or below a.
abbrev pub AgreeIn : Known → Lattice → List Global → ℕ → Store → Store → Type 0
AgreeIn known L gs a m m' =
    (i : ℕ) (g : Global) (c : ℕ) → slice_get gs i ≡ Some g → known g.1 ≡ Some c → Below L c a →
    slice_index_or m i (pos 0) ≡ slice_index_or m' i (pos 0)
