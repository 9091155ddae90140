-- The sorts that a list contains.
use Rattle.std.specs.Prelude.{Bool, false, ◌||◌, List, [], ◌∷◌}
use Rattle.vsi_recovery.specs.declared.sort.Sort.{Sort}
use Rattle.vsi_recovery.specs.Sorts.{same}

-- The sort is one of these.
abbrev pub told : List Sort → Sort → Bool
told [] s = false
told (t ∷ ts) s = same t s || told ts s
