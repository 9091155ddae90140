-- The limits of a program, and sets that are stored as bits.
use Rattle.std.specs.Prelude.{ℕ, ◌+◌, ◌/◌, ◌%◌, ◌^◌, ◌<◌, ◌≤◌, ◌==◌, List, slice_index}
use Rattle.vsi_scope.specs.Language.{Command, Skip, Assign, Sequence, If, While, Letvar, HasLocations, letvars}
use Rattle.vsi_opt.specs.Liveness.{Locations}
use Rattle.vsi_opt.specs.declared.liveness.SmallSet.{SmallSet}
use Rattle.vsi_scope.specs.Limits.{max_declarations}

-- Every location is below 1,024, including those of letvars, with k locations in scope, and no loop has more letvars.
abbrev pub Fits : ℕ → Command → Type 0
Fits k Skip = Unit {0}
Fits k (Assign l s e) = (l < max_declarations) × HasLocations max_declarations e
Fits k (Sequence a b) = Fits k a × Fits k b
Fits k (If e a b) = HasLocations max_declarations e × Fits k a × Fits k b
Fits k (While e c) = HasLocations max_declarations e × Fits k c × (letvars c ≤ max_declarations)
Fits k (Letvar e c) = (k < max_declarations) × HasLocations max_declarations e × Fits (k + 1) c

-- The bits of 64-bit words.
abbrev pub bit_of : List ℕ → Locations
bit_of ws l = (slice_index ws (l / 64) / 2 ^ (l % 64)) % 2 == 1

-- The numbers of a set that is stored as bits.
abbrev pub bits : SmallSet → Locations
bits s = bit_of s.words
