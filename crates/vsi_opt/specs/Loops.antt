-- The invariants of the two walks over a loop's body: one gathers its reads, the other removes assignments.
--   k  the number of locations in scope
--   n  the number of letvars of the loop before the command.
use Rattle.std.specs.Prelude.{◌≡◌, ℕ, ◌+◌, ◌≤◌}
use Rattle.vsi_scope.specs.Language.{Command, Skip, Assign, Sequence, If, While, Letvar, letvars}
use Rattle.vsi_opt.specs.Liveness.{Locations, joined, with_bit, all_reads}
use Rattle.vsi_opt.specs.Ranges.{Fits, bits}
use Rattle.vsi_opt.specs.declared.liveness.SmallSet.{SmallSet}
use Rattle.vsi_scope.specs.Limits.{max_declarations}

-- A set with a note, for each letvar, whether its scope reads its variable.
abbrev pub noted : ℕ → ℕ → Command → Locations → Locations
noted k n Skip own = own
noted k n (Assign l s e) own = own
noted k n (Sequence a b) own = noted k (n + letvars a) b (noted k n a own)
noted k n (If e a b) own = noted k (n + letvars a) b (noted k n a own)
noted k n (While e c) own = noted k n c own
noted k n (Letvar e c) own = with_bit (noted (k + 1) (n + 1) c own) n (all_reads c k)

-- A set of numbers says for each letvar whether its scope reads its variable.
abbrev pub Tells : Locations → ℕ → ℕ → Command → Type 0
Tells own k n Skip = Unit {0}
Tells own k n (Assign l s e) = Unit {0}
Tells own k n (Sequence a b) = Tells own k n a × Tells own k (n + letvars a) b
Tells own k n (If e a b) = Tells own k n a × Tells own k (n + letvars a) b
Tells own k n (While e c) = Tells own k n c
Tells own k n (Letvar e c) = (own n ≡ all_reads c k) × Tells own (k + 1) (n + 1) c

-- The locations and numbers of a command are within the limits.
abbrev pub AddFits : ℕ → ℕ → Command → Type 0
AddFits k n c = Fits k c × (n + letvars c ≤ max_declarations)

-- A walk has added the reads of a command to one set, has noted its letvars in another, and has passed them.
abbrev pub Adds : ℕ → Command → Locations → Locations → ℕ → Locations → Locations → ℕ → Type 0
Adds k c live own n live' own' n' =
    (live' ≡ joined live (all_reads c)) × (own' ≡ noted k n c own) × (n' ≡ n + letvars c)

-- The same for sets that are stored as bits.
abbrev pub AddsTo : ℕ → Command → SmallSet → SmallSet → ℕ → SmallSet → SmallSet → ℕ → Type 0
AddsTo k c live own n live' own' n' = Adds k c (bits live) (bits own) n (bits live') (bits own') n'

-- The locations and numbers of a command are within the limits, and its letvars are noted.
abbrev pub KeptInLoopFits : Locations → ℕ → ℕ → Command → Type 0
KeptInLoopFits own k n c = Fits k c × Tells own k n c × (n + letvars c ≤ max_declarations)
