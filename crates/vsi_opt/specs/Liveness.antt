-- The live locations, and the commands without dead assignments.
--   g     the number of globals
--   k     the number of locations in scope
--   live  the locations that are live after the command.
use Rattle.std.specs.Prelude.{ℕ, ◌+◌, Bool, true, false, ◌||◌, ◌==◌, nat_lt, if◌then◌else◌}
use Rattle.vsi_scope.specs.Language.{Expression, Number, Location, Operator, Command, Skip, Assign, Sequence, If, While, Letvar}
use Rattle.vsi_opt.specs.Folding.{one, append}

-- A set of locations, as a test.
abbrev pub Locations : Type 0
Locations = ℕ → Bool

-- The union of two sets.
abbrev pub joined : Locations → Locations → Locations
joined a b l = a l || b l

-- A set with one location put in or taken out.
abbrev pub with_bit : Locations → ℕ → Bool → Locations
with_bit live k b l = if l == k then b else live l

-- The locations that an expression reads.
abbrev pub reads : Expression → Locations
reads (Number n) l = false
reads (Location k s) l = l == k
reads (Operator o a b) l = reads a l || reads b l

-- The locations that the expressions of a command read.
abbrev pub all_reads : Command → Locations
all_reads Skip l = false
all_reads (Assign k s e) l = reads e l
all_reads (Sequence a b) l = all_reads a l || all_reads b l
all_reads (If e a b) l = reads e l || (all_reads a l || all_reads b l)
all_reads (While e c) l = reads e l || all_reads c l
all_reads (Letvar e c) l = reads e l || all_reads c l

-- An assignment takes its location out, unless it is a global.
abbrev pub taken : ℕ → ℕ → Locations → Locations
taken g l live = if nat_lt l g then live else with_bit live l false

-- The live locations before and throughout a loop.
abbrev pub throughout : Expression → Command → Locations → Locations
throughout e c live = joined live (joined (reads e) (all_reads c))

-- The live locations before a command.
abbrev pub before : ℕ → ℕ → Command → Locations → Locations
before g k Skip live = live
before g k (Assign l s e) live = if live l then joined (taken g l live) (reads e) else live
before g k (Sequence a b) live = before g k a (before g k b live)
before g k (If e a b) live = joined (joined (before g k a live) (before g k b live)) (reads e)
before g k (While e c) live = throughout e c live
before g k (Letvar e c) live = joined (with_bit (before g (k + 1) c (with_bit live k false)) k false) (reads e)

-- A command, or nothing if it is removed.
abbrev pub kept : Bool → Command → Command
kept true c = one c
kept false c = Skip

-- A command in a loop: the live locations are live throughout, and the loop's own variables are live if their bodies
-- read them.
abbrev pub kept_in_loop : ℕ → Command → Locations → Command
kept_in_loop k Skip live = Skip
kept_in_loop k (Assign l s e) live = kept (live l) (Assign l s e)
kept_in_loop k (Sequence a b) live = append (kept_in_loop k a live) (kept_in_loop k b live)
kept_in_loop k (If e a b) live = one (If e (kept_in_loop k a live) (kept_in_loop k b live))
kept_in_loop k (While e c) live = one (While e (kept_in_loop k c live))
kept_in_loop k (Letvar e c) live = one (Letvar e (kept_in_loop (k + 1) c (with_bit live k (all_reads c k))))

-- A command without its dead assignments.
abbrev pub kept_live : ℕ → ℕ → Command → Locations → Command
kept_live g k Skip live = Skip
kept_live g k (Assign l s e) live = kept (live l) (Assign l s e)
kept_live g k (Sequence a b) live = append (kept_live g k a (before g k b live)) (kept_live g k b live)
kept_live g k (If e a b) live = one (If e (kept_live g k a live) (kept_live g k b live))
kept_live g k (While e c) live = one (While e (kept_in_loop k c (throughout e c live)))
kept_live g k (Letvar e c) live = one (Letvar e (kept_live g (k + 1) c (with_bit live k false)))
