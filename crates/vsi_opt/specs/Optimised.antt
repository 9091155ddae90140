-- The optimised body as a whole, and the properties that it preserves.
use Rattle.std.specs.Prelude.{◌≡◌, ℕ, ◌≤◌, nat_lt, length}
use Rattle.vsi_scope.specs.Language.{Command, HasPlaces, size, nesting, depth}
use Rattle.vsi_scope.specs.Meaning.{Store, runs}
use Rattle.vsi_opt.specs.Folding.{fold}
use Rattle.vsi_opt.specs.Folded.{IsFolded}
use Rattle.vsi_opt.specs.Liveness.{Locations, kept_live}

-- The globals, which are live at the end of a body.
abbrev pub globals_alone : ℕ → Locations
globals_alone g l = nat_lt l g

-- The optimised body of a program with g globals: folded, then without its dead assignments.
abbrev pub optimised : ℕ → Command → Command
optimised g c = kept_live g g (fold c) (globals_alone g)

-- Two commands that, from each store of g words and for each number of turns, yield the same store or none.
abbrev pub RunsAlike : ℕ → Command → Command → Type 0
RunsAlike g c d = (n : ℕ) (m : Store) → length m ≡ g → runs n c m ≡ runs n d m

-- The optimised body behaves like the body.
abbrev pub EvaluatesSame : Type 0
EvaluatesSame = (c : Command) (g : ℕ) → RunsAlike g (optimised g c) c

-- The optimised body isn't larger, nor deeper, nor are its letvars nested deeper.
abbrev pub NotLarger : Type 0
NotLarger = (c : Command) (g : ℕ) →
    (size (optimised g c) ≤ size c) × (depth (optimised g c) ≤ depth c) × (nesting (optimised g c) ≤ nesting c)

-- The optimised body has nothing left to fold.
abbrev pub NothingToFold : Type 0
NothingToFold = (c : Command) (g : ℕ) → IsFolded (optimised g c)

-- Each location that the optimised body uses exists.
abbrev pub PlacesKept : Type 0
PlacesKept = (c : Command) (g : ℕ) → HasPlaces g c → HasPlaces g (optimised g c)
