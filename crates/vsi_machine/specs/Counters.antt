-- Loops that count.
use Rattle.std.specs.Prelude.{◌≡◌, ◌≢◌, ℕ, zero, suc, ℤ, pos, ◌+ℤ◌}
use Rattle.vsi_syntax.specs.Operators.{sum_of}

-- A loop whose guard is this function of its variable, and which adds the step at each turn, ends after this many turns
-- with the last word in the variable, which doesn't wrap around.
abbrev pub Counts : (ℤ → ℤ) → ℤ → ℕ → ℤ → ℤ → Type 0
Counts guard step zero now last = (guard now ≡ pos 0) × (now ≡ last)
Counts guard step (suc turns) now last =
    (guard now ≢ pos 0) × (sum_of now step ≡ now +ℤ step) × Counts guard step turns (sum_of now step) last
