-- The fewest flows that lead from each variable to a goal.
use Rattle.std.specs.Prelude.{◌≡◌, ℕ, zero, suc, ◌+◌, ◌<◌, ◌≤◌, ◌==◌, Bool, true, false, cond, List, length, slice_index, slice_index_or, count_by}

-- The number for no walk at all.
abbrev pub none : ℕ
none = 65535

-- A place is a goal.
abbrev pub IsGoal : List Bool → ℕ → Type 0
IsGoal goals v = slice_index_or goals v false ≡ true

-- The number of variables from which no walk was found.
abbrev pub unreached : List ℕ → ℕ
unreached far = count_by (λ d. d == none) far

module _ (flows : ℕ → ℕ → Bool) where
  -- A chain of n flows leads from a to b.
  abbrev pub Leads : ℕ → ℕ → ℕ → Type 0
  Leads zero a b = a ≡ b
  Leads (suc n) a b = (c : ℕ) × (flows a c ≡ true) × Leads n c b

  -- Some goal is n flows away.
  abbrev pub IsAway : List Bool → ℕ → ℕ → Type 0
  IsAway goals n v = (b : ℕ) × IsGoal goals b × Leads n v b

  -- Each number is the length of a walk to a goal, and a flow lowers the number by at most one.
  pub record AreDistances (goals : List Bool) (far : List ℕ) : Type 0 where
    pub len : length far ≡ length goals
    pub start : (v : ℕ) → IsGoal goals v → slice_index far v ≡ 0
    pub sound : (v : ℕ) → v < length far → slice_index far v < none → IsAway goals (slice_index far v) v
    pub small : (v : ℕ) → v < length far → slice_index far v < none → slice_index far v ≤ length goals
    pub closed : (a b : ℕ) → flows a b ≡ true → slice_index far b < none → slice_index far a ≤ slice_index far b + 1

  -- The same, up to the level.
  pub record Spreads (goals : List Bool) (level : ℕ) (far : List ℕ) : Type 0 where
    pub len : length far ≡ length goals
    pub start : (v : ℕ) → IsGoal goals v → slice_index far v ≡ 0
    pub sound : (v : ℕ) → v < length far → slice_index far v < none → IsAway goals (slice_index far v) v
    pub below : (v : ℕ) → v < length far → slice_index far v < none → slice_index far v ≤ level + 1
    pub closed : (a b : ℕ) → flows a b ≡ true → slice_index far b < level → slice_index far a ≤ slice_index far b + 1

  -- The property of a seen place whose number is the level.
  abbrev pub IsSeen : ℕ → List ℕ → ℕ → Type 0
  IsSeen level far b = (a : ℕ) → flows a b ≡ true → slice_index far a ≤ level + 1

  -- Numbers only fell, and if `more` is set, some place got its first number.
  pub record Moved (level : ℕ) (old new : List ℕ) (more : Bool) : Type 0 where
    pub down : (v : ℕ) → slice_index new v ≤ slice_index old v
    pub level_kept : (v : ℕ) → slice_index new v ≡ level → slice_index old v ≡ level
    pub quiet : more ≡ false → new ≡ old
    pub fewer : unreached new + cond more 1 0 ≤ unreached old

-- There are numbers up to the level and none beyond it.
pub record AtMost (flows : ℕ → ℕ → Bool) (goals : List Bool) (level : ℕ) (far : List ℕ) : Type 0 where
  pub spreads : Spreads flows goals level far
  pub within : (v : ℕ) → v < length far → slice_index far v < none → slice_index far v ≤ level

-- The number at each place is the fewest flows that lead from it to place b, or 65535 if none do.
pub record AreLeast (flows : ℕ → ℕ → Bool) (count b : ℕ) (row : List ℕ) : Type 0 where
  pub len : length row ≡ count
  pub sound : (v : ℕ) → v < count → slice_index row v < none → Leads flows (slice_index row v) v b
  pub least : (n v : ℕ) → Leads flows n v b → (slice_index row v < none) × (slice_index row v ≤ n)
