-- Loops that count up or down.
use Rattle.std.proofs.Common.{◌≡◌, ◌≢◌, ℕ, zero, suc, ◌+◌, ◌*◌, ◌<◌, ◌≤◌, ℤ, pos, negsuc, ◌+ℤ◌, ◌<ℤ◌, ◌≤ℤ◌, Bool, true, false, if◌then◌else◌, sym, ap, ◌∙◌, subst, arith, lit<, Result, IfOk, IfErr, w64, SFits}
use Rattle.std.specs.Prelude.{int_lt}
use Rattle.std.specs.Int.{int_wrap}
use Rattle.std.proofs.lemmas.Int.{ints, int_wrap_fits}
use Rattle.vsi_syntax.specs.Operators.{sum_of, less_of}
use Rattle.vsi_machine.specs.declared.loops.Turns.{Turns}
use Rattle.vsi_machine.specs.declared.bound.Reason.{Reason}
use Rattle.vsi_machine.specs.Counters.{Counts}
use Rattle.vsi_machine.specs.Looping.{guard_value}
use Rattle.vsi_machine.specs.Reasons.{WrapsAfter, Uncounted}

-- A word below another compares as 1.
pub below : (a b : ℤ) → a <ℤ b → less_of a b ≢ pos 0
below a b lt e =
    let t : int_lt a b ≡ true = grind (arith, ints) in
    let bad : pos 1 ≡ pos 0 = sym (ap (λ x. if x then pos 1 else pos 0) t) ∙ e in
    absurd cc

-- A word that isn't below another compares as 0.
not_below : (a b : ℤ) → b ≤ℤ a → less_of a b ≡ pos 0
not_below a b le =
    let t : int_lt a b ≡ false = grind (arith, ints) in
    ap (λ x. if x then pos 1 else pos 0) t

-- A nonnegative word that is no greater than one that fits fits.
fits_high : (n : ℕ) (b : ℤ) → SFits w64 b → pos n ≤ℤ b → SFits w64 (pos n)
fits_high n (pos m) g q = record { sfits = omega (arith, ints, g.sfits, q) }
fits_high n (negsuc m) g q = absurd (omega (arith, ints, q))

-- A negative word that is no less than one that fits fits.
fits_low : (a : ℤ) (n : ℕ) → SFits w64 a → a ≤ℤ negsuc n → SFits w64 (negsuc n)
fits_low (pos k) n f p = absurd (omega (arith, ints, p))
fits_low (negsuc k) n f p = record { sfits = omega (arith, ints, f.sfits, p) }

-- A word between two that fit fits.
between : (a z b : ℤ) → SFits w64 a → SFits w64 b → a ≤ℤ z → z ≤ℤ b → SFits w64 z
between a (pos n) b f g p q = fits_high n b g q
between a (negsuc n) b f g p q = fits_low a n f p

-- Before the last turn the variable was below the limit.
abbrev pub BelowBefore : ℕ → ℕ → ℤ → ℤ → Type 0
BelowBefore zero size now limit = Unit {0}
BelowBefore (suc turns) size now limit = (now +ℤ pos (turns * size)) <ℤ limit

-- The variable was below it before this turn and the next ones.
below_next : (turns size : ℕ) (now next limit : ℤ) → next ≡ now +ℤ pos size
    → (now +ℤ pos (turns * size)) <ℤ limit → BelowBefore turns size next limit
below_next zero size now next limit e h = tt
below_next (suc turns) size now next limit e h = omega (arith, ints, e, h)

-- Steps up to a limit.
pub counts_up : (turns size : ℕ) (now last limit step : ℤ) → SFits w64 now → step ≡ pos size
    → last ≡ now +ℤ pos (turns * size) → SFits w64 last → limit ≤ℤ last → BelowBefore turns size now limit
    → Counts (λ n. less_of n limit) step turns now last
counts_up zero size now last limit step fits s l f enough b =
    let same : now ≡ last = omega (arith, ints, l) in
    (not_below now limit (subst (λ x. limit ≤ℤ x) (sym same) enough), same)
counts_up (suc turns) size now last limit step fits s l f enough b =
    let low : now ≤ℤ (now +ℤ pos size) = omega (arith, ints) in
    let high : (now +ℤ pos size) ≤ℤ last = omega (arith, ints, l) in
    let on : sum_of now step ≡ now +ℤ pos size =
    ap (λ x. int_wrap w64 (now +ℤ x)) s ∙ int_wrap_fits w64 (now +ℤ pos size) (between now _ last fits f low high) in
    let short : now <ℤ limit = omega (arith, ints, b) in
    let rest : last ≡ sum_of now step +ℤ pos (turns * size) = omega (arith, ints, l, on) in (
      below now limit short,
      on ∙ ap (λ x. now +ℤ x) (sym s),
      counts_up turns size (sum_of now step) last limit step
          (subst (SFits w64) (sym on) (between now _ last fits f low high)) s rest f enough (below_next turns size now (sum_of now step) limit on b),
    )

-- Before the last turn the variable was above the limit.
abbrev pub AboveBefore : ℕ → ℕ → ℤ → ℤ → Type 0
AboveBefore zero size now limit = Unit {0}
AboveBefore (suc turns) size now limit = (limit +ℤ pos (turns * size)) <ℤ now

-- The variable was above it before this turn and the next ones.
above_next : (turns size : ℕ) (now next limit : ℤ) → next +ℤ pos size ≡ now
    → (limit +ℤ pos (turns * size)) <ℤ now → AboveBefore turns size next limit
above_next zero size now next limit e h = tt
above_next (suc turns) size now next limit e h = omega (arith, ints, e, h)

-- Steps down to a limit.
pub counts_down : (turns size : ℕ) (now last limit step : ℤ) → SFits w64 now → step +ℤ pos size ≡ pos 0
    → last +ℤ pos (turns * size) ≡ now → SFits w64 last → last ≤ℤ limit → AboveBefore turns size now limit
    → Counts (λ n. less_of limit n) step turns now last
counts_down zero size now last limit step fits s l f enough b =
    let same : now ≡ last = omega (arith, ints, l) in
    (not_below limit now (subst (λ x. x ≤ℤ limit) (sym same) enough), same)
counts_down (suc turns) size now last limit step fits s l f enough b =
    let low : last ≤ℤ (now +ℤ step) = omega (arith, ints, l, s) in
    let high : (now +ℤ step) ≤ℤ now = omega (arith, ints, s) in
    let on : sum_of now step ≡ now +ℤ step = int_wrap_fits w64 (now +ℤ step) (between last _ now f fits low high) in
    let short : limit <ℤ now = omega (arith, ints, b) in
    let rest : last +ℤ pos (turns * size) ≡ sum_of now step = omega (arith, ints, l, on, s) in
    let before : sum_of now step +ℤ pos size ≡ now = omega (arith, ints, on, s) in (
      below limit now short,
      on,
      counts_down turns size (sum_of now step) last limit step
          (subst (SFits w64) (sym on) (between last _ now f fits low high)) s rest f enough (above_next turns size now (sum_of now step) limit before b),
    )

-- The greatest word fits.
most_fits : SFits w64 (pos 9223372036854775807)
most_fits = record { sfits = lit< tt }

-- The least word fits.
least_fits : SFits w64 (negsuc 9223372036854775807)
least_fits = record { sfits = lit< tt }

-- A word is no less than the least one.
pub word_low : (n : ℤ) → SFits w64 n → negsuc 9223372036854775807 ≤ℤ n
word_low n f = omega (arith, ints, f.sfits)

-- A word between the least word and one that fits fits.
pub fits_below : (x start : ℤ) → SFits w64 start → negsuc 9223372036854775807 ≤ℤ x → x ≤ℤ start → SFits w64 x
fits_below x start f low high = between (negsuc 9223372036854775807) x start least_fits f low high

-- The fewest steps that cover a gap don't cover it before the last turn.
below_before : (turns size way gap : ℕ) (start limit : ℤ) → way ≡ turns * size → way < gap + size
    → start +ℤ pos gap ≡ limit → BelowBefore turns size start limit
below_before zero size way gap start limit e lt g = tt
below_before (suc turns) size way gap start limit e lt g = omega (arith, ints, e, lt, g)

-- Turns that cover the gap to a limit above.
pub up_turns : (turns size way gap : ℕ) (start step limit last : ℤ) → way ≡ turns * size → gap ≤ way
    → way < gap + size → SFits w64 start → start +ℤ pos gap ≡ limit → step ≡ pos size → last ≡ start +ℤ pos way
    → last ≤ℤ pos 9223372036854775807 → Counts (λ n. less_of n limit) step turns start last
up_turns turns size way gap start step limit last e enough fewest fits g s l high =
    let low : start ≤ℤ last = omega (arith, ints, l) in
    let over : limit ≤ℤ last = omega (arith, ints, l, g, enough) in
    counts_up turns size start last limit step fits s (l ∙ ap (λ w. start +ℤ pos w) e)
    (between start last _ fits most_fits low high) over (below_before turns size way gap start limit e fewest g)

-- The fewest steps that cover a gap down don't cover it before the last turn.
above_before : (turns size way gap : ℕ) (start limit : ℤ) → way ≡ turns * size → way < gap + size
    → limit +ℤ pos gap ≡ start → AboveBefore turns size start limit
above_before zero size way gap start limit e lt g = tt
above_before (suc turns) size way gap start limit e lt g = omega (arith, ints, e, lt, g)

-- Turns that cover the gap to a limit below.
pub down_turns : (turns size way gap : ℕ) (start step limit last : ℤ) → way ≡ turns * size → gap ≤ way
    → way < gap + size → SFits w64 start → limit +ℤ pos gap ≡ start → step +ℤ pos size ≡ pos 0
    → last +ℤ pos way ≡ start → negsuc 9223372036854775807 ≤ℤ last
    → Counts (λ n. less_of limit n) step turns start last
down_turns turns size way gap start step limit last e enough fewest fits g s l low =
    let high : last ≤ℤ start = omega (arith, ints, l) in
    let under : last ≤ℤ limit = omega (arith, ints, l, g, enough) in
    counts_down turns size start last limit step fits s (ap (λ w. last +ℤ pos w) (sym e) ∙ l)
    (between _ last start least_fits fits low high) under (above_before turns size way gap start limit e fewest g)

-- Steps up that pass the greatest word while the variable is below the limit.
wraps_up : (turns size : ℕ) (now limit step : ℤ) → step ≡ pos size → (now +ℤ pos (turns * size)) <ℤ limit
    → pos 9223372036854775807 <ℤ ((now +ℤ pos (turns * size)) +ℤ pos size) → WrapsAfter true limit step turns now
wraps_up zero size now limit step s before past =
    (below now limit (omega (arith, ints, before)), omega (arith, ints, s, past))
wraps_up (suc turns) size now limit step s before past = (
  below now limit (omega (arith, ints, before)),
  wraps_up turns size (now +ℤ step) limit step s (omega (arith, ints, s, before)) (omega (arith, ints, s, past)),
)

-- Turns that cover the gap to a limit above pass the greatest word.
pub up_wraps : (turns size way gap : ℕ) (start step limit : ℤ) → way ≡ turns * size → way < gap + size → 0 < turns
    → start +ℤ pos gap ≡ limit → step ≡ pos size → pos 9223372036854775807 <ℤ (start +ℤ pos way)
    → (n : ℕ) × WrapsAfter true limit step n start
up_wraps zero size way gap start step limit e fewest some g s past = absurd (omega (arith, some))
up_wraps (suc turns) size way gap start step limit e fewest some g s past = (
  turns,
  wraps_up turns size start limit step s (omega (arith, ints, e, fewest, g)) (omega (arith, ints, e, past)),
)

-- Steps down that pass the least word while the variable is above the limit.
wraps_down : (turns size : ℕ) (now limit step : ℤ) → step +ℤ pos size ≡ pos 0
    → (limit +ℤ pos (turns * size)) <ℤ now
    → now <ℤ ((negsuc 9223372036854775807 +ℤ pos (turns * size)) +ℤ pos size)
    → WrapsAfter false limit step turns now
wraps_down zero size now limit step s before past =
    (below limit now (omega (arith, ints, before)), omega (arith, ints, s, past))
wraps_down (suc turns) size now limit step s before past = (
  below limit now (omega (arith, ints, before)),
  wraps_down turns size (now +ℤ step) limit step s (omega (arith, ints, s, before)) (omega (arith, ints, s, past)),
)

-- Turns that cover the gap to a limit below pass the least word.
pub down_wraps : (turns size way gap : ℕ) (start step limit : ℤ) → way ≡ turns * size → way < gap + size → 0 < turns
    → limit +ℤ pos gap ≡ start → step +ℤ pos size ≡ pos 0
    → start <ℤ (negsuc 9223372036854775807 +ℤ pos way) → (n : ℕ) × WrapsAfter false limit step n start
down_wraps zero size way gap start step limit e fewest some g s past = absurd (omega (arith, some))
down_wraps (suc turns) size way gap start step limit e fewest some g s past = (
  turns,
  wraps_down turns size start limit step s (omega (arith, ints, e, fewest, g)) (omega (arith, ints, e, past)),
)

-- The reason for turns up holds for a guard that compares upwards.
pub uncounted_up : (r : Result Turns Reason) (up : Bool) (limit limit' step step' start start' : ℤ)
    → IfErr r (λ reason. Uncounted reason true limit' step' start') → up ≡ true → limit' ≡ limit → step' ≡ step
    → start' ≡ start → IfErr r (λ reason. Uncounted reason up limit step start)
uncounted_up r up limit limit' step step' start start' h e p q w =
    subst (λ (b : Bool). IfErr r (λ reason. Uncounted reason b limit step start)) (sym e)
    (subst (λ (x : ℤ). IfErr r (λ reason. Uncounted reason true x step start)) p
    (subst (λ (x : ℤ). IfErr r (λ reason. Uncounted reason true limit' x start)) q
    (subst (λ (x : ℤ). IfErr r (λ reason. Uncounted reason true limit' step' x)) w h)))

-- The reason for turns down holds for a guard that compares downwards.
pub uncounted_down : (r : Result Turns Reason) (up : Bool) (limit limit' step step' start start' : ℤ)
    → IfErr r (λ reason. Uncounted reason false limit' step' start') → up ≡ false → limit' ≡ limit → step' ≡ step
    → start' ≡ start → IfErr r (λ reason. Uncounted reason up limit step start)
uncounted_down r up limit limit' step step' start start' h e p q w =
    subst (λ (b : Bool). IfErr r (λ reason. Uncounted reason b limit step start)) (sym e)
    (subst (λ (x : ℤ). IfErr r (λ reason. Uncounted reason false x step start)) p
    (subst (λ (x : ℤ). IfErr r (λ reason. Uncounted reason false limit' x start)) q
    (subst (λ (x : ℤ). IfErr r (λ reason. Uncounted reason false limit' step' x)) w h)))

-- The result for turns up to a limit holds for a guard that compares upwards.
pub counted_up : (r : Result Turns Reason) (up : Bool) (limit limit' step step' start start' : ℤ)
    → IfOk r (λ t. Counts (λ n. less_of n limit') step' t.turns start' t.last) → up ≡ true → limit' ≡ limit
    → step' ≡ step → start' ≡ start → IfOk r (λ t. Counts (guard_value up limit) step t.turns start t.last)
counted_up r up limit limit' step step' start start' h e p q w =
    subst (λ (b : Bool). IfOk r (λ t. Counts (guard_value b limit) step t.turns start t.last)) (sym e)
    (subst (λ (x : ℤ). IfOk r (λ t. Counts (λ n. less_of n x) step t.turns start t.last)) p
    (subst (λ (x : ℤ). IfOk r (λ t. Counts (λ n. less_of n limit') x t.turns start t.last)) q
    (subst (λ (x : ℤ). IfOk r (λ t. Counts (λ n. less_of n limit') step' t.turns x t.last)) w h)))

-- The result for turns down to a limit holds for a guard that compares downwards.
pub counted_down : (r : Result Turns Reason) (up : Bool) (limit limit' step step' start start' : ℤ)
    → IfOk r (λ t. Counts (λ n. less_of limit' n) step' t.turns start' t.last) → up ≡ false → limit' ≡ limit
    → step' ≡ step → start' ≡ start → IfOk r (λ t. Counts (guard_value up limit) step t.turns start t.last)
counted_down r up limit limit' step step' start start' h e p q w =
    subst (λ (b : Bool). IfOk r (λ t. Counts (guard_value b limit) step t.turns start t.last)) (sym e)
    (subst (λ (x : ℤ). IfOk r (λ t. Counts (λ n. less_of x n) step t.turns start t.last)) p
    (subst (λ (x : ℤ). IfOk r (λ t. Counts (λ n. less_of limit' n) x t.turns start t.last)) q
    (subst (λ (x : ℤ). IfOk r (λ t. Counts (λ n. less_of limit' n) step' t.turns x t.last)) w h)))
