-- One more variable gets its number.
use Rattle.std.proofs.Common.{◌≡◌, ◌≢◌, ℕ, zero, suc, ◌+◌, ◌<◌, ◌≤◌, ◌==◌, cond, Bool, true, false, ◌||◌, List, length, get_or, set, refl, sym, ap, ◌∙◌, subst, arith, inl, inr, length-set, get_or-set_other, get_or-set_same, eq-eqb, ne_eqb, sum_by}
use Rattle.std.proofs.lemmas.Bool.{cases_eq, cases_lt, true≢false}
use Rattle.std.proofs.lemmas.List.Sums.{sum_by-set}
use Rattle.vsi_infer.specs.Distances.{Leads, IsGoal, IsAway, AreDistances, Spreads, AtMost, IsSeen, Moved, unreached}

module _ (flows : ℕ → ℕ → Bool) (goals : List Bool) (level : ℕ) (small : level < 65534) where
  -- If no number changes, nothing has moved.
  pub moved_none : (far : List ℕ) → Moved flows level far far false
  moved_none far = record { down = λ v. omega arith; level_kept = λ v e. e; quiet = λ e. refl; fewer = omega arith }

  module _ (far : List ℕ) (from : ℕ) (lt : from < length far) (free : get_or far from 0 ≡ 65535) where
    -- Another variable keeps its number.
    pub other : (v : ℕ) → v ≢ from → get_or (set far from (level + 1)) v 0 ≡ get_or far v 0
    other v n = get_or-set_other far from v (level + 1) 0 n

    -- The variable has the new number.
    pub same : get_or (set far from (level + 1)) from 0 ≡ level + 1
    same = get_or-set_same far from (level + 1) 0 lt

    -- No number grows.
    pub down : (v : ℕ) → get_or (set far from (level + 1)) v 0 ≤ get_or far v 0
    down v = elim (cases_eq v from) [
      | inl e ↦ subst (λ u. get_or (set far from (level + 1)) u 0 ≤ get_or far u 0) (sym e)
          (omega (arith, same, free, small))
      | inr n ↦ omega (arith, other v n)
    ]

    -- A number up to the level was there before.
    old_there : (v x : ℕ) → x ≤ level → get_or (set far from (level + 1)) v 0 ≡ x → get_or far v 0 ≡ x
    old_there v x le e = elim (cases_eq v from) [
      | inl q ↦ absurd (omega (arith, ap (λ (u : ℕ). get_or (set far from (level + 1)) u 0) q, same, e, le))
      | inr n ↦ sym (other v n) ∙ e
    ]

    -- After one more number, the numbers spread as before.
    pub one_more : (to : ℕ) → flows from to ≡ true → get_or far to 0 ≡ level → to < length far
        → Spreads flows goals level far → Spreads flows goals level (set far from (level + 1))
    one_more to fl at tl s = record {
      len = length-set far from (level + 1) ∙ s.len;
      start = λ v h. elim (cases_eq v from) [
        | inl e ↦ absurd (omega (arith, ap (λ (u : ℕ). get_or far u 0) e, s.start v h, free))
        | inr n ↦ other v n ∙ s.start v h
      ];
      sound = λ v hv hn. elim (cases_eq v from) [
        | inl e ↦ (let there = s.sound to tl (omega (arith, at, small)) in
            let d : get_or (set far from (level + 1)) v 0 ≡ suc (get_or far to 0) =
            omega (arith, ap (λ (u : ℕ). get_or (set far from (level + 1)) u 0) e, same, at) in
            subst (λ m. IsAway flows goals m v) (sym d) (
              there.0,
              there.1,
              (to, ap (λ u. flows u to) e ∙ fl, there.2),
            ))
        | inr n ↦ subst (λ m. IsAway flows goals m v) (sym (other v n))
            (s.sound v (omega (arith, hv, length-set far from (level + 1))) (omega (arith, hn, other v n)))
      ];
      below = λ v hv hn. elim (cases_eq v from) [
        | inl e ↦ omega (arith, ap (λ (u : ℕ). get_or (set far from (level + 1)) u 0) e, same)
        | inr n ↦ (let b = s.below v (omega (arith, hv, length-set far from (level + 1)))
            (omega (arith, hn, other v n)) in omega (arith, b, other v n))
      ];
      closed = λ a b f h.
          let e = old_there b (get_or (set far from (level + 1)) b 0) (omega (arith, h)) refl in
          let c = s.closed a b f (omega (arith, e, h)) in
          omega (arith, c, e, down a);
    }

    -- After one more number, something has moved.
    pub one_moved : (old : List ℕ) (more : Bool) → Moved flows level old far more
        → Moved flows level old (set far from (level + 1)) true
    one_moved old more m = record {
      down = λ v. omega (arith, down v, m.down v);
      level_kept = λ v e. m.level_kept v (old_there v level (omega arith) e);
      quiet = λ e. absurd (true≢false e);
      fewer =
          let sums : sum_by (λ d. cond (d == 65535) 1 0) (set far from (level + 1)) + cond
          (get_or far from 0 == 65535) 1 0 ≡ sum_by (λ d. cond (d == 65535) 1 0) far + cond
          (level + 1 == 65535) 1 0 = sum_by-set (λ d. cond (d == 65535) 1 0) far from (level + 1) 0 lt in
          let a : cond (get_or far from 0 == 65535) 1 0 ≡ (let x : ℕ = 1 in x) =
          ap (λ t. cond t 1 0) (eq-eqb (get_or far from 0) 65535 free) in
          let b : cond (level + 1 == 65535) 1 0 ≡ (let x : ℕ = 0 in x) =
          ap (λ t. cond t 1 0) (ne_eqb (level + 1) 65535 (λ e. omega (arith, e, small))) in
          omega (arith, sums, a, b, m.fewer);
    }

  -- Two moves in a row are one move.
  pub moved_on : (old mid new : List ℕ) (x y : Bool) → Moved flows level old mid x → Moved flows level mid new y
      → Moved flows level old new (x || y)
  moved_on old mid new x y m n = record {
    down = λ v. omega (arith, m.down v, n.down v);
    level_kept = λ v e. m.level_kept v (n.level_kept v e);
    quiet = quiet x y m n;
    fewer = fewer x y m n;
  }
    where
      quiet : (x y : Bool) → Moved flows level old mid x → Moved flows level mid new y → (x || y) ≡ false → new ≡ old
      quiet false false m n e = n.quiet refl ∙ m.quiet refl
      quiet true y m n e = absurd (true≢false e)
      quiet false true m n e = absurd (true≢false e)

      fewer : (x y : Bool) → Moved flows level old mid x → Moved flows level mid new y
          → unreached new + cond (x || y) 1 0 ≤ unreached old
      fewer true true m n = omega (arith, m.fewer, n.fewer)
      fewer true false m n = omega (arith, m.fewer, n.fewer)
      fewer false true m n = omega (arith, m.fewer, n.fewer)
      fewer false false m n = omega (arith, m.fewer, n.fewer)

module _ (flows : ℕ → ℕ → Bool) (goals : List Bool) (level : ℕ) (small : level < 65534)
    (within : (a b : ℕ) → flows a b ≡ true → (a < length goals) × (b < length goals)) where
  -- Once every place of a level has been seen, no flow to it is left out.
  seen_closed : (new : List ℕ) → Spreads flows goals level new
      → ((b : ℕ) → b < length new → get_or new b 0 ≡ level → IsSeen flows level new b) → (a b : ℕ)
      → flows a b ≡ true → get_or new b 0 < level + 1 → get_or new a 0 ≤ get_or new b 0 + 1
  seen_closed new s seen a b f h = elim (cases_lt (get_or new b 0) level) [
    | inl lt ↦ s.closed a b f lt
    | inr ge ↦ (let e : get_or new b 0 ≡ level = omega (arith, ge, h) in let q =
        seen b (omega (arith, (within a b f).1, s.len)) e a f in omega (arith, q, e))
  ]

  -- The next level is reached.
  pub level_on : (old new : List ℕ) → AtMost flows goals level old → Spreads flows goals level new
      → ((b : ℕ) → b < length new → get_or new b 0 ≡ level → IsSeen flows level new b)
      → AtMost flows goals (level + 1) new
  level_on old new w s seen = record {
    spreads = record {
      len = s.len;
      start = s.start;
      sound = s.sound;
      below = λ v hv hn. let b = s.below v hv hn in omega (arith, b);
      closed = seen_closed new s seen;
    };
    within = s.below;
  }

  -- After the last level the numbers are distances.
  pub level_last : (new : List ℕ) → level ≤ length goals → AtMost flows goals level new
      → ((b : ℕ) → b < length new → get_or new b 0 ≡ level → IsSeen flows level new b) → AreDistances flows goals new
  level_last new le w seen = record {
    len = w.spreads.len;
    start = w.spreads.start;
    sound = w.spreads.sound;
    small = λ v hv hn. let q = w.within v hv hn in omega (arith, q, le);
    closed = λ a b f h. seen_closed new w.spreads seen a b f (let q =
        w.within b (omega (arith, (within a b f).1, w.spreads.len)) h in omega (arith, q));
  }

-- If a goal is n flows away, the number was found and is at most n.
pub fewest : (flows : ℕ → ℕ → Bool) (goals : List Bool) (far : List ℕ) → length goals ≤ 1025
    → ((a b : ℕ) → flows a b ≡ true → (a < length goals) × (b < length goals))
    → AreDistances flows goals far → (n v b : ℕ) → Leads flows n v b → IsGoal goals b → (get_or far v 0 < 65535)
    × (get_or far v 0 ≤ n)
fewest flows goals far few within d zero v b w h =
    let e : get_or far v 0 ≡ (let x : ℕ = 0 in x) = ap (λ (u : ℕ). get_or far u 0) w ∙ d.start b h in
    (omega (arith, e), omega (arith, e))
fewest flows goals far few within d (suc n) v b (c, f, w) h =
    let q = fewest flows goals far few within d n c b w h in
    let lt = (within v c f).1 in
    let s = d.small c (omega (arith, lt, d.len)) q.0 in
    let r = d.closed v c f q.0 in
    (omega (arith, s, r, few), omega (arith, q.1, r))
