-- The commands that remain in the optimised body.
use Rattle.std.proofs.Common.{◌≡◌, ℕ, zero, suc, ◌+◌, ◌<◌, ◌≤◌, Bool, true, false, ◌||◌, cond, ltb, inl, inr, ⊎_elim, List, ◌++◌, Option, Some, None, pos, negsuc, refl, sym, ap, ◌∙◌, subst, arith}
use Rattle.std.proofs.lemmas.Bool.{cases_eq, cases_lt, false≢true, true≢false, lt-ltb, or_left, or_right, or_cases}
use Rattle.vsi_syntax.specs.declared.tree.Op.{Op}
use Rattle.vsi_syntax.specs.declared.token.Span.{Span}
use Rattle.vsi_scope.specs.Language.{Expression, Number, Location, Operator, Command, Skip, Assign, Sequence, If, While, Letvar, HasPlaces, letvars}
use Rattle.vsi_opt.specs.Folding.{fold_operator, folded, one, append, truth_of, branch, loop, fold}
use Rattle.vsi_opt.specs.Liveness.{Locations, joined, with_bit, reads, all_reads, taken, throughout, before, kept, kept_in_loop, kept_live}
use Rattle.vsi_opt.specs.Optimised.{globals_alone, optimised}
use Rattle.vsi_opt.specs.Remaining.{may_be_true, may_be_false, list_if, remaining, AssignmentRemains, Remains}
use Rattle.vsi_opt.proofs.LiveRuns.{bit_same, bit_other}
use Rattle.vsi_opt.proofs.Numbers.{joined_nothing}
use Rattle.vsi_opt.proofs.Sequences.{append_append}

-- One set within another, for the first k locations.
abbrev pub WithinFirst : ℕ → Locations → Locations → Type 0
WithinFirst k a b = (l : ℕ) → l < k → a l ≡ true → b l ≡ true

-- A set with the first g locations.
abbrev pub HasFirst : ℕ → Locations → Type 0
HasFirst g a = (l : ℕ) → l < g → a l ≡ true

-- Removal in a loop treats the parts of a sequence separately.
kept_in_loop_append : (x y : Command) (k : ℕ) (live : Locations) →
    kept_in_loop k (append x y) live ≡ append (kept_in_loop k x live) (kept_in_loop k y live)
kept_in_loop_append Skip y k live = refl
kept_in_loop_append (Assign l s e) y k live = refl
kept_in_loop_append (Sequence a c) y k live =
    ap (append (kept_in_loop k a live)) (kept_in_loop_append c y k live)
    ∙ sym (append_append (kept_in_loop k a live) (kept_in_loop k c live) (kept_in_loop k y live))
kept_in_loop_append (If e a c) y k live = refl
kept_in_loop_append (While e c) y k live = refl
kept_in_loop_append (Letvar e c) y k live = refl

-- The live locations before a sequence are those before its first part.
before_append : (x y : Command) (g k : ℕ) (live : Locations) →
    before g k (append x y) live ≡ before g k x (before g k y live)
before_append Skip y g k live = refl
before_append (Assign l s e) y g k live = refl
before_append (Sequence a c) y g k live = ap (before g k a) (before_append c y g k live)
before_append (If e a c) y g k live = refl
before_append (While e c) y g k live = refl
before_append (Letvar e c) y g k live = refl

-- Removal treats the parts of a sequence separately, from the end.
kept_live_append : (x y : Command) (g k : ℕ) (live : Locations) →
    kept_live g k (append x y) live ≡ append (kept_live g k x (before g k y live)) (kept_live g k y live)
kept_live_append Skip y g k live = refl
kept_live_append (Assign l s e) y g k live = refl
kept_live_append (Sequence a c) y g k live =
    let after = before g k y live in
    ap (λ b. append (kept_live g k a b) (kept_live g k (append c y) live)) (before_append c y g k live)
    ∙ ap (append (kept_live g k a (before g k c after))) (kept_live_append c y g k live)
    ∙ sym (append_append (kept_live g k a (before g k c after)) (kept_live g k c after) (kept_live g k y live))
kept_live_append (If e a c) y g k live = refl
kept_live_append (While e c) y g k live = refl
kept_live_append (Letvar e c) y g k live = refl

-- A folded operator reads no more.
operator_reads : (o : Op) (a b : Expression) (l : ℕ) → reads (fold_operator o a b) l ≡ true →
    (reads a l || reads b l) ≡ true
operator_reads o (Number x) (Number y) l h = absurd (false≢true h)
operator_reads o (Number x) (Location m s) l h = h
operator_reads o (Number x) (Operator p c d) l h = h
operator_reads o (Location m s) b l h = h
operator_reads o (Operator p c d) b l h = h

-- A disjunction of two tests implies the disjunction of two weaker ones.
or_both : (a b a' b' : Bool) → (a ≡ true → a' ≡ true) → (b ≡ true → b' ≡ true) → (a || b) ≡ true → (a' || b') ≡ true
or_both a b a' b' f g h = ⊎_elim (λ x. or_left a' b' (f x)) (λ y. or_right a' b' (g y)) (or_cases a b h)

-- A folded expression reads no more.
folded_reads : (e : Expression) (l : ℕ) → reads (folded e) l ≡ true → reads e l ≡ true
folded_reads (Number n) l h = h
folded_reads (Location m s) l h = h
folded_reads (Operator o a b) l h =
    or_both (reads (folded a) l) (reads (folded b) l) (reads a l) (reads b l) (folded_reads a l) (folded_reads b l)
    (operator_reads o (folded a) (folded b) l h)

-- The parts of a sequence read what it reads.
append_reads : (x y : Command) (l : ℕ) → all_reads (append x y) l ≡ true → (all_reads x l || all_reads y l) ≡ true
append_reads Skip y l h = h
append_reads (Assign m s e) y l h = h
append_reads (Sequence a c) y l h =
    ⊎_elim
    (λ x. or_left (all_reads a l || all_reads c l) (all_reads y l) (or_left (all_reads a l) (all_reads c l) x))
    (λ x. or_both (all_reads c l) (all_reads y l) (all_reads a l || all_reads c l) (all_reads y l)
    (or_right (all_reads a l) (all_reads c l)) (λ z. z) (append_reads c y l x))
    (or_cases (all_reads a l) (all_reads (append c y) l) h)
append_reads (If e a c) y l h = h
append_reads (While e c) y l h = h
append_reads (Letvar e c) y l h = h

-- The sequence of one command reads only what the command reads.
one_reads : (b : Bool) → (b || false) ≡ true → b ≡ true
one_reads true h = refl
one_reads false h = h

-- A folded choice reads no more than its parts.
branch_reads : (t : Option Bool) (e : Expression) (a b : Command) (l : ℕ) → all_reads (branch t e a b) l ≡ true →
    (reads e l || (all_reads a l || all_reads b l)) ≡ true
branch_reads (Some true) e a b l h =
    or_right (reads e l) (all_reads a l || all_reads b l) (or_left (all_reads a l) (all_reads b l) h)
branch_reads (Some false) e a b l h =
    or_right (reads e l) (all_reads a l || all_reads b l) (or_right (all_reads a l) (all_reads b l) h)
branch_reads None e a b l h = one_reads (reads e l || (all_reads a l || all_reads b l)) h

-- A folded loop reads no more than its parts.
loop_reads : (t : Option Bool) (e : Expression) (c : Command) (l : ℕ) → all_reads (loop t e c) l ≡ true →
    (reads e l || all_reads c l) ≡ true
loop_reads (Some true) e c l h = one_reads (reads e l || all_reads c l) h
loop_reads (Some false) e c l h = absurd (false≢true h)
loop_reads None e c l h = one_reads (reads e l || all_reads c l) h

-- A folded command reads no more.
fold_reads : (c : Command) (l : ℕ) → all_reads (fold c) l ≡ true → all_reads c l ≡ true
fold_reads Skip l h = h
fold_reads (Assign m s e) l h = folded_reads e l (one_reads (reads (folded e) l) h)
fold_reads (Sequence a b) l h =
    or_both (all_reads (fold a) l) (all_reads (fold b) l) (all_reads a l) (all_reads b l) (fold_reads a l)
    (fold_reads b l)
    (append_reads (fold a) (fold b) l h)
fold_reads (If e a b) l h =
    or_both (reads (folded e) l) (all_reads (fold a) l || all_reads (fold b) l) (reads e l)
    (all_reads a l || all_reads b l)
    (folded_reads e l)
    (or_both (all_reads (fold a) l) (all_reads (fold b) l) (all_reads a l) (all_reads b l) (fold_reads a l)
    (fold_reads b l))
    (branch_reads (truth_of (folded e)) (folded e) (fold a) (fold b) l h)
fold_reads (While e c) l h =
    or_both (reads (folded e) l) (all_reads (fold c) l) (reads e l) (all_reads c l) (folded_reads e l)
    (fold_reads c l)
    (loop_reads (truth_of (folded e)) (folded e) (fold c) l h)
fold_reads (Letvar e c) l h =
    or_both (reads (folded e) l) (all_reads (fold c) l) (reads e l) (all_reads c l) (folded_reads e l)
    (fold_reads c l)
    (one_reads (reads (folded e) l || all_reads (fold c) l) h)

-- A location in a set without another location is in the set.
bit_within : (live : Locations) (k l : ℕ) → with_bit live k false l ≡ true → live l ≡ true
bit_within live k l h =
    ⊎_elim
    (λ is. absurd (false≢true (sym (bit_same live k false) ∙ sym (ap (with_bit live k false) is) ∙ h)))
    (λ other. sym (bit_other live k false l other) ∙ h)
    (cases_eq l k)

-- An assignment leaves only locations live that were live.
taken_within : (g k : ℕ) (live : Locations) (l : ℕ) → taken g k live l ≡ true → live l ≡ true
taken_within g k live l h = go (ltb k g) h
  where
    go : (b : Bool) → cond b live (with_bit live k false) l ≡ true → live l ≡ true
    go true x = x
    go false x = bit_within live k l x

-- A location that is live before a command is live after it or is read in it.
before_reads : (c : Command) (g k : ℕ) (live : Locations) (l : ℕ) → before g k c live l ≡ true →
    (live l || all_reads c l) ≡ true
before_reads Skip g k live l h = or_left (live l) false h
before_reads (Assign m s e) g k live l h = go (live m) h
  where
    go : (b : Bool) → cond b (joined (taken g m live) (reads e)) live l ≡ true → (live l || reads e l) ≡ true
    go true x = or_both (taken g m live l) (reads e l) (live l) (reads e l) (taken_within g m live l) (λ y. y) x
    go false x = or_left (live l) (reads e l) x
before_reads (Sequence a b) g k live l h =
    let after = before g k b live in
    ⊎_elim
    (λ x. or_both (live l) (all_reads b l) (live l) (all_reads a l || all_reads b l) (λ y. y)
    (or_right (all_reads a l) (all_reads b l)) (before_reads b g k live l x))
    (λ y. or_right (live l) (all_reads a l || all_reads b l) (or_left (all_reads a l) (all_reads b l) y))
    (or_cases (after l) (all_reads a l) (before_reads a g k after l h))
before_reads (If e a b) g k live l h =
    let both = all_reads a l || all_reads b l in
    ⊎_elim
    (λ x. ⊎_elim
    (λ y. or_both (live l) (all_reads a l) (live l) (reads e l || both) (λ z. z)
    (λ z. or_right (reads e l) both (or_left (all_reads a l) (all_reads b l) z)) (before_reads a g k live l y))
    (λ y. or_both (live l) (all_reads b l) (live l) (reads e l || both) (λ z. z)
    (λ z. or_right (reads e l) both (or_right (all_reads a l) (all_reads b l) z)) (before_reads b g k live l y))
    (or_cases (before g k a live l) (before g k b live l) x))
    (λ x. or_right (live l) (reads e l || both) (or_left (reads e l) both x))
    (or_cases (before g k a live l || before g k b live l) (reads e l) h)
before_reads (While e c) g k live l h = h
before_reads (Letvar e c) g k live l h =
    let inner = with_bit live k false in
    ⊎_elim
    (λ x. or_both (inner l) (all_reads c l) (live l) (reads e l || all_reads c l) (bit_within live k l)
    (or_right (reads e l) (all_reads c l))
    (before_reads c g (k + 1) inner l (bit_within (before g (k + 1) c inner) k l x)))
    (λ x. or_right (live l) (reads e l || all_reads c l) (or_left (reads e l) (all_reads c l) x))
    (or_cases (with_bit (before g (k + 1) c inner) k false l) (reads e l) h)

-- A location below another stays when that one is taken out.
bit_first : (live : Locations) (g k : ℕ) (b : Bool) → g ≤ k → HasFirst g live → HasFirst g (with_bit live k b)
bit_first live g k b le h l lt = bit_other live k b l (λ is. absurd (omega (arith, is, lt, le))) ∙ h l lt

-- An assignment leaves the globals live.
taken_first : (live : Locations) (g k : ℕ) → HasFirst g live → HasFirst g (taken g k live)
taken_first live g k h l lt =
    ⊎_elim
    (λ is. ap (λ b. cond b live (with_bit live k false) l) (lt-ltb k g is) ∙ h l lt)
    (λ ge. cases (ltb k g) (λ e. absurd (omega (arith, e, lt, ge))))
    (cases_lt k g)
  where
    cases : (b : Bool) → (l ≡ k → ⊥) → cond b live (with_bit live k false) l ≡ true
    cases true ne = h l lt
    cases false ne = bit_other live k false l ne ∙ h l lt

-- The globals are live before a command if they are live after it.
before_first : (c : Command) (g k : ℕ) (live : Locations) → g ≤ k → HasFirst g live → HasFirst g (before g k c live)
before_first Skip g k live le h = h
before_first (Assign m s e) g k live le h = go (live m)
  where
    go : (b : Bool) → HasFirst g (cond b (joined (taken g m live) (reads e)) live)
    go true l lt = or_left (taken g m live l) (reads e l) (taken_first live g m h l lt)
    go false l lt = h l lt
before_first (Sequence a b) g k live le h = before_first a g k (before g k b live) le (before_first b g k live le h)
before_first (If e a b) g k live le h =
    λ l lt. or_left (before g k a live l || before g k b live l) (reads e l)
    (or_left (before g k a live l) (before g k b live l) (before_first a g k live le h l lt))
before_first (While e c) g k live le h = λ l lt. or_left (live l) (reads e l || all_reads c l) (h l lt)
before_first (Letvar e c) g k live le h =
    let inner = with_bit live k false in
    λ l lt. or_left (with_bit (before g (k + 1) c inner) k false l) (reads e l)
    (bit_first (before g (k + 1) c inner) g k false le
    (before_first c g (k + 1) inner (omega (arith, le)) (bit_first live g k false le h)) l lt)

-- A guard that is known to be false is literal 0.
false_is_zero : (e : Expression) → truth_of e ≡ Some false → e ≡ Number (pos zero)
false_is_zero (Number (pos zero)) h = refl
false_is_zero (Number (pos (suc n))) h = absurd
    (true≢false (ap (λ o. elim o as (λ _. Bool) [ None ↦ false | Some b ↦ b ]) h))
false_is_zero (Number (negsuc n)) h = absurd
    (true≢false (ap (λ o. elim o as (λ _. Bool) [ None ↦ false | Some b ↦ b ]) h))
false_is_zero (Location l s) h = absurd (true≢false (ap (λ o. elim o as (λ _. Bool) [ None ↦ true | Some b ↦ b ]) h))
false_is_zero (Operator o a b) h = absurd (true≢false (ap (λ o. elim o as (λ _. Bool) [ None ↦ true | Some b ↦ b ]) h))

-- An assignment stays if its location is live, and is removed otherwise.
put_remains : (g k l : ℕ) (s : Span) (e : Expression) (w live : Locations) → l < k → WithinFirst k live w →
    HasFirst g live → AssignmentRemains g w l (Assign l s e) (append (kept (live l) (Assign l s e)) Skip)
put_remains g k l s e w live lt within first = go (live l) refl
  where
    go : (b : Bool) → live l ≡ b → AssignmentRemains g w l (Assign l s e) (append (kept b (Assign l s e)) Skip)
    go true is = inl (refl, within l lt is)
    go false is =
        inr (refl, ⊎_elim (λ low. absurd (false≢true (sym is ∙ first l low))) (λ high. high) (cases_lt l g))

-- A choice that is folded after removal in its branches.
choice_remains : (g k n : ℕ) (w : Locations) (e : Expression) (a b a' b' : Command) (xs ys : List ℕ) (P : Command →
    Command) →
    ((x y : Command) → P (one (If (folded e) x y)) ≡ one (If (folded e) (P x) (P y))) →
    Remains g w k n a (P a') xs → Remains g w k (n + letvars a) b (P b') ys →
    (t : Option Bool) → truth_of (folded e) ≡ t →
    Remains g w k n (If e a b) (P (branch t (folded e) a' b'))
    (list_if (may_be_true t) xs ++ list_if (may_be_false t) ys)
choice_remains g k n w e a b a' b' xs ys P over ra rb (Some true) is =
    inl (is, subst (Remains g w k n a (P a')) (sym (joined_nothing xs)) ra)
choice_remains g k n w e a b a' b' xs ys P over ra rb (Some false) is = inr (inl (is, rb))
choice_remains g k n w e a b a' b' xs ys P over ra rb None is =
    inr (inr (P a', P b', xs, ys, ra, rb, over a' b', refl))

-- A loop that is folded after removal in its body.
loop_remains : (g k n : ℕ) (w : Locations) (e : Expression) (c d : Command) (xs : List ℕ) (P : Command → Command) →
    P Skip ≡ Skip → (c' : Command) → P (one (While (folded e) d)) ≡ one (While (folded e) c') →
    Remains g w k n c c' xs → (t : Option Bool) → truth_of (folded e) ≡ t →
    Remains g w k n (While e c) (P (loop t (folded e) d)) (list_if (may_be_true t) xs)
loop_remains g k n w e c d xs P gone c' over r (Some true) is = inr (c', r, over)
loop_remains g k n w e c d xs P gone c' over r (Some false) is = inl (false_is_zero (folded e) is, gone, refl)
loop_remains g k n w e c d xs P gone c' over r None is = inr (c', r, over)

-- In a loop, the live locations may be assigned, and they include the globals.
pub kept_in_loop_remains : (c : Command) (g k n : ℕ) (w live : Locations) → g ≤ k → HasPlaces k c →
    WithinFirst k live w →
    HasFirst g live → Remains g w k n c (kept_in_loop k (fold c) live) (remaining c n)
kept_in_loop_remains Skip g k n w live le p within first = (refl, refl)
kept_in_loop_remains (Assign l s e) g k n w live le p within first =
    (put_remains g k l s (folded e) w live p.0 within first, refl)
kept_in_loop_remains (Sequence a b) g k n w live le p within first = (
  kept_in_loop k (fold a) live,
  kept_in_loop k (fold b) live,
  remaining a n,
  remaining b (n + letvars a),
  kept_in_loop_remains a g k n w live le p.0 within first,
  kept_in_loop_remains b g k (n + letvars a) w live le p.1 within first,
  kept_in_loop_append (fold a) (fold b) k live,
  refl,
)
kept_in_loop_remains (If e a b) g k n w live le p within first =
    choice_remains g k n w e a b (fold a) (fold b) (remaining a n) (remaining b (n + letvars a))
    (λ c. kept_in_loop k c live)
    (λ x y. refl) (kept_in_loop_remains a g k n w live le p.1 within first)
    (kept_in_loop_remains b g k (n + letvars a) w live le p.2 within first) (truth_of (folded e)) refl
kept_in_loop_remains (While e c) g k n w live le p within first =
    loop_remains g k n w e c (fold c) (remaining c n) (λ c. kept_in_loop k c live) refl
    (kept_in_loop k (fold c) live) refl
    (kept_in_loop_remains c g k n w live le p.1 within first) (truth_of (folded e)) refl
kept_in_loop_remains (Letvar e c) g k n w live le p within first =
    let own = all_reads (fold c) k in
    let inner = with_bit live k own in
    let there = with_bit w k (all_reads c k) in (
      kept_in_loop (k + 1) (fold c) inner,
      remaining c (n + 1),
      kept_in_loop_remains c g (k + 1) (n + 1) there inner (omega (arith, le)) p.1
          (λ l lt h. ⊎_elim
          (λ is. ap there is ∙ bit_same w k (all_reads c k)
          ∙ fold_reads c k (sym (bit_same live k own) ∙ sym (ap inner is) ∙ h))
          (λ other. bit_other w k (all_reads c k) l other
          ∙ within l (omega (arith, lt, other)) (sym (bit_other live k own l other) ∙ h))
          (cases_eq l k))
          (bit_first live g k own le first),
      refl,
      refl,
    )

-- Outside loops, the locations that are live after a command, and those it reads, may be assigned.
pub kept_live_remains : (c : Command) (g k n : ℕ) (w live : Locations) → g ≤ k → HasPlaces k c → WithinFirst k live w →
    WithinFirst k (all_reads c) w → HasFirst g live → Remains g w k n c (kept_live g k (fold c) live) (remaining c n)
kept_live_remains Skip g k n w live le p within reading first = (refl, refl)
kept_live_remains (Assign l s e) g k n w live le p within reading first =
    (put_remains g k l s (folded e) w live p.0 within first, refl)
kept_live_remains (Sequence a b) g k n w live le p within reading first =
    let after = before g k (fold b) live in (
      kept_live g k (fold a) after,
      kept_live g k (fold b) live,
      remaining a n,
      remaining b (n + letvars a),
      kept_live_remains a g k n w after le p.0
          (λ l lt h. ⊎_elim (within l lt)
          (λ x. reading l lt (or_right (all_reads a l) (all_reads b l) (fold_reads b l x)))
          (or_cases (live l) (all_reads (fold b) l) (before_reads (fold b) g k live l h)))
          (λ l lt h. reading l lt (or_left (all_reads a l) (all_reads b l) h))
          (before_first (fold b) g k live le first),
      kept_live_remains b g k (n + letvars a) w live le p.1 within
          (λ l lt h. reading l lt (or_right (all_reads a l) (all_reads b l) h)) first,
      kept_live_append (fold a) (fold b) g k live,
      refl,
    )
kept_live_remains (If e a b) g k n w live le p within reading first =
    choice_remains g k n w e a b (fold a) (fold b) (remaining a n) (remaining b (n + letvars a))
    (λ c. kept_live g k c live)
    (λ x y. refl)
    (kept_live_remains a g k n w live le p.1 within
    (λ l lt h. reading l lt (or_right (reads e l) (all_reads a l || all_reads b l)
    (or_left (all_reads a l) (all_reads b l) h)))
    first)
    (kept_live_remains b g k (n + letvars a) w live le p.2 within
    (λ l lt h. reading l lt (or_right (reads e l) (all_reads a l || all_reads b l)
    (or_right (all_reads a l) (all_reads b l) h)))
    first)
    (truth_of (folded e)) refl
kept_live_remains (While e c) g k n w live le p within reading first =
    let all = throughout (folded e) (fold c) live in
    loop_remains g k n w e c (fold c) (remaining c n) (λ c. kept_live g k c live) refl
    (kept_in_loop k (fold c) all) refl
    (kept_in_loop_remains c g k n w all le p.1
    (λ l lt h. ⊎_elim (within l lt)
    (λ x. reading l lt (or_both (reads (folded e) l) (all_reads (fold c) l) (reads e l) (all_reads c l)
    (folded_reads e l) (fold_reads c l) x))
    (or_cases (live l) (reads (folded e) l || all_reads (fold c) l) h))
    (λ l lt. or_left (live l) (reads (folded e) l || all_reads (fold c) l) (first l lt)))
    (truth_of (folded e)) refl
kept_live_remains (Letvar e c) g k n w live le p within reading first =
    let inner = with_bit live k false in
    let there = with_bit w k (all_reads c k) in (
      kept_live g (k + 1) (fold c) inner,
      remaining c (n + 1),
      kept_live_remains c g (k + 1) (n + 1) there inner (omega (arith, le)) p.1
          (λ l lt h. ⊎_elim
          (λ is. absurd (false≢true (sym (bit_same live k false) ∙ sym (ap inner is) ∙ h)))
          (λ other. bit_other w k (all_reads c k) l other
          ∙ within l (omega (arith, lt, other)) (sym (bit_other live k false l other) ∙ h))
          (cases_eq l k))
          (λ l lt h. ⊎_elim
          (λ is. ap there is ∙ bit_same w k (all_reads c k) ∙ sym (ap (all_reads c) is) ∙ h)
          (λ other. bit_other w k (all_reads c k) l other
          ∙ reading l (omega (arith, lt, other)) (or_right (reads e l) (all_reads c l) h))
          (cases_eq l k))
          (bit_first live g k false le first),
      refl,
      refl,
    )

-- The optimised body is a remainder of the body.
pub optimised_remains : (c : Command) (g : ℕ) → HasPlaces g c →
    Remains g (globals_alone g) g 0 c (optimised g c) (remaining c 0)
optimised_remains c g p =
    kept_live_remains c g g 0 (globals_alone g) (globals_alone g) (omega arith) p
    (λ l lt h. h) (λ l lt h. lt-ltb l g lt) (λ l lt. lt-ltb l g lt)
