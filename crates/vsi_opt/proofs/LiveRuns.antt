-- Stores that agree on the live locations stay in agreement, and a dead assignment changes no live location.
use Rattle.std.proofs.Common.{◌≡◌, ◌≢◌, ℕ, zero, suc, ◌+◌, Bool, true, false, ◌||◌, cond, eqb, ltb, ◌++◌, [], ◌∷◌, length, take, get_or, Option, Some, None, ℤ, pos, negsuc, refl, sym, ap, ◌∙◌, subst, ⊎_elim, arith, length-set}
use Rattle.std.specs.Prelude.{slice_set, if◌then◌else◌}
use Rattle.std.proofs.lemmas.List.{get_or_append_left, get_or-set_same, get_or-set_other, get_or-take, get_or_push, length_push, get_or_past, length-take-le, ext_get_or}
use Rattle.std.proofs.lemmas.Bool.{cases_eq, cases_lt, false≢true, eq-eqb, ne_eqb, lt-ltb, cond-true, cond-false, or_left, or_right}
use Rattle.vsi_syntax.specs.declared.token.Span.{Span}
use Rattle.vsi_scope.specs.Language.{Expression, Number, Location, Operator, Command, Skip, Assign, Sequence, If, While, Letvar}
use Rattle.vsi_syntax.specs.Operators.{apply}
use Rattle.vsi_scope.specs.Meaning.{Store, value, at_zero, and_then, drop_past, turns, runs}
use Rattle.vsi_opt.specs.Folding.{one, append, fold}
use Rattle.vsi_opt.specs.Liveness.{Locations, joined, with_bit, reads, all_reads, taken, throughout, before, kept, kept_in_loop, kept_live}
use Rattle.vsi_opt.specs.Optimised.{globals_alone, optimised, EvaluatesSame}
use Rattle.vsi_opt.proofs.FoldedRuns.{runs_append, runs_one, fold_runs}

-- One set within another.
abbrev pub Within : Locations → Locations → Type 0
Within a b = (l : ℕ) → a l ≡ true → b l ≡ true

-- A set is within its union with another.
joined_left : (a b : Locations) → Within a (joined a b)
joined_left a b l h = or_left (a l) (b l) h

-- A set is within the union of another with it.
joined_right : (a b : Locations) → Within b (joined a b)
joined_right a b l h = or_right (a l) (b l) h

-- A set within one that is within a third is within the third.
within_on : (a b c : Locations) → Within a b → Within b c → Within a c
within_on a b c f g l h = g l (f l h)

-- Equal words in the live locations.
abbrev pub Agree : Locations → Store → Store → Type 0
Agree live m m' = (l : ℕ) → live l ≡ true → get_or m l (pos 0) ≡ get_or m' l (pos 0)

-- Stores that agree on a set agree on each set within it.
agree_within : (a b : Locations) (m m' : Store) → Within a b → Agree b m m' → Agree a m m'
agree_within a b m m' w h l is = h l (w l is)

-- Both none, or two stores of k words that agree.
abbrev pub SameOn : ℕ → Locations → Option Store → Option Store → Type 0
SameOn k live None None = Unit {0}
SameOn k live None (Some m') = ⊥
SameOn k live (Some m) None = ⊥
SameOn k live (Some m) (Some m') = (length m ≡ k) × (length m' ≡ k) × Agree live m m'

-- Two functions that take stores of k words that agree on one set to stores that agree on another.
abbrev pub Keeps : ℕ → Locations → Locations → (Store → Option Store) → (Store → Option Store) → Type 0
Keeps k b a f f' = (m m' : Store) → length m ≡ k → length m' ≡ k → Agree b m m' → SameOn k a (f m) (f' m')

-- Two steps that keep agreement keep it together.
same_on_then : (k : ℕ) (b a : Locations) (o o' : Option Store) (f f' : Store → Option Store) → SameOn k b o o' →
    Keeps k b a f f' → SameOn k a (and_then o f) (and_then o' f')
same_on_then k b a None None f f' s h = tt
same_on_then k b a None (Some m') f f' s h = absurd s
same_on_then k b a (Some m) None f f' s h = absurd s
same_on_then k b a (Some m) (Some m') f f' s h = h m m' s.0 s.1 s.2

-- Agreement on a set implies agreement on each set within it.
same_on_within : (k : ℕ) (a b : Locations) (o o' : Option Store) → Within a b → SameOn k b o o' → SameOn k a o o'
same_on_within k a b None None w s = tt
same_on_within k a b None (Some m') w s = absurd s
same_on_within k a b (Some m) None w s = absurd s
same_on_within k a b (Some m) (Some m') w s = (s.0, s.1, agree_within a b m m' w s.2)

-- Agreement carries over to an equal outcome.
same_on_from : (k : ℕ) (a : Locations) (o p o' : Option Store) → o ≡ p → SameOn k a p o' → SameOn k a o o'
same_on_from k a o p o' e s = subst (λ x. SameOn k a x o') (sym e) s

-- An expression has one value in stores that agree on the locations it reads.
value_same : (e : Expression) (live : Locations) (m m' : Store) → Within (reads e) live → Agree live m m' →
    value e m ≡ value e m'
value_same (Number n) live m m' w h = refl
value_same (Location l s) live m m' w h = h l (w l (eq-eqb l l refl))
value_same (Operator o a b) live m m' w h =
    ap (λ x. apply o x (value b m)) (value_same a live m m' (λ l r. w l (or_left (reads a l) (reads b l) r)) h)
    ∙ ap (apply o (value a m')) (value_same b live m m' (λ l r. w l (or_right (reads a l) (reads b l) r)) h)

-- At the number that is set, a set has the new bit.
pub bit_same : (live : Locations) (k : ℕ) (b : Bool) → with_bit live k b k ≡ b
bit_same live k b = cond-true (eqb k k) b (live k) (eq-eqb k k refl)

-- At any other number a set is unchanged.
pub bit_other : (live : Locations) (k : ℕ) (b : Bool) (l : ℕ) → l ≢ k → with_bit live k b l ≡ live l
bit_other live k b l ne = cond-false (eqb l k) b (live l) (ne_eqb l k ne)

-- An assignment takes out no other location.
taken_other : (g k : ℕ) (live : Locations) (l : ℕ) → l ≢ k → taken g k live l ≡ live l
taken_other g k live l ne = go (ltb k g)
  where
    go : (b : Bool) → cond b live (with_bit live k false) l ≡ live l
    go true = refl
    go false = bit_other live k false l ne

-- Stores that agree elsewhere agree after one word is set in both.
set_agree : (m m' : Store) (k l : ℕ) (v : ℤ) → length m ≡ length m' →
    (l ≢ k → get_or m l (pos 0) ≡ get_or m' l (pos 0)) → get_or (slice_set m k v) l (pos 0) ≡ get_or
    (slice_set m' k v) l (pos 0)
set_agree m m' k l v len h =
    ⊎_elim
    (λ is.
    ap (λ i. get_or (slice_set m k v) i (pos 0)) is
    ∙ ⊎_elim
    (λ lt. get_or-set_same m k v (pos 0) lt ∙ sym (get_or-set_same m' k v (pos 0) (omega (arith, len))))
    (λ ge.
    get_or_past (slice_set m k v) k (pos 0) (omega (arith, length-set m k v))
    ∙ sym (get_or_past (slice_set m' k v) k (pos 0) (omega (arith, len, length-set m' k v))))
    (cases_lt k (length m))
    ∙ ap (λ i. get_or (slice_set m' k v) i (pos 0)) (sym is))
    (λ other. get_or-set_other m k l v (pos 0) other ∙ h other ∙ sym (get_or-set_other m' k l v (pos 0) other))
    (cases_eq l k)

-- An assignment that stays keeps agreement.
put_keeps : (k l : ℕ) (e : Expression) (b a : Locations) (m m' : Store) → length m ≡ k → length m' ≡ k →
    Within (reads e) b → ((i : ℕ) → i ≢ l → a i ≡ true → b i ≡ true) → Agree b m m' → SameOn k a
    (Some (slice_set m l (value e m))) (Some (slice_set m' l (value e m')))
put_keeps k l e b a m m' len len' w w' h = (
  length-set m l (value e m) ∙ len,
  length-set m' l (value e m') ∙ len',
  λ i is.
      ap (λ v. get_or (slice_set m l v) i (pos 0)) (value_same e b m m' w h)
      ∙ set_agree m m' l i (value e m') (len ∙ sym len') (λ other. h i (w' i other is)),
)

-- An assignment that is removed keeps agreement.
gone_keeps : (k l : ℕ) (v : ℤ) (a : Locations) (m m' : Store) → length m ≡ k → length m' ≡ k → a l ≡ false →
    Agree a m m' → SameOn k a (Some m) (Some (slice_set m' l v))
gone_keeps k l v a m m' len len' dead h = (
  len,
  length-set m' l v ∙ len',
  λ i is. h i is ∙ sym (get_or-set_other m' l i v (pos 0) (λ e. false≢true (sym dead ∙ sym (ap a e) ∙ is))),
)

-- A letvar keeps agreement.
allocate_keeps : (k : ℕ) (e : Expression) (b₀ b a a₀ : Locations) (f f' : Store → Option Store) → Within (reads e) b₀ →
    ((i : ℕ) → i ≢ k → b i ≡ true → b₀ i ≡ true) → ((i : ℕ) → i ≢ k → a i ≡ true → a₀ i ≡ true) → Keeps (k + 1) b
    a₀ f f' → Keeps k b₀ a (λ m. drop_past (length m) (f (m ++ value e m ∷ [])))
    (λ m. drop_past (length m) (f' (m ++ value e m ∷ [])))
allocate_keeps k e b₀ b a a₀ f f' w u u' h m m' len len' agree =
    finish (f (m ++ value e m ∷ [])) (f' (m' ++ value e m' ∷ []))
    (h (m ++ value e m ∷ []) (m' ++ value e m' ∷ []) (length_push m (value e m)
    ∙ ap (λ x. x + 1) len) (length_push m' (value e m') ∙ ap (λ x. x + 1) len') inner)
  where
    inner : Agree b (m ++ value e m ∷ []) (m' ++ value e m' ∷ [])
    inner i is =
        ⊎_elim
        (λ at.
        get_or_push m (value e m) (pos 0) i (len ∙ sym at)
        ∙ value_same e b₀ m m' w agree
        ∙ sym (get_or_push m' (value e m') (pos 0) i (len' ∙ sym at)))
        (λ other.
        ⊎_elim
        (λ lt.
        get_or_append_left m (value e m ∷ []) (pos 0) i (omega (arith, lt, len))
        ∙ agree i (u i other is)
        ∙ sym (get_or_append_left m' (value e m' ∷ []) (pos 0) i (omega (arith, lt, len'))))
        (λ ge.
        get_or_past (m ++ value e m ∷ []) i (pos 0) (omega (arith, ge, other, len, length_push m (value e m)))
        ∙ sym (get_or_past (m' ++ value e m' ∷ []) i (pos 0)
        (omega (arith, ge, other, len', length_push m' (value e m')))))
        (cases_lt i k))
        (cases_eq i k)

    finish : (o o' : Option Store) → SameOn (k + 1) a₀ o o' →
        SameOn k a (drop_past (length m) o) (drop_past (length m') o')
    finish None None s = tt
    finish None (Some x) s = absurd s
    finish (Some x) None s = absurd s
    finish (Some x) (Some x') s = (
      length-take-le (length m) x (omega (arith, len, s.0))
          ∙ len,
      length-take-le (length m') x' (omega (arith, len', s.1)) ∙ len',
      λ i is.
          ⊎_elim
          (λ lt.
          get_or-take (length m) x i (pos 0) (omega (arith, lt, len))
          ∙ s.2 i (u' i (λ e. absurd (omega (arith, e, lt))) is)
          ∙ sym (get_or-take (length m') x' i (pos 0) (omega (arith, lt, len'))))
          (λ ge.
          get_or_past (take (length m) x) i (pos 0)
          (omega (arith, ge, len, s.0, length-take-le (length m) x (omega (arith, len, s.0))))
          ∙ sym (get_or_past (take (length m') x') i (pos 0)
          (omega (arith, ge, len', s.1, length-take-le (length m') x' (omega (arith, len', s.1))))))
          (cases_lt i k),
    )

-- Equal guards choose among outcomes that agree.
at_zero_same_on : (k : ℕ) (a : Locations) (z z' : ℤ) (x y x' y' : Option Store) → z ≡ z' → SameOn k a x x' →
    SameOn k a y y' → SameOn k a (at_zero z x y) (at_zero z' x' y')
at_zero_same_on k a z z' x y x' y' e s t = subst (λ w. SameOn k a (at_zero z x y) (at_zero w x' y')) e (go z)
  where
    go : (w : ℤ) → SameOn k a (at_zero w x y) (at_zero w x' y')
    go (pos zero) = s
    go (pos (suc n)) = t
    go (negsuc n) = t

-- Loops with the same guard and bodies that keep agreement keep it.
turns_keep : (n k : ℕ) (a : Locations) (e : Expression) (f f' : Store → Option Store) → Within (reads e) a →
    Keeps k a a f f' → Keeps k a a (turns n (value e) f) (turns n (value e) f')
turns_keep zero k a e f f' w h m m' len len' agree =
    at_zero_same_on k a (value e m) (value e m') (Some m) None (Some m') None (value_same e a m m' w agree)
    (len, len', agree) tt
turns_keep (suc n) k a e f f' w h m m' len len' agree =
    at_zero_same_on k a (value e m) (value e m') (Some m) (and_then (f m) (turns n (value e) f)) (Some m')
    (and_then (f' m') (turns n (value e) f'))
    (value_same e a m m' w agree) (len, len', agree)
    (same_on_then k a a (f m) (f' m') (turns n (value e) f) (turns n (value e) f') (h m m' len len' agree)
    (turns_keep n k a e f f' w h))

-- The sequence of one command keeps agreement if the command does.
one_keeps : (n k : ℕ) (b a : Locations) (c : Command) (f' : Store → Option Store) → Keeps k b a (runs n c) f' →
    Keeps k b a (runs n (one c)) f'
one_keeps n k b a c f' h m m' len len' agree = same_on_from k a (runs n (one c) m) (runs n c m) (f' m')
    (runs_one n c m) (h m m' len len' agree)

-- Two sequences joined keep agreement if both do.
append_keeps : (n k : ℕ) (b d a : Locations) (x y x' y' : Command) → Keeps k b d (runs n x) (runs n x') →
    Keeps k d a (runs n y) (runs n y') → Keeps k b a (runs n (append x y)) (runs n (Sequence x' y'))
append_keeps n k b d a x y x' y' f g m m' len len' agree =
    same_on_from k a (runs n (append x y) m) (and_then (runs n x m) (runs n y)) (runs n (Sequence x' y') m')
    (runs_append n x y m)
    (same_on_then k d a (runs n x m) (runs n x' m') (runs n y) (runs n y') (f m m' len len' agree) g)

-- An assignment in a loop keeps agreement, whether it stays or is removed.
kept_in_loop_put : (k n l : ℕ) (s : Span) (e : Expression) (live : Locations) → Within (reads e) live →
    Keeps k live live (runs n (kept (live l) (Assign l s e))) (runs n (Assign l s e))
kept_in_loop_put k n l s e live w m m' len len' agree = go (live l) refl
  where
    go : (b : Bool) → live l ≡ b → SameOn k live (runs n (kept b (Assign l s e)) m) (Some (slice_set m' l (value e m')))
    go true is = put_keeps k l e live live m m' len len' w (λ i other h. h) agree
    go false is = gone_keeps k l (value e m') live m m' len len' is agree

-- Removal in a loop keeps agreement on what is live there.
pub kept_in_loop_keeps : (c : Command) (k n : ℕ) (live : Locations) → Within (all_reads c) live →
    Keeps k live live (runs n (kept_in_loop k c live)) (runs n c)
kept_in_loop_keeps Skip k n live w = λ m m' len len' agree. (len, len', agree)
kept_in_loop_keeps (Assign l s e) k n live w = kept_in_loop_put k n l s e live w
kept_in_loop_keeps (Sequence a b) k n live w =
    append_keeps n k live live live (kept_in_loop k a live) (kept_in_loop k b live) a b
    (kept_in_loop_keeps a k n live (λ l r. w l (or_left (all_reads a l) (all_reads b l) r)))
    (kept_in_loop_keeps b k n live (λ l r. w l (or_right (all_reads a l) (all_reads b l) r)))
kept_in_loop_keeps (If e a b) k n live w =
    one_keeps n k live live (If e (kept_in_loop k a live) (kept_in_loop k b live)) (runs n (If e a b))
    (λ m m' len len' agree.
    at_zero_same_on k live (value e m) (value e m') (runs n (kept_in_loop k b live) m)
    (runs n (kept_in_loop k a live) m)
    (runs n b m') (runs n a m')
    (value_same e live m m' (λ l r. w l (or_left (reads e l) (all_reads a l || all_reads b l) r)) agree)
    (kept_in_loop_keeps b k n live (λ l r. w l
    (or_right (reads e l) (all_reads a l || all_reads b l) (or_right (all_reads a l) (all_reads b l) r))) m m' len
    len' agree)
    (kept_in_loop_keeps a k n live (λ l r. w l
    (or_right (reads e l) (all_reads a l || all_reads b l) (or_left (all_reads a l) (all_reads b l) r))) m m' len
    len' agree))
kept_in_loop_keeps (While e c) k n live w =
    one_keeps n k live live (While e (kept_in_loop k c live)) (runs n (While e c))
    (turns_keep n k live e (runs n (kept_in_loop k c live)) (runs n c)
    (λ l r. w l (or_left (reads e l) (all_reads c l) r))
    (kept_in_loop_keeps c k n live (λ l r. w l (or_right (reads e l) (all_reads c l) r))))
kept_in_loop_keeps (Letvar e c) k n live w =
    let inner = with_bit live k (all_reads c k) in
    one_keeps n k live live (Letvar e (kept_in_loop (k + 1) c inner)) (runs n (Letvar e c))
    (allocate_keeps k e live inner live inner (runs n (kept_in_loop (k + 1) c inner)) (runs n c)
    (λ l r. w l (or_left (reads e l) (all_reads c l) r))
    (λ i other is. sym (bit_other live k (all_reads c k) i other) ∙ is)
    (λ i other is. bit_other live k (all_reads c k) i other ∙ is)
    (kept_in_loop_keeps c (k + 1) n inner
    (λ l r. ⊎_elim
    (λ at. ap inner at ∙ bit_same live k (all_reads c k) ∙ sym (ap (all_reads c) at) ∙ r)
    (λ other. bit_other live k (all_reads c k) l other ∙ w l (or_right (reads e l) (all_reads c l) r))
    (cases_eq l k))))

-- An assignment outside loops keeps agreement, whether it stays or is removed.
kept_live_put : (g k n l : ℕ) (s : Span) (e : Expression) (live : Locations) →
    Keeps k (if live l then joined (taken g l live) (reads e) else live) live (runs n (kept (live l) (Assign l s e)))
    (runs n (Assign l s e))
kept_live_put g k n l s e live m m' len len' agree = go (live l) refl agree
  where
    go : (b : Bool) → live l ≡ b → Agree (cond b (joined (taken g l live) (reads e)) live) m m' →
        SameOn k live (runs n (kept b (Assign l s e)) m) (Some (slice_set m' l (value e m')))
    go true is h =
        put_keeps k l e (joined (taken g l live) (reads e)) live m m' len len'
        (joined_right (taken g l live) (reads e))
        (λ i other r. joined_left (taken g l live) (reads e) i (taken_other g l live i other ∙ r)) h
    go false is h = gone_keeps k l (value e m') live m m' len len' is h

-- Removal turns agreement on the live locations before a command into agreement on those after it.
pub kept_live_keeps : (c : Command) (g k n : ℕ) (live : Locations) →
    Keeps k (before g k c live) live (runs n (kept_live g k c live)) (runs n c)
kept_live_keeps Skip g k n live = λ m m' len len' agree. (len, len', agree)
kept_live_keeps (Assign l s e) g k n live = kept_live_put g k n l s e live
kept_live_keeps (Sequence a b) g k n live =
    append_keeps n k (before g k a (before g k b live)) (before g k b live) live (kept_live g k a (before g k b live))
    (kept_live g k b live) a b
    (kept_live_keeps a g k n (before g k b live)) (kept_live_keeps b g k n live)
kept_live_keeps (If e a b) g k n live =
    let x = before g k a live in
    let y = before g k b live in
    let all = joined (joined x y) (reads e) in
    one_keeps n k all live (If e (kept_live g k a live) (kept_live g k b live)) (runs n (If e a b))
    (λ m m' len len' agree.
    at_zero_same_on k live (value e m) (value e m') (runs n (kept_live g k b live) m) (runs n (kept_live g k a live) m)
    (runs n b m') (runs n a m')
    (value_same e all m m' (joined_right (joined x y) (reads e)) agree)
    (kept_live_keeps b g k n live m m' len len'
    (agree_within y all m m' (λ l r. joined_left (joined x y) (reads e) l (joined_right x y l r)) agree))
    (kept_live_keeps a g k n live m m' len len'
    (agree_within x all m m' (λ l r. joined_left (joined x y) (reads e) l (joined_left x y l r)) agree)))
kept_live_keeps (While e c) g k n live =
    let all = throughout e c live in
    let rest = joined (reads e) (all_reads c) in
    one_keeps n k all live (While e (kept_in_loop k c all)) (runs n (While e c))
    (λ m m' len len' agree.
    same_on_within k live all (runs n (While e (kept_in_loop k c all)) m) (runs n (While e c) m')
    (joined_left live rest)
    (turns_keep n k all e (runs n (kept_in_loop k c all)) (runs n c)
    (λ l r. joined_right live rest l (joined_left (reads e) (all_reads c) l r))
    (kept_in_loop_keeps c k n all (λ l r. joined_right live rest l (joined_right (reads e) (all_reads c) l r))) m m' len
    len' agree))
kept_live_keeps (Letvar e c) g k n live =
    let inner = with_bit live k false in
    let b = before g (k + 1) c inner in
    let all = joined (with_bit b k false) (reads e) in
    one_keeps n k all live (Letvar e (kept_live g (k + 1) c inner)) (runs n (Letvar e c))
    (allocate_keeps k e all b live inner (runs n (kept_live g (k + 1) c inner)) (runs n c)
    (joined_right (with_bit b k false) (reads e))
    (λ i other is. joined_left (with_bit b k false) (reads e) i (bit_other b k false i other ∙ is))
    (λ i other is. bit_other live k false i other ∙ is)
    (kept_live_keeps c g (k + 1) n inner))

-- Stores of g words that agree on all of them are equal.
all_agree : (g : ℕ) (o o' : Option Store) → SameOn g (globals_alone g) o o' → o ≡ o'
all_agree g None None s = refl
all_agree g None (Some x) s = absurd s
all_agree g (Some x) None s = absurd s
all_agree g (Some x) (Some x') s =
    ap Some (ext_get_or (pos 0) x x' (s.0 ∙ sym s.1) (λ i lt. s.2 i (lt-ltb i g (omega (arith, lt, s.0)))))

-- The optimised body behaves like the body.
pub evaluates_same : EvaluatesSame
evaluates_same c g n m len =
    all_agree g (runs n (optimised g c) m) (runs n (fold c) m)
    (kept_live_keeps (fold c) g g n (globals_alone g) m m len len (λ i is. refl))
    ∙ fold_runs c n m
