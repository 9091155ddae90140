-- Choices of classes, position by position.
use Rattle.std.proofs.Common.{◌≡◌, ℕ, zero, suc, ◌+◌, ◌<◌, List, [], ◌∷◌, map, length, get_or, Option, None, refl, sym, ap, subst, ⊎_elim, arith}
use Rattle.std.specs.List.{AllZip}
use Rattle.std.proofs.lemmas.List.{get_or-map, get_or_read}
use Rattle.std.proofs.lemmas.Bool.{cases_lt}
use Rattle.vsi_scope.specs.declared.resolved.Entry.{Entry}
use Rattle.vsi_types.specs.Security.{Keeps}

-- The declared class at a position is kept.
pub kept_at : (ds : List (Option ℕ)) (s : List ℕ) (i : ℕ) → AllZip Keeps ds s → i < length ds →
    Keeps (get_or ds i None) (get_or s i 0)
kept_at [] s i h lt = absurd (omega arith)
kept_at (d ∷ ds) [] i h lt = absurd h
kept_at (d ∷ ds) (c ∷ s) zero h lt = h.0
kept_at (d ∷ ds) (c ∷ s) (suc i) h lt = kept_at ds s i h.1 (omega arith)

-- A list with as many classes as declarations, each of them kept, is a choice.
pub kept_all : (ds : List (Option ℕ)) (s : List ℕ) → length ds ≡ length s →
    ((i : ℕ) → i < length ds → Keeps (get_or ds i None) (get_or s i 0)) → AllZip Keeps ds s
kept_all [] [] e h = tt
kept_all [] (c ∷ s) e h = absurd (omega (arith, e))
kept_all (d ∷ ds) [] e h = absurd (omega (arith, e))
kept_all (d ∷ ds) (c ∷ s) e h =
    (h 0 (omega arith), kept_all ds s (omega (arith, e)) (λ i lt. h (suc i) (omega (arith, lt))))

-- A choice has as many classes as there are entries.
pub choice_length : {A : Type 0} (f : A → Option ℕ) (es : List A) (s : List ℕ) → AllZip Keeps (map f es) s →
    length es ≡ length s
choice_length f [] [] h = refl
choice_length f [] (c ∷ s) h = absurd h
choice_length f (e ∷ es) [] h = absurd h
choice_length f (e ∷ es) (c ∷ s) h = ap suc (choice_length f es s h.1)

-- The elements at a position of the entries and of the choice.
pub at_place : (es : List Entry) (s : List ℕ) (i : ℕ) (e : Entry) (c : ℕ) → i < length es → i < length s →
    c ≡ get_or s i c → (X : Option ℕ → ℕ → Type 0) → X (get_or es i e).class c →
    X (get_or (map (λ e. e.class) es) i None) (get_or s i 0)
at_place es s i e c lt lt' is X h =
    subst (λ d. X d (get_or s i 0)) (sym (get_or-map (λ e. e.class) es i e None lt))
    (subst (X (get_or es i e).class) (get_or_read s i c lt' is 0) h)

-- One more position is kept.
pub kept_more : (es : List Entry) (s : List ℕ) (i : ℕ) →
    Keeps (get_or (map (λ e. e.class) es) i None) (get_or s i 0) →
    ((j : ℕ) → j < i → Keeps (get_or (map (λ e. e.class) es) j None) (get_or s j 0)) →
    (j : ℕ) → j < i + 1 → Keeps (get_or (map (λ e. e.class) es) j None) (get_or s j 0)
kept_more es s i here h j lt =
    ⊎_elim (λ below. h j below)
    (λ le.
    let same : i ≡ j = omega (arith, lt, le) in
    subst (λ k. Keeps (get_or (map (λ e. e.class) es) k None) (get_or s k 0)) same here)
    (cases_lt j i)
