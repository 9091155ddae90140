-- Names and their positions.
use Rattle.std.proofs.Common.{◌≡◌, ℕ, zero, suc, ◌+◌, ◌<◌, Bool, true, false, cond, List, [], ◌∷◌, ◌++◌, length, map, get_or, take, Option, Some, None, option_map, bytes_eq, refl, sym, ap, ◌∙◌, subst, arith, true≢false, inl, inr, is_some, unwrap_or, slice_get, String, Global, string_bytes, Bor, length-take}
use Rattle.std.proofs.lemmas.List.{take_more, map-append, get_or-take}
use Rattle.std.proofs.lemmas.List.{get_or_default}
use Rattle.std.proofs.Math.ListN.{get_or-map}
use Rattle.std.proofs.lemmas.Option.{slice_get-get_or}
use Rattle.std.proofs.lemmas.Slice.Eq.{bytes_eq-Decides}
use Rattle.std.proofs.lemmas.Bool.{cases_Bool}
use Rattle.vsi_syntax.specs.Words.{is_name}
use Rattle.vsi_lattice.specs.NamePlaces.{place_in, IsBadName, StandsIn, StandsEarlier}

-- A text that is not a bad name is a valid name.
pub name_from : (names : List (List ℕ)) (i : ℕ) → i < length names → ¬ (IsBadName names i) →
    is_name (get_or names i []) ≡ true
name_from names i lt h = elim (cases_Bool (is_name (get_or names i []))) [ inl e ↦ e | inr e ↦ absurd (h (lt, e)) ]

-- None is not a value.
pub none_some : {k : ℕ} → ◌≡◌ {A = Option ℕ} None (Some k) → ⊥
none_some h = true≢false (sym (ap is_some h))

-- Two values in equal options are equal.
pub some_same : {j k : ℕ} → ◌≡◌ {A = Option ℕ} (Some j) (Some k) → j ≡ k
some_same h = ap (λ (o : Option ℕ). unwrap_or o 0) h

-- Two texts that are not equal.
pub bytes_apart : (x y : List ℕ) → ¬ (x ≡ y) → bytes_eq x y ≡ false
bytes_apart x y n = elim (cases_Bool (bytes_eq x y)) [ inl e ↦ absurd (n ((bytes_eq-Decides x y).0 e)) | inr e ↦ e ]

-- The position that is found, one further.
found_at : (y x : List ℕ) (ys : List (List ℕ)) (t : Bool) (o : Option ℕ) (k : ℕ) → t ≡ bytes_eq y x →
    ((j : ℕ) → o ≡ Some j → (j < length ys) × (get_or ys j [] ≡ x)) → cond t (Some 0) (option_map suc o) ≡ Some k →
    (k < suc (length ys)) × (get_or (y ∷ ys) k [] ≡ x)
found_at y x ys true o k e f h =
    subst (λ n. (n < suc (length ys)) × (get_or (y ∷ ys) n [] ≡ x)) (some_same h) (
      omega arith,
      (bytes_eq-Decides y x).0 (sym e),
    )
found_at y x ys false None k e f h = absurd (none_some h)
found_at y x ys false (Some j) k e f h =
    let r = f j refl in
    subst (λ n. (n < suc (length ys)) × (get_or (y ∷ ys) n [] ≡ x)) (some_same h) (omega (arith, r.0), r.1)

-- The name is at the position that is found.
pub found : (names : List (List ℕ)) (x : List ℕ) (k : ℕ) → place_in names x ≡ Some k → (k < length names) ×
    (get_or names k [] ≡ x)
found [] x k h = absurd (none_some h)
found (y ∷ ys) x k h = found_at y x ys (bytes_eq y x) (place_in ys x) k refl (λ j. found ys x j) h

-- A name that does not appear earlier is found at its position.
pub found_at_own : (names : List (List ℕ)) (k : ℕ) → k < length names →
    ((j : ℕ) → j < k → ¬ (get_or names j [] ≡ get_or names k [])) → place_in names (get_or names k []) ≡ Some k
found_at_own [] k lt h = absurd (omega (arith, lt))
found_at_own (y ∷ ys) zero lt h =
    ap (λ t. cond t (Some 0) (option_map suc (place_in ys y))) ((bytes_eq-Decides y y).1 refl)
found_at_own (y ∷ ys) (suc k) lt h =
    ap (λ t. cond t (Some 0) (option_map suc (place_in ys (get_or ys k [])))) (bytes_apart y (get_or ys k [])
    (h 0 (omega arith)))
    ∙ ap (option_map suc) (found_at_own ys k (omega (arith, lt)) (λ j p. h (suc j) (omega (arith, p))))

-- The name at a position, as the code reads it.
pub own_name : (kept : List (String Global)) (i k : ℕ) (name : String Global) (text : List ℕ) → i ≡ k →
    name ≡ get_or kept i name → text ≡ string_bytes name → k < length (map string_bytes kept) →
    get_or (map string_bytes kept) k [] ≡ text
own_name kept i k name text f g h lt =
    get_or_default (map string_bytes kept) k [] (string_bytes name) lt ∙ get_or-map string_bytes kept k name
    ∙ ap string_bytes (ap (λ n. get_or kept n name) (sym f) ∙ sym g) ∙ sym h

-- A name at a position is read there.
pub read_place : (names : List (List ℕ)) (name : List ℕ) (k r : ℕ) → r ≡ k → (k < length names) ×
    (get_or names k [] ≡ name) →
    slice_get names r ≡ Some name
read_place names name k r e h = ap (slice_get names) e ∙ slice_get-get_or names k [] h.0 ∙ ap Some h.1

-- The text that a reference points to.
abbrev pub text_of : Bor (List ℕ) → List ℕ
text_of r = r.now

-- The texts that two references point to.
abbrev pub texts_of : Bor (List ℕ) × Bor (List ℕ) → List ℕ × List ℕ
texts_of p = (p.0.now, p.1.now)

-- A reference to nothing.
abbrev nowhere : Bor (List ℕ)
nowhere = record { ref_ptr = (0, 0); now = [] }

-- The name at a position.
pub name_at : (rs : List (Bor (List ℕ))) (i : ℕ) → get_or (map text_of rs) i [] ≡ (get_or rs i nowhere).now
name_at rs i = get_or-map text_of rs i nowhere

-- The pair at a position.
pub text_at : (rs : List (Bor (List ℕ) × Bor (List ℕ))) (i : ℕ) →
    get_or (map texts_of rs) i ([], []) ≡ texts_of (get_or rs i (nowhere, nowhere))
text_at rs i = get_or-map texts_of rs i (nowhere, nowhere)

-- One more item, under a function.
pub push_turn : {A B : Type 0} (g : A → B) (xs : List A) (i : ℕ) (d : A) (ys new : List B) (y : B) → i < length xs →
    ys ≡ map g (take i xs) → y ≡ g (get_or xs i d) → new ≡ ys ++ y ∷ [] → new ≡ map g (take (i + 1) xs)
push_turn g xs i d ys new y lt e f h =
    h ∙ (ap (λ l. l ++ y ∷ []) e ∙ (ap (λ x. map g (take i xs) ++ x ∷ []) f
    ∙ (sym (map-append g (take i xs) (get_or xs i d ∷ [])) ∙ ap (map g) (sym (take_more xs i d lt)))))

-- One more name.
pub take_turn : (xs : List (List ℕ)) (i : ℕ) (ys new : List (List ℕ)) (y : List ℕ) → i < length xs →
    ys ≡ take i xs → y ≡ get_or xs i [] → new ≡ ys ++ y ∷ [] → new ≡ take (i + 1) xs
take_turn xs i ys new y lt e f h =
    h ∙ (ap (λ l. l ++ y ∷ []) e ∙ (ap (λ x. take i xs ++ x ∷ []) f ∙ sym (take_more xs i [] lt)))

-- A name among those before i appears earlier.
pub earlier_from : (xs old : List (List ℕ)) (i : ℕ) (y : List ℕ) → i < length xs → old ≡ take i xs →
    y ≡ get_or xs i [] →
    StandsIn old y → StandsEarlier xs i
earlier_from xs old i y lt e f (j, lj, g) =
    let lj' : j < length (take i xs) = subst (λ l. j < length l) e lj in
    let less : j < i = omega (arith, lj', length-take i xs) in
    (j, less, lt, sym (get_or-take i xs j [] less) ∙ (ap (λ l. get_or l j []) (sym e) ∙ (g ∙ f)))

-- The converse.
pub from_earlier : (xs old : List (List ℕ)) (i : ℕ) (y : List ℕ) → i < length xs → old ≡ take i xs →
    y ≡ get_or xs i [] →
    StandsEarlier xs i → StandsIn old y
from_earlier xs old i y lt e f (j, less, li, g) =
    let lj : j < length (take i xs) = omega (arith, length-take i xs, less, lt) in
    (j, subst (λ l. j < length l) (sym e) lj, ap (λ l. get_or l j []) e ∙ (get_or-take i xs j [] less ∙ (g ∙ sym f)))

-- A place that is there stays there, one further.
placed_on : (b : Bool) (o : Option ℕ) → ((k : ℕ) × (o ≡ Some k)) → (k : ℕ) × (cond b (Some 0) (option_map suc o) ≡ Some k)
placed_on true o h = (0, refl)
placed_on false o h = (suc h.0, ap (option_map suc) h.1)

-- A text in the list has a place.
pub placed : (names : List (List ℕ)) (x : List ℕ) (j : ℕ) → j < length names → get_or names j [] ≡ x →
    (k : ℕ) × (place_in names x ≡ Some k)
placed [] x j lt e = absurd (omega (arith, lt))
placed (y ∷ ys) x zero lt e =
    (0, ap (λ t. cond t (Some 0) (option_map suc (place_in ys x))) ((bytes_eq-Decides y x).1 e))
placed (y ∷ ys) x (suc j) lt e = placed_on (bytes_eq y x) (place_in ys x) (placed ys x j (omega (arith, lt)) e)

-- A text that no place has isn't in the list.
pub absent : (names : List (List ℕ)) (x : List ℕ) → place_in names x ≡ None → ¬ (StandsIn names x)
absent names x none (j, lt, e) =
    none_some (sym none ∙ (placed names x j lt e).1)

-- A text that is found is in the list.
pub present : (names : List (List ℕ)) (x : List ℕ) (k : ℕ) → place_in names x ≡ Some k → StandsIn names x
present names x k h = let r = found names x k h in (k, r.0, r.1)

-- One more owned name.
pub push_name : (kept new : List (String Global)) (name : String Global) (text : List ℕ) →
    new ≡ kept ++ name ∷ [] → string_bytes name ≡ text → map string_bytes new ≡ map string_bytes kept ++ text ∷ []
push_name kept new name text e f =
    ap (map string_bytes) e ∙ (map-append string_bytes kept (name ∷ [])
    ∙ ap (λ t. map string_bytes kept ++ t ∷ []) f)
