-- Rows of distances, built one after another, and the fewest steps.
use Rattle.std.proofs.Common.{◌≡◌, ℕ, zero, suc, ◌+◌, ◌<◌, ◌≤◌, ◌⊎◌, ◌==◌, min, false, List, [], ◌∷◌, ◌++◌, map, length, get_or, set, get_or-set_other, get_or-set_same, Option, Some, None, slice_get, refl, sym, ap, ◌∙◌, subst, arith, inl, inr}
use Rattle.std.proofs.lemmas.Bool.{cases_eq, cases_lt, false≢true}
use Rattle.std.proofs.lemmas.Option.{slice_get-get_or, slice_get_within}
use Rattle.vsi_infer.specs.Shortest.{far_at}

-- A row is empty or satisfies its claim.
module _ (Q : ℕ → List ℕ → Type 0) where
  -- A row is empty or its claim holds.
  abbrev pub EmptyOr : List (List ℕ) → ℕ → Type 0
  EmptyOr rows k = (get_or rows k [] ≡ []) ⊎ Q k (get_or rows k [])

  -- A row that was put in satisfies its claim.
  pub set_has : (rows : List (List ℕ)) (i : ℕ) (row : List ℕ) → i < length rows → Q i row → (k : ℕ) → k ≡ i
      → Q k (get_or (set rows i row) k [])
  set_has rows i row lt q k e =
      subst (λ (m : ℕ). Q m (get_or (set rows i row) m [])) (sym e)
      (subst (Q i) (sym (get_or-set_same rows i row [] lt)) q)

  -- After one row is put in, each row is empty or satisfies its claim.
  pub set_each : (rows : List (List ℕ)) (i : ℕ) (row : List ℕ) → i < length rows → Q i row
      → ((k : ℕ) → EmptyOr rows k) → (k : ℕ) → EmptyOr (set rows i row) k
  set_each rows i row lt q h k = elim (cases_eq k i) [
    | inl e ↦ inr (set_has rows i row lt q k e)
    | inr n ↦ subst (λ r. (r ≡ []) ⊎ Q k r) (sym (get_or-set_other rows i k row [] n)) (h k)
  ]

  -- A row's claim still holds after another row is put in.
  pub set_kept : (rows : List (List ℕ)) (i : ℕ) (row : List ℕ) → i < length rows → Q i row → (k : ℕ)
      → Q k (get_or rows k []) → Q k (get_or (set rows i row) k [])
  set_kept rows i row lt q k h = elim (cases_eq k i) [
    | inl e ↦ set_has rows i row lt q k e
    | inr n ↦ subst (Q k) (sym (get_or-set_other rows i k row [] n)) h
  ]

  -- A row that isn't empty satisfies its claim.
  pub has_filled : (rows : List (List ℕ)) (k : ℕ) → (get_or rows k [] ≡ [] → ⊥) → EmptyOr rows k
      → Q k (get_or rows k [])
  has_filled rows k full h = elim h [ inl e ↦ absurd (full e) | inr q ↦ q ]

-- Setting a vector sets the row that it maps to.
pub map_set : {X : Type 0} (f : X → List ℕ) (xs : List X) (i : ℕ) (x : X)
    → map f (set xs i x) ≡ set (map f xs) i (f x)
map_set f [] i x = refl
map_set f (y ∷ xs) zero x = refl
map_set f (y ∷ xs) (suc i) x = ap (λ l. f y ∷ l) (map_set f xs i x)

-- With one more empty row, all rows are still empty.
pub empty_more : (rows : List (List ℕ)) (row : List ℕ) → row ≡ [] → ((k : ℕ) → get_or rows k [] ≡ []) → (k : ℕ)
    → get_or (rows ++ row ∷ []) k [] ≡ []
empty_more [] row e h zero = e
empty_more [] row e h (suc k) = refl
empty_more (x ∷ rows) row e h zero = h 0
empty_more (x ∷ rows) row e h (suc k) = empty_more rows row e (λ i. h (suc i)) k

-- The class is declared at the next variable.
pub class_at : (ds : List (Option ℕ)) (v class c : ℕ) (o : Option ℕ) → v < length ds → get_or ds v o ≡ Some class
    → slice_get ds v ≡ Some (Some c) → class ≡ c
class_at ds v class c o lt is e = unwrap (unwrap' (sym (slice_get-get_or ds v o lt ∙ ap Some is) ∙ e))
  where
    unwrap : {a b : ℕ} → Some a ≡ Some b → a ≡ b
    unwrap {a} e = ap (λ o. elim o as (λ _. ℕ) [ None ↦ a | Some x ↦ x ]) e

    unwrap' : {a b : Option ℕ} → Some a ≡ Some b → a ≡ b
    unwrap' {a} e = ap (λ o. elim o as (λ _. Option ℕ) [ None ↦ a | Some x ↦ x ]) e

-- A property of the classes declared at the first variables holds with one more variable that has no class.
pub next_none : (R : ℕ → Type 0) (ds : List (Option ℕ)) (v : ℕ) (o : Option ℕ) → v < length ds
    → ((x : ℕ) → get_or ds v o ≡ Some x → ⊥) → ((u c : ℕ) → u < v → slice_get ds u ≡ Some (Some c) → R c)
    → (u c : ℕ) → u < v + 1 → slice_get ds u ≡ Some (Some c) → R c
next_none R ds v o lt never h u c le e = elim (cases_eq u v) [
  | inl q ↦ absurd (never c (inner (get_or ds v o) c (sym (slice_get-get_or ds v o lt) ∙ ap (slice_get ds) (sym q)
      ∙ e)))
  | inr n ↦ h u c (omega (arith, le, n)) e
]
  where
    inner : (a : Option ℕ) (c : ℕ) → Some a ≡ Some (Some c) → a ≡ Some c
    inner a c e = ap (λ o. elim o as (λ _. Option ℕ) [ None ↦ a | Some x ↦ x ]) e

-- A property of the classes declared at the first variables holds with one more variable whose class has it.
pub next_some : (R R' : ℕ → Type 0) → ((c : ℕ) → R c → R' c) → (ds : List (Option ℕ)) (v class : ℕ) (o : Option ℕ)
    → v < length ds → get_or ds v o ≡ Some class → R' class →
    ((u c : ℕ) → u < v → slice_get ds u ≡ Some (Some c) → R c)
    → (u c : ℕ) → u < v + 1 → slice_get ds u ≡ Some (Some c) → R' c
next_some R R' weaker ds v class o lt is here h u c le e = elim (cases_eq u v) [
  | inl q ↦ subst R' (class_at ds v class c o lt is (ap (slice_get ds) (sym q) ∙ e)) here
  | inr n ↦ weaker c (h u c (omega (arith, le, n)) e)
]

-- A row with distances isn't empty.
pub filled : (row items : List ℕ) → row ≡ items → false ≡ (length items == 0) → row ≡ [] → ⊥
filled row items e t q = false≢true (t ∙ ap (λ l. length l == 0) (sym e ∙ q))

module _ (ds : List (Option ℕ)) (rows : List (List ℕ)) where
  -- The number is no more than the distance of any of the first declared variables.
  abbrev pub Lower : ℕ → ℕ → Type 0
  Lower best v = (u c : ℕ) → u < v → slice_get ds u ≡ Some (Some c) → best ≤ far_at rows c u

  -- If two optional classes are equal and present, the classes are equal.
  some_of : (a b : Option ℕ) → Some a ≡ Some b → a ≡ b
  some_of a b e = ap (λ o. elim o as (λ _. Option ℕ) [ None ↦ a | Some x ↦ x ]) e

  -- Two classes are equal if their optional values are.
  class_of : (a b : ℕ) → Some a ≡ Some b → a ≡ b
  class_of a b e = ap (λ o. elim o as (λ _. ℕ) [ None ↦ a | Some x ↦ x ]) e

  -- A variable without a class leaves the lower bound unchanged.
  pub lower_none : (best v : ℕ) (o : Option ℕ) → v < length ds → ((x : ℕ) → get_or ds v o ≡ Some x → ⊥)
      → Lower best v → Lower best (v + 1)
  lower_none best v o lt never h u c le e = elim (cases_eq u v) [
    | inl q ↦ absurd (never c (some_of (get_or ds v o) (Some c)
        (sym (slice_get-get_or ds v o lt) ∙ ap (slice_get ds) (sym q) ∙ e)))
    | inr n ↦ h u c (omega (arith, le, n)) e
  ]

  -- A variable with a class keeps the lower bound if its distance is no smaller.
  pub lower_some : (best best' v class : ℕ) (o : Option ℕ) → v < length ds → get_or ds v o ≡ Some class
      → best' ≤ best → best' ≤ far_at rows class v → Lower best v → Lower best' (v + 1)
  lower_some best best' v class o lt is less here h u c le e = elim (cases_eq u v) [
    | inl q ↦ (let k : class ≡ c = class_of class c (sym is ∙ some_of (get_or ds v o) (Some c)
        (sym (slice_get-get_or ds v o lt) ∙ ap (slice_get ds) (sym q) ∙ e)) in
        subst (λ (x : ℕ). best' ≤ far_at rows c x) (sym q) (subst (λ (x : ℕ). best' ≤ far_at rows x v) k here))
    | inr n ↦ (let r = h u c (omega (arith, le, n)) e in omega (arith, r, less))
  ]

  -- The number is the distance of some declared variable, or no distance was found.
  abbrev pub Attained : ℕ → Type 0
  Attained n = (n ≡ 65535) ⊎ ((v : ℕ) × (c : ℕ) × (slice_get ds v ≡ Some (Some c)) × (far_at rows c v ≡ n))

  -- The smaller of two distances is attained.
  pub fewer : (best far best' v class : ℕ) (o : Option ℕ) → v < length ds → get_or ds v o ≡ Some class
      → best' ≡ min best far → far_at rows class v ≡ far → Attained best → Attained best'
  fewer best far best' v class o lt is m f h = elim (cases_lt far best) [
    | inl l ↦ (let e : best' ≡ far = omega (arith, m, l) in inr
        (v, class, slice_get-get_or ds v o lt ∙ ap Some is, f ∙ sym e))
    | inr ge ↦ (let e : best' ≡ best = omega (arith, m, ge) in subst Attained (sym e) h)
  ]

  -- At the end, the lower bound holds for all declared variables.
  pub lower_all : (best v : ℕ) → length ds ≤ v → Lower best v → (u c : ℕ) → slice_get ds u ≡ Some (Some c)
      → best ≤ far_at rows c u
  lower_all best v le h u c e = h u c (let lt = slice_get_within ds u (Some c) e in omega (arith, lt, le)) e
