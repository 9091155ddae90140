-- Without a fault the function satisfies the relation, and if the relation holds there is no fault.
use Rattle.std.proofs.Common.{◌≡◌, ℕ, suc, ◌+◌, ◌<◌, List, [], ◌∷◌, ◌++◌, length, refl, sym, ap, subst, ◌∙◌, arith, Option, Some, None, Bool, true, false, bytes_eq, if◌then◌else◌, length-append}
use Rattle.std.specs.Option.{option_or}
use Rattle.std.proofs.lemmas.Slice.Eq.{bytes_eq-Decides}
use Rattle.vsi_syntax.specs.Tree as tree
use Rattle.vsi_scope.specs.declared.resolution.ScopeError.{ScopeError}
use Rattle.vsi_scope.specs.Language.{Command, letvars, HasLocations, HasPlaces}
use Rattle.vsi_scope.specs.Scopes.{Text, Scope, IsAbsent, StandsFor, Means, Does, DoesAll, in_sequence}
use Rattle.vsi_scope.specs.Places.{place_of, next_place, or_zero, place, expression_of, commands_of, all_commands}
use Rattle.vsi_lattice.specs.Known.{Known}
use Rattle.vsi_scope.specs.Faults.{Mark, Use, uses, marks, all_marks, locals, all_locals, class_marks, first_fault, if_absent}
use Rattle.vsi_scope.proofs.Faulty.{first_of_both}

-- If two parts have no fault together, the first has none.
pub none_left : (a b : Option ScopeError) → option_or a b ≡ None → a ≡ None
none_left None b e = refl
none_left (Some x) b e = absurd (subst (λ o. elim o as (λ _. Type 0) [ None ↦ ⊥ | Some y ↦ Unit {0} ]) e tt)

-- If two parts have no fault together, the second has none.
pub none_right : (a b : Option ScopeError) → option_or a b ≡ None → b ≡ None
none_right None b e = e
none_right (Some x) b e = absurd (subst (λ o. elim o as (λ _. Type 0) [ None ↦ ⊥ | Some y ↦ Unit {0} ]) e tt)

-- The first part of marks without a fault has none.
pub left_of : (k : Known) (xs ys : List Mark) → first_fault k (xs ++ ys) ≡ None → first_fault k xs ≡ None
left_of k xs ys e = none_left (first_fault k xs) (first_fault k ys) (sym (first_of_both k xs ys) ∙ e)

-- The second part of marks without a fault has none.
pub right_of : (k : Known) (xs ys : List Mark) → first_fault k (xs ++ ys) ≡ None → first_fault k ys ≡ None
right_of k xs ys e = none_right (first_fault k xs) (first_fault k ys) (sym (first_of_both k xs ys) ∙ e)

-- A name without a fault has a position.
there : (o : Option ℕ) (x : ScopeError) → if_absent o x ≡ None → o ≡ Some (or_zero o)
there (Some l) x e = refl
there None x e = absurd (subst (λ o. elim o as (λ _. Type 0) [ None ↦ ⊥ | Some y ↦ Unit {0} ]) e tt)

-- A position in a longer list is within it.
within_next : (o h : Option ℕ) (n l : ℕ) → ((k : ℕ) → o ≡ Some k → k < n) → ((k : ℕ) → h ≡ Some k → k < 1) →
    next_place o h ≡ Some l → l < suc n
within_next (Some k) h n l f g e = omega (arith, f k refl, ap or_zero e)
within_next None h n l f g e = omega (arith, g l e)

-- The position given by a test that succeeds is the first.
first_here : (b : Bool) (k : ℕ) → (if b then Some 0 else None) ≡ Some k → k < 1
first_here true k e = omega (arith, ap or_zero e)
first_here false k e = absurd (subst (λ o. elim o as (λ _. Type 0) [ None ↦ Unit {0} | Some y ↦ ⊥ ]) e tt)

-- The position of a name is within the list.
pub within : (s : Scope) (x : Text) (l : ℕ) → place_of s x ≡ Some l → l < length s
within [] x l e = absurd (subst (λ o. elim o as (λ _. Type 0) [ None ↦ Unit {0} | Some y ↦ ⊥ ]) e tt)
within (y ∷ ys) x l e =
    within_next (place_of ys x) (if bytes_eq y x then Some 0 else None) (length ys) l (λ k. within ys x k)
    (first_here (bytes_eq y x)) e

-- An expression without a fault reads locations in scope.
pub locations : (k : Known) (s : Scope) (e : tree.Tree) → first_fault k (uses s e) ≡ None →
    HasLocations (length s) (expression_of s e)
locations k s (tree.Number n) p = tt
locations k s (tree.Name x) p = within s x.text (place s x.text) (there (place_of s x.text) _ (none_left _ _ p))
locations k s (tree.Bracket e) p = locations k s e p
locations k s (tree.Binary op a b) p =
    (locations k s a (left_of k (uses s a) (uses s b) p), locations k s b (right_of k (uses s a) (uses s b) p))

-- None is not some value.
not_some : {A : Type 0} {B : Type 0} (x : B) → None ≡ Some x → A
not_some {A} {B} x e = absurd (subst (λ o. elim o as (λ _. Type 0) [ None ↦ Unit {0} | Some y ↦ ⊥ ]) e tt)

-- Some value is not none.
pub not_none : {A : Type 0} {B : Type 0} (x : B) → Some x ≡ None → A
not_none {A} {B} x e = not_some x (sym e)

-- False is not true.
pub not_true : {A : Type 0} → false ≡ true → A
not_true {A} e = absurd (subst (λ o. elim o as (λ _. Type 0) [ true ↦ ⊥ | false ↦ Unit {0} ]) e tt)

-- A name without a position in a list has none after the first name and differs from the first name.
absent_step : (o : Option ℕ) (b : Bool) → next_place o (if b then Some 0 else None) ≡ None → (o ≡ None) × (b ≡ false)
absent_step (Some k) b e = not_none _ e
absent_step None true e = not_none _ e
absent_step None false e = (refl, refl)

-- A name without a position is absent.
pub absent : (s : Scope) (x : Text) → place_of s x ≡ None → IsAbsent s x
absent [] x e = tt
absent (y ∷ ys) x e =
    let p = absent_step (place_of ys x) (bytes_eq y x) e in
    (λ q. not_true (sym p.1 ∙ (bytes_eq-Decides y x).1 q), absent ys x p.0)

-- A position in a longer list is the one that the name denotes, by cases on the rest and on the first name.
stands_step : (o : Option ℕ) (b : Bool) (y x : Text) (ys : Scope) (l : ℕ) → place_of ys x ≡ o → bytes_eq y x ≡ b →
    next_place o (if b then Some 0 else None) ≡ Some l → ((k : ℕ) → place_of ys x ≡ Some k → StandsFor ys x k) →
    StandsFor (y ∷ ys) x l
stands_step (Some k) b y x ys l p q e rec =
    let r = rec k p in
    record {
      before = y ∷ r.before;
      after = r.after;
      splits = ap (λ z. y ∷ z) r.splits;
      place = ap suc r.place
          ∙ ap or_zero e;
      last = r.last;
    }
stands_step None true y x ys l p q e rec =
    record {
      before = [];
      after = ys;
      splits = ap (λ z. z ∷ ys) ((bytes_eq-Decides y x).0 q);
      place = ap or_zero e;
      last = absent ys x p;
    }
stands_step None false y x ys l p q e rec = not_some l e

-- A name denotes its last position.
pub stands : (s : Scope) (x : Text) (l : ℕ) → place_of s x ≡ Some l → StandsFor s x l
stands [] x l e = not_some l e
stands (y ∷ ys) x l e = stands_step (place_of ys x) (bytes_eq y x) y x ys l refl refl e (λ k. stands ys x k)

-- A use without a fault has its name in scope.
pub used : (k : Known) (s : Scope) (x : tree.Named) (ms : List Mark) → first_fault k (Use s x ∷ ms) ≡ None →
    place_of s x.text ≡ Some (place s x.text)
used k s x ms p = there (place_of s x.text) _ (none_left _ _ p)

-- If there is no fault from a use on, there is none after it.
pub used_behind : (k : Known) (s : Scope) (x : tree.Named) (ms : List Mark) → first_fault k (Use s x ∷ ms) ≡ None →
    first_fault k ms ≡ None
used_behind k s x ms p = none_right _ _ p

-- The form over locations of an expression without a fault is the one that the function gives.
pub means : (k : Known) (s : Scope) (e : tree.Tree) → first_fault k (uses s e) ≡ None → Means s e (expression_of s e)
means k s (tree.Number n) p = refl
means k s (tree.Name x) p = (place s x.text, stands s x.text _ (used k s x [] p), refl)
means k s (tree.Bracket e) p = means k s e p
means k s (tree.Binary op a b) p = (
  expression_of s a,
  expression_of s b,
  means k s a (left_of k (uses s a) (uses s b) p),
  means k s b (right_of k (uses s a) (uses s b) p),
  refl,
)

mutual
  -- The form over locations of a command without a fault is the one that the function gives.
  pub does : (k : Known) (s : Scope) (n : ℕ) (c : tree.Command) → first_fault k (marks s n c) ≡ None →
      Does s c (commands_of s c)
  does k s n (tree.Assign x e) p = (
    place s x.text,
    expression_of s e,
    stands s x.text _ (used k s x (uses s e) p),
    means k s e (used_behind k s x (uses s e) p),
    refl,
  )
  does k s n (tree.If e c d) p =
      let q = right_of k (uses s e) (marks s n c ++ marks s (n + locals c) d) p in (
        expression_of s e,
        commands_of s c,
        commands_of s d,
        means k s e (left_of k (uses s e) (marks s n c ++ marks s (n + locals c) d) p),
        does k s n c
            (left_of k (marks s n c) (marks s (n + locals c) d) q),
        does k s (n + locals c) d (right_of k (marks s n c)
            (marks s (n + locals c) d) q),
        refl,
      )
  does k s n (tree.While e c) p = (
    expression_of s e,
    commands_of s c,
    means k s e (left_of k (uses s e) (marks s n c) p),
    does k s n c
        (right_of k (uses s e) (marks s n c) p),
    refl,
  )
  does k s n (tree.Letvar x class e c) p =
      let q = right_of k (class_marks class) (uses s e ++ marks (s ++ x.text ∷ []) (suc n) c) (none_right _ _ p) in (
        expression_of s e,
        commands_of (s ++ x.text ∷ []) c,
        means k s e (left_of k (uses s e) (marks (s ++ x.text ∷ []) (suc n) c) q),
        does k (s ++ x.text ∷ [])
            (suc n) c (right_of k (uses s e) (marks (s ++ x.text ∷ []) (suc n) c) q),
        refl,
      )
  does k s n (tree.Block b) p = does_all k s n b p

  -- The form over locations of a sequence without a fault is the one that the function gives.
  pub does_all : (k : Known) (s : Scope) (n : ℕ) (b : tree.Body) → first_fault k (all_marks s n b) ≡ None →
      DoesAll s b (all_commands s b)
  does_all k s n tree.Done p = refl
  does_all k s n (tree.Then c rest) p = (
    commands_of s c,
    all_commands s rest,
    does k s n c
        (left_of k (marks s n c) (all_marks s (n + locals c) rest) p),
    does_all k s (n + locals c) rest
        (right_of k (marks s n c) (all_marks s (n + locals c) rest) p),
    refl,
  )

-- The locations of two joined lists exist if those of each list do.
places_both : (k : ℕ) (xs ys : List Command) → HasPlaces k (in_sequence xs) → HasPlaces k (in_sequence ys) →
    HasPlaces k (in_sequence (xs ++ ys))
places_both k [] ys p q = q
places_both k (x ∷ xs) ys p q = (p.0, places_both k xs ys p.1 q)

-- Two joined lists have the letvars of both.
letvars_both : (xs ys : List Command) →
    letvars (in_sequence (xs ++ ys)) ≡ letvars (in_sequence xs) + letvars (in_sequence ys)
letvars_both [] ys = omega arith
letvars_both (x ∷ xs) ys = omega (arith, letvars_both xs ys)

mutual
  -- The locations of a command without a fault exist.
  pub places : (k : Known) (s : Scope) (n : ℕ) (c : tree.Command) → first_fault k (marks s n c) ≡ None →
      HasPlaces (length s) (in_sequence (commands_of s c))
  places k s n (tree.Assign x e) p =
      ((within s x.text _ (used k s x (uses s e) p), locations k s e (used_behind k s x (uses s e) p)), tt)
  places k s n (tree.If e c d) p =
      let q = right_of k (uses s e) (marks s n c ++ marks s (n + locals c) d) p in (
        (
          locations k s e (left_of k (uses s e) (marks s n c ++ marks s (n + locals c) d) p),
          places k s n c
              (left_of k (marks s n c) (marks s (n + locals c) d) q),
          places k s (n + locals c) d
              (right_of k (marks s n c) (marks s (n + locals c) d) q),
        ),
        tt,
      )
  places k s n (tree.While e c) p = (
    (
      locations k s e (left_of k (uses s e) (marks s n c) p),
      places k s n c
          (right_of k (uses s e) (marks s n c) p),
    ),
    tt,
  )
  places k s n (tree.Letvar x class e c) p =
      let q = right_of k (class_marks class) (uses s e ++ marks (s ++ x.text ∷ []) (suc n) c) (none_right _ _ p) in
      let r = places k (s ++ x.text ∷ []) (suc n) c (right_of k (uses s e) (marks (s ++ x.text ∷ []) (suc n) c) q) in (
        (
          locations k s e (left_of k (uses s e) (marks (s ++ x.text ∷ []) (suc n) c) q),
          subst (λ z. HasPlaces z (in_sequence (commands_of (s ++ x.text ∷ []) c)))
              (length-append s (x.text ∷ [])) r,
        ),
        tt,
      )
  places k s n (tree.Block b) p = all_places k s n b p

  -- The locations of a sequence without a fault exist.
  pub all_places : (k : Known) (s : Scope) (n : ℕ) (b : tree.Body) → first_fault k (all_marks s n b) ≡ None →
      HasPlaces (length s) (in_sequence (all_commands s b))
  all_places k s n tree.Done p = tt
  all_places k s n (tree.Then c rest) p =
      places_both (length s) (commands_of s c) (all_commands s rest)
      (places k s n c (left_of k (marks s n c) (all_marks s (n + locals c) rest) p))
      (all_places k s (n + locals c) rest (right_of k (marks s n c) (all_marks s (n + locals c) rest) p))

mutual
  -- A command over locations has the letvars of its tree.
  pub letvars_of : (s : Scope) (c : tree.Command) → letvars (in_sequence (commands_of s c)) ≡ locals c
  letvars_of s (tree.Assign x e) = refl
  letvars_of s (tree.If e c d) = omega (arith, letvars_of s c, letvars_of s d)
  letvars_of s (tree.While e c) = omega (arith, letvars_of s c)
  letvars_of s (tree.Letvar x class e c) = omega (arith, letvars_of (s ++ x.text ∷ []) c)
  letvars_of s (tree.Block b) = all_letvars s b

  -- A sequence over locations has the letvars of its tree.
  pub all_letvars : (s : Scope) (b : tree.Body) → letvars (in_sequence (all_commands s b)) ≡ all_locals b
  all_letvars s tree.Done = refl
  all_letvars s (tree.Then c rest) =
      omega (arith, letvars_both (commands_of s c) (all_commands s rest), letvars_of s c, all_letvars s rest)
