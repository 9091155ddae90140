-- Arrays, item by item.
use Rattle.std.proofs.Common.{◌≡◌, ℕ, ◌+◌, ◌<◌, List, [], ◌∷◌, ◌++◌, length, get_or, drop, map, Option, Some, None, option_map, option_and_then, refl, sym, ap, ◌∙◌, arith, append_assoc, subst, eq-eqb, ne_eqb, codes}
use Rattle.std.proofs.lemmas.List.{map-append}
use Rattle.toml.specs.Data.{Data, Members, as_array, as_str}
use Rattle.toml.specs.View.{view, items_view, members_view}
use Rattle.toml.specs.declared.value.Value.{Value}
use Rattle.toml.proofs.Views.{items_view-drop, Entry}
use Rattle.vsi_lattice.specs.Shape.{all_of, pair_items, pair_of, array_at, member_count, file_of}

-- The results so far, followed by those of the rest.
abbrev pub IsSoFar : {X : Type 0} → (Data → Option X) → List Value → List X → ℕ → Type 0
IsSoFar f vs found i = all_of f (items_view vs) ≡ option_map (λ rest. found ++ rest)
    (all_of f (items_view (drop i vs)))

-- The results so far, with one more.
map_map : {X : Type 0} (xs : List X) (x : X) (o : Option (List X)) →
    option_map (λ rest. xs ++ rest) (option_map (λ ys. x ∷ ys) o) ≡ option_map (λ rest. (xs ++ x ∷ []) ++ rest) o
map_map xs x None = refl
map_map xs x (Some ys) = ap Some (sym (append_assoc xs (x ∷ []) ys))

-- One more item is found.
pub so_far_more : {X : Type 0} (f : Data → Option X) (vs : List Value) (found : List X) (i : ℕ) (d : Value)
    (x : X) → i < length vs → f (view (get_or vs i d)) ≡ Some x → IsSoFar f vs found i →
    IsSoFar f vs (found ++ x ∷ []) (i + 1)
so_far_more f vs found i d x lt e h =
    h ∙ ap (λ ds. option_map (λ rest. found ++ rest) (all_of f ds)) (items_view-drop vs i d lt)
    ∙ ap (λ o. option_map (λ rest. found ++ rest)
    (option_and_then (λ x. option_map (λ xs. x ∷ xs) (all_of f (items_view (drop (i + 1) vs)))) o)) e
    ∙ map_map found x (all_of f (items_view (drop (i + 1) vs)))

-- One item is not found.
pub so_far_none : {X : Type 0} (f : Data → Option X) (vs : List Value) (found : List X) (i : ℕ) (d : Value) →
    i < length vs → f (view (get_or vs i d)) ≡ None → IsSoFar f vs found i → all_of f (items_view vs) ≡ None
so_far_none f vs found i d lt e h =
    h ∙ ap (λ ds. option_map (λ rest. found ++ rest) (all_of f ds)) (items_view-drop vs i d lt)
    ∙ ap (λ o. option_map (λ rest. found ++ rest)
    (option_and_then (λ x. option_map (λ xs. x ∷ xs) (all_of f (items_view (drop (i + 1) vs)))) o)) e

-- An array of another length is not a pair.
pub not_two : (vs : List Value) → (length vs ≡ 2 → ⊥) → pair_items (items_view vs) ≡ None
not_two [] n = refl
not_two (v ∷ []) n = refl
not_two (v ∷ w ∷ []) n = absurd (n refl)
not_two (v ∷ w ∷ x ∷ vs) n = refl

-- A value with such an array is not a pair.
pub no_pair : (d : Data) (vs : List Value) → (length vs ≡ 2 → ⊥) → Some (items_view vs) ≡ as_array d →
    None ≡ pair_of d
no_pair d vs n e = sym (ap (option_and_then pair_items) (sym e) ∙ not_two vs n)

-- One more item is found, as the code keeps it.
pub so_far_push : {X Y : Type 0} (g : Y → X) (f : Data → Option X) (vs : List Value) (found new : List Y) (y : Y)
    (i : ℕ) (v : Value) → i < length vs → v ≡ get_or vs i v → Some (g y) ≡ f (view v) → new ≡ found ++ y ∷ []
    → IsSoFar f vs (map g found) i → IsSoFar f vs (map g new) (i + 1)
so_far_push g f vs found new y i v lt at_i e n h =
    subst (λ xs. IsSoFar f vs xs (i + 1)) (sym (ap (map g) n ∙ map-append g found (y ∷ [])))
    (so_far_more f vs (map g found) i v (g y) lt (ap (λ w. f (view w)) (sym at_i) ∙ sym e) h)

-- A table has as many members as entries.
pub member_count-view : (es : List Entry) → member_count (members_view es) ≡ length es
member_count-view [] = refl
member_count-view (e ∷ es) = omega (arith, member_count-view es)

-- A table with another number of keys is not a lattice file.
pub not_file : (ms : Members) → (member_count ms ≡ 2 → ⊥) → None ≡ file_of ms
not_file ms n = sym (rw (ne_eqb (member_count ms) 2 n))

-- The parts of a table with the two keys.
pub file_from : (ms : Members) (names : List (List ℕ)) (pairs : List (List ℕ × List ℕ)) → member_count ms ≡ 2 →
    Some names ≡ array_at as_str (codes "classes") ms → Some pairs ≡ array_at pair_of (codes "below") ms →
    Some (record { names = names; pairs = pairs }) ≡ file_of ms
file_from ms names pairs e f g = sym (rw (eq-eqb (member_count ms) 2 e, ← f, ← g))
