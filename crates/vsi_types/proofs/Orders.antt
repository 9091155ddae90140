-- Properties of every element of a list, and the join of several classes.
use Rattle.std.proofs.Common.{ℕ, List, [], ◌∷◌, ◌++◌, map}
use Rattle.std.specs.List.{All}
use Rattle.std.proofs.lemmas.List.Elements.{All-nil, All-cons, All-head, All-tail}
use Rattle.vsi_lattice.specs.Order.{Lattice, IsLattice, IsClass, Below}

-- Every element has the property.
abbrev pub Each : {X : Type 0} → (X → Type 0) → List X → Type 0
Each P [] = Unit {0}
Each P (x ∷ xs) = P x × Each P xs

-- If two lists have a property, so has their concatenation.
pub each_append : {X : Type 0} (P : X → Type 0) (xs ys : List X) → Each P xs → Each P ys → Each P (xs ++ ys)
each_append P [] ys h k = k
each_append P (x ∷ xs) ys h k = (h.0, each_append P xs ys h.1 k)

-- If a list has a property, so has its first part.
pub each_front : {X : Type 0} (P : X → Type 0) (xs ys : List X) → Each P (xs ++ ys) → Each P xs
each_front P [] ys h = tt
each_front P (x ∷ xs) ys h = (h.0, each_front P xs ys h.1)

-- If a list has a property, so has its second part.
pub each_back : {X : Type 0} (P : X → Type 0) (xs ys : List X) → Each P (xs ++ ys) → Each P ys
each_back P [] ys h = h
each_back P (x ∷ xs) ys h = each_back P xs ys h.1

-- If the images have a property, so has the mapped list.
pub each_map : {X Y : Type 0} (P : Y → Type 0) (f : X → Y) (xs : List X) → Each (λ x. P (f x)) xs → Each P (map f xs)
each_map P f [] h = tt
each_map P f (x ∷ xs) h = (h.0, each_map P f xs h.1)

-- If the mapped list has a property, so have the images.
pub each_unmap : {X Y : Type 0} (P : Y → Type 0) (f : X → Y) (xs : List X) → Each P (map f xs) →
    Each (λ x. P (f x)) xs
each_unmap P f [] h = tt
each_unmap P f (x ∷ xs) h = (h.0, each_unmap P f xs h.1)

-- A property of every element implies a weaker one of every element.
pub each_weaker : {X : Type 0} (P Q : X → Type 0) → ((x : X) → P x → Q x) → (xs : List X) → Each P xs → Each Q xs
each_weaker P Q w [] h = tt
each_weaker P Q w (x ∷ xs) h = (w x h.0, each_weaker P Q w xs h.1)

-- `All` implies `Each`.
pub each_from_all : {X : Type 0} (P : X → Type 0) (xs : List X) → All P xs → Each P xs
each_from_all P [] h = tt
each_from_all P (x ∷ xs) h = (All-head P x xs h, each_from_all P xs (All-tail P x xs h))

-- `Each` implies `All`.
pub all_from_each : {X : Type 0} (P : X → Type 0) (xs : List X) → Each P xs → All P xs
all_from_each P [] h = All-nil P
all_from_each P (x ∷ xs) h = All-cons P x xs h.0 (all_from_each P xs h.1)

module _ {X : Type 0} (L : Lattice) (laws : IsLattice L) (f : X → ℕ) (within : (x : X) → IsClass L (f x)) where
  -- A join of the classes of several elements.
  abbrev pub a_join : (xs : List X) → (j : ℕ) × IsClass L j
  a_join [] = (L.bottom, laws.bottom_within)
  a_join (x ∷ xs) =
      let rest = a_join xs in
      let both = laws.joins (f x) rest.0 (within x) rest.1 in
      (both.0, both.1.within)

  -- The join of the classes of several elements.
  abbrev pub join_of : List X → ℕ
  join_of xs = (a_join xs).0

  -- The join is a class of the lattice.
  abbrev pub join_of_within : (xs : List X) → IsClass L (join_of xs)
  join_of_within xs = (a_join xs).1

  -- The join is at or below every class above all of them.
  pub join_of_least : (t : ℕ) → IsClass L t → (xs : List X) → Each (λ x. Below L (f x) t) xs → Below L (join_of xs) t
  join_of_least t k [] h = laws.bottom_least t k
  join_of_least t k (x ∷ xs) h =
      let both = laws.joins (f x) (join_of xs) (within x) (join_of_within xs) in
      both.1.least t k h.0 (join_of_least t k xs h.1)

  -- Each class is at or below the join.
  pub join_of_above : (xs : List X) → Each (λ x. Below L (f x) (join_of xs)) xs
  join_of_above [] = tt
  join_of_above (x ∷ xs) =
      let j = join_of_within xs in
      let both = laws.joins (f x) (join_of xs) (within x) j in
      let up = both.1.right in (
        both.1.left,
        each_weaker (λ y. Below L (f y) (join_of xs)) (λ y. Below L (f y) both.0)
            (λ y h. laws.transitive (f y) (join_of xs) both.0 (within y) j both.1.within h up) xs (join_of_above xs),
      )
