-- The bytes of a lattice file declare the names and the order of one lattice.
use Rattle.std.proofs.Common.{◌≡◌, ◌<◌, ℕ, List, length, ◌∙◌, sym, subst}
use Rattle.vsi_lattice.specs.FileFaults.{IsOf, numbers}
use Rattle.vsi_lattice.specs.LatticeView.{names, order}
use Rattle.vsi_lattice.specs.Laws.{lawful_is_lattice}
use Rattle.vsi_lattice.specs.Order.{Below, IsLattice, Lattice as Order}
use Rattle.vsi_lattice.specs.Pairs.{IsDeclared}
use Rattle.vsi_lattice.specs.Shape.{File}
use Rattle.vsi_lattice.specs.declared.lattice.Lattice.{Lattice}
use Rattle.vsi_lattice.proofs.FileLemmas.{same_file}
use Rattle.vsi_lattice.proofs.JoinLemmas.{same_tests}
use Rattle.vsi_answers.specs.Judged.{Declares}

-- Orders of the same parts are the same.
same_parts : (K L : Order) → K.count ≡ L.count → ((a b : ℕ) → K.leq a b ≡ L.leq a b) → K.bottom ≡ L.bottom →
    K.top ≡ L.top → K ≡ L
same_parts K L count leq bottom top =
    λ i. record { count = count i; leq = λ a b. leq a b i; bottom = bottom i; top = top i }

-- The test is of classes alone.
abbrev IsOfClasses : Order → Type 0
IsOfClasses L = (a b : ℕ) → Below L a b → (a < L.count) × (b < L.count)

-- A class that is below another by one order declared by pairs is below it by every order that they declare.
below_too : (count : ℕ) (pairs : List (ℕ × ℕ)) (K L : Order) → IsDeclared count pairs K → IsDeclared count pairs L →
    IsOfClasses K → (a b : ℕ) → Below K a b → Below L a b
below_too count pairs K L k l within a b below =
    let low : a < count = subst (λ n. a < n) k.count_is (within a b below).0 in
    let high : b < count = subst (λ n. b < n) k.count_is (within a b below).1 in
    l.complete a b low high (k.sound a b low high below)

-- The order that pairs declare is one.
same_order : (count : ℕ) (pairs : List (ℕ × ℕ)) (K L : Order) → IsDeclared count pairs K → IsDeclared count pairs L →
    IsOfClasses K → IsOfClasses L → IsLattice K → IsLattice L → K ≡ L
same_order count pairs K L k l in_k in_l is_k is_l =
    let counts : K.count ≡ L.count = k.count_is ∙ sym l.count_is in
    let up = below_too count pairs K L k l in_k in
    let down = below_too count pairs L K l k in_l in
    let bottom_k : L.bottom < K.count = subst (λ n. L.bottom < n) (sym counts) is_l.bottom_within in
    let bottom_l : K.bottom < L.count = subst (λ n. K.bottom < n) counts is_k.bottom_within in
    let top_k : L.top < K.count = subst (λ n. L.top < n) (sym counts) is_l.top_within in
    let top_l : K.top < L.count = subst (λ n. K.top < n) counts is_k.top_within in
    same_parts K L counts
    (λ a b. same_tests (K.leq a b) (L.leq a b) (up a b) (down a b))
    (is_k.antisymmetric K.bottom L.bottom is_k.bottom_within bottom_k (is_k.bottom_least L.bottom bottom_k)
    (down L.bottom K.bottom (is_l.bottom_least K.bottom bottom_l)))
    (is_k.antisymmetric K.top L.top is_k.top_within top_k (down K.top L.top (is_l.top_greatest K.top top_l))
    (is_k.top_greatest L.top top_k))

-- The agreement of two lattices declared by one file.
pub record AreAlike (l m : Lattice) : Type 0 where
  pub named : names l ≡ names m
  pub ordered : order l ≡ order m

-- One file.
of_file : (f : File) (l m : Lattice) → IsOf f (names l) (order l) → IsOf f (names m) (order m) → AreAlike l m
of_file f l m of_l of_m =
    record {
      named = of_l.names_are ∙ sym of_m.names_are;
      ordered = same_order (length f.names) (numbers f) (order l) (order m) of_l.order_is of_m.order_is
          l.order.rows.preorder.within m.order.rows.preorder.within (lawful_is_lattice (order l) l.order.lawful)
          (lawful_is_lattice (order m) m.order.lawful);
    }

-- Lattices that the same bytes declare are alike.
pub declared_alike : (policy : List ℕ) (l m : Lattice) → Declares policy l → Declares policy m → AreAlike l m
declared_alike policy l m first second =
    of_file first.0 l m first.2
    (subst (λ f. IsOf f (names m) (order m)) (sym (same_file first.1 second.1)) second.2)
