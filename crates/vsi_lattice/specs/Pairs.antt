-- The order that pairs declare, and the conditions for it to be a lattice. Numbers represent classes.
use Rattle.std.specs.Prelude.{◌≡◌, ℕ, ◌<◌, Bool, IsTrue, List, Contains, All}
use Rattle.vsi_lattice.specs.Order.{Lattice, HasJoin, HasMeet, Below}

-- A chain of declared pairs leads from one class to another; the empty chain counts.
pub data Leq (pairs : List (ℕ × ℕ)) : ℕ → ℕ → Type 0 where
  stays : (a : ℕ) → Leq pairs a a
  climbs : (a b c : ℕ) → Contains pairs (a, b) → Leq pairs b c → Leq pairs a c

-- Each pair names classes below the count.
abbrev pub ArePairsBelow : ℕ → List (ℕ × ℕ) → Type 0
ArePairsBelow count pairs = All (λ p. (p.0 < count) × (p.1 < count)) pairs

-- The test as a relation.
abbrev pub Says : (ℕ → ℕ → Bool) → ℕ → ℕ → Type 0
Says leq a b = IsTrue (leq a b)

module _ (count : ℕ) (R : ℕ → ℕ → Type 0) where
  -- A and b are two distinct classes, each below the other.
  abbrev pub IsCycle : ℕ → ℕ → Type 0
  IsCycle a b = (a ≡ b → ⊥) × R a b × R b a

  -- No two classes are below each other, and every two have a join and a meet.
  pub record MakesLattice : Type 0 where
    pub acyclic : (a b : ℕ) → a < count → b < count → ¬ (IsCycle a b)
    pub joins : (a b : ℕ) → a < count → b < count → HasJoin count R a b
    pub meets : (a b : ℕ) → a < count → b < count → HasMeet count R a b

  -- The first pair in lexicographic order that has the fault.
  pub record IsFirstPair (a b : ℕ) : Type 0 where
    pub a_within : a < count
    pub b_within : b < count
    pub holds : R a b
    pub earlier : (x y : ℕ) → x < a → y < count → ¬ (R x y)
    pub before : (y : ℕ) → y < b → ¬ (R a y)

-- The lattice has this number of classes, and its order is the one that the pairs declare.
pub record IsDeclared (count : ℕ) (pairs : List (ℕ × ℕ)) (L : Lattice) : Type 0 where
  pub count_is : L.count ≡ count
  pub sound : (a b : ℕ) → a < count → b < count → Below L a b → Leq pairs a b
  pub complete : (a b : ℕ) → a < count → b < count → Leq pairs a b → Below L a b
