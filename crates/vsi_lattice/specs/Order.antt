-- A finite lattice of classes; a class is an index below the count.
use Rattle.std.specs.Prelude.{◌≡◌, ℕ, ◌<◌, Bool, IsTrue}

module _ (count : ℕ) (R : ℕ → ℕ → Type 0) where
  -- The class c is above both a and b, and below every class above both.
  pub record IsJoin (a b c : ℕ) : Type 0 where
    pub within : c < count
    pub left : R a c
    pub right : R b c
    pub least : (d : ℕ) → d < count → R a d → R b d → R c d

  -- The class c is below both a and b, and above every class below both.
  pub record IsMeet (a b c : ℕ) : Type 0 where
    pub within : c < count
    pub left : R c a
    pub right : R c b
    pub greatest : (d : ℕ) → d < count → R d a → R d b → R d c

  -- Two classes have a join.
  abbrev pub HasJoin : ℕ → ℕ → Type 0
  HasJoin a b = (c : ℕ) × IsJoin a b c

  -- Two classes have a meet.
  abbrev pub HasMeet : ℕ → ℕ → Type 0
  HasMeet a b = (c : ℕ) × IsMeet a b c

-- The number of classes, the order, the least class and the greatest.
pub record Lattice : Type 0 where
  pub count : ℕ
  pub leq : ℕ → ℕ → Bool
  pub bottom : ℕ
  pub top : ℕ

-- The number is that of a class of the lattice.
abbrev pub IsClass : Lattice → ℕ → Type 0
IsClass L a = a < L.count

-- A is at or below b.
abbrev pub Below : Lattice → ℕ → ℕ → Type 0
Below L a b = IsTrue (L.leq a b)

-- A partial order in which every two classes have a join and a meet, with a least and a greatest class.
pub record IsLattice (L : Lattice) : Type 0 where
  pub reflexive : (a : ℕ) → IsClass L a → Below L a a
  pub antisymmetric : (a b : ℕ) → IsClass L a → IsClass L b → Below L a b → Below L b a → a ≡ b
  pub transitive : (a b c : ℕ) → IsClass L a → IsClass L b → IsClass L c → Below L a b → Below L b c → Below L a c
  pub joins : (a b : ℕ) → IsClass L a → IsClass L b → HasJoin L.count (Below L) a b
  pub meets : (a b : ℕ) → IsClass L a → IsClass L b → HasMeet L.count (Below L) a b
  pub bottom_within : IsClass L L.bottom
  pub bottom_least : (a : ℕ) → IsClass L a → Below L L.bottom a
  pub top_within : IsClass L L.top
  pub top_greatest : (a : ℕ) → IsClass L a → Below L a L.top
