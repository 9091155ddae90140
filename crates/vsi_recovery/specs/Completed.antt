-- Classes and pairs that are added to an order. Numbers are classes; the added ones come after the others.
use Rattle.std.specs.Prelude.{ℕ, ◌+◌, ◌<◌, List, ◌++◌}
use Rattle.vsi_lattice.specs.Pairs.{Leq, MakesLattice}

module _ (count : ℕ) (pairs : List (ℕ × ℕ)) where
  -- With so many classes more and the added pairs the order is a lattice.
  abbrev pub IsLatticeWith : ℕ → List (ℕ × ℕ) → Type 0
  IsLatticeWith more added = MakesLattice (count + more) (Leq (pairs ++ added))

  -- The added pairs put no class below another one that it was not below before.
  abbrev pub KeepsOrder : List (ℕ × ℕ) → Type 0
  KeepsOrder added = (a b : ℕ) → a < count → b < count → Leq (pairs ++ added) a b → Leq pairs a b

-- The class is at or above two others.
abbrev pub IsAboveBoth : List (ℕ × ℕ) → ℕ → ℕ → ℕ → Type 0
IsAboveBoth pairs a b class = Leq pairs a class × Leq pairs b class
