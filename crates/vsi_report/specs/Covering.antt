-- Covering pairs: the edges of a picture of a lattice.
use Rattle.std.specs.Prelude.{◌≡◌, ◌≢◌, ℕ, ◌<◌, List, ◌⊎◌}
use Rattle.std.specs.List.{Contains}
use Rattle.vsi_lattice.specs.Order.{Lattice, IsClass, Below}

-- The class b is above a, and there is no other class between them.
pub record Covers (L : Lattice) (a b : ℕ) : Type 0 where
  pub apart : a ≢ b
  pub below : Below L a b
  pub nothing : (c : ℕ) → IsClass L c → Below L a c → Below L c b → (c ≡ a) ⊎ (c ≡ b)

-- The class c is above a and below b, and is neither.
pub record StandsBetween (L : Lattice) (a b c : ℕ) : Type 0 where
  pub above : Below L a c
  pub below : Below L c b
  pub from_low : c ≢ a
  pub from_high : c ≢ b

-- Both are classes, and the second covers the first.
pub record IsCoveringPair (L : Lattice) (a b : ℕ) : Type 0 where
  pub low : IsClass L a
  pub high : IsClass L b
  pub covers : Covers L a b

-- A covering pair comes before this place, in the order of the lower class and then of the higher one.
pub record IsRowSoFar (L : Lattice) (low high a b : ℕ) : Type 0 where
  pub pair : IsCoveringPair L a b
  pub before : (a < low) ⊎ ((a ≡ low) × (b < high))

-- The list has the pairs with the property, and no others.
pub record HasJust (P : ℕ → ℕ → Type 0) (pairs : List (ℕ × ℕ)) : Type 0 where
  pub each : (a b : ℕ) → P a b → Contains pairs (a, b)
  pub only : (a b : ℕ) → Contains pairs (a, b) → P a b
