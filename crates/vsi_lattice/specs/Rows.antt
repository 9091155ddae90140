-- Rows of bits: row a has bit b if class a is below class b.
use Rattle.std.specs.Prelude.{◌≡◌, ℕ, ◌<◌, ◌==◌, Bool, true, ◌&&◌, ◌||◌, List, Contains, slice_index, ◌≤◌, length, bit_and, bit_or, ◌≢◌, if◌then◌else◌}
use Rattle.std.specs.Int.{bit_at}
use Rattle.vsi_lattice.specs.Order.{Lattice}
use Rattle.vsi_lattice.specs.Pairs.{Leq}

-- The row of a has the bit b.
unfoldable pub row_has : List ℕ → ℕ → ℕ → Bool
row_has rows a b = bit_at (slice_index rows a) b == 1

-- The lattice whose order is in the rows.
abbrev pub row_lattice : List ℕ → ℕ → ℕ → Lattice
row_lattice above bottom top = record { count = length above; leq = row_has above; bottom = bottom; top = top }

-- A row, including all of another one if it has the bit.
unfoldable pub widened : ℕ → ℕ → ℕ → ℕ
widened low reached row = if bit_at row low == 1 then bit_or row reached else row

-- The row of class c is the intersection of the rows of a and b.
abbrev pub IsCommon : List ℕ → ℕ → ℕ → ℕ → Type 0
IsCommon rows a b c = slice_index rows c ≡ bit_and (slice_index rows a) (slice_index rows b)

-- The row of some class is the intersection of the rows of a and b.
abbrev pub HasCommon : List ℕ → ℕ → ℕ → Type 0
HasCommon rows a b = (c : ℕ) × (c < length rows) × IsCommon rows a b c

-- Every two classes have such a class.
abbrev pub AllHaveCommon : List ℕ → Type 0
AllHaveCommon rows = (a b : ℕ) → a < length rows → b < length rows → HasCommon rows a b

-- No class has the intersection of the rows of a and b as its row.
abbrev pub LacksCommon : List ℕ → ℕ → ℕ → Type 0
LacksCommon rows a b = (c : ℕ) → c < length rows → ¬ (IsCommon rows a b c)

-- Another bit that both words have.
abbrev pub BothHaveOther : ℕ → ℕ → ℕ → ℕ → Type 0
BothHaveOther x y own b = (b ≢ own) × (bit_at x b ≡ 1) × (bit_at y b ≡ 1)

-- Two classes, each in the row of the other.
abbrev pub AreTied : List ℕ → List ℕ → ℕ → ℕ → Type 0
AreTied above below a b = (a ≢ b) × (row_has above a b ≡ true) × (row_has below a b ≡ true)

-- The test is reflexive and transitive, and false outside the classes.
pub record IsPreorder (count : ℕ) (has : ℕ → ℕ → Bool) : Type 0 where
  pub within : (a b : ℕ) → has a b ≡ true → (a < count) × (b < count)
  pub reflexive : (a : ℕ) → a < count → has a a ≡ true
  pub transitive : (a b c : ℕ) → has a b ≡ true → has b c ≡ true → has a c ≡ true

-- The test is the order that the pairs declare, below the count.
pub record IsClosureOf (count : ℕ) (pairs : List (ℕ × ℕ)) (has : ℕ → ℕ → Bool) : Type 0 where
  pub within : (a b : ℕ) → has a b ≡ true → (a < count) × (b < count)
  pub sound : (a b : ℕ) → has a b ≡ true → Leq pairs a b
  pub reflexive : (a : ℕ) → a < count → has a a ≡ true
  pub transitive : (a b c : ℕ) → has a b ≡ true → has b c ≡ true → has a c ≡ true
  pub holds : (a b : ℕ) → Contains pairs (a, b) → has a b ≡ true

-- The second test is the reverse of the first.
abbrev pub IsTransposed : (ℕ → ℕ → Bool) → (ℕ → ℕ → Bool) → Type 0
IsTransposed above below = (a b : ℕ) → below b a ≡ above a b

-- Every class that is below `low` is below all classes that `high` is below too.
abbrev pub AddsPair : (ℕ → ℕ → Bool) → (ℕ → ℕ → Bool) → ℕ → ℕ → Type 0
AddsPair old new low high = (a b : ℕ) → new a b ≡ (old a b || (old a low && old high b))

-- The rows are a lattice, upwards and downwards.
pub record IsMaskOrder (above below : List ℕ) : Type 0 where
  pub some : 0 < length above
  pub small : length above ≤ 64
  pub len : length below ≡ length above
  pub preorder : IsPreorder (length above) (row_has above)
  pub dual : IsTransposed (row_has above) (row_has below)
  pub joins : (a b : ℕ) → a < length above → b < length above → ¬ (LacksCommon above a b)
  pub meets : (a b : ℕ) → a < length above → b < length above → ¬ (LacksCommon below a b)
