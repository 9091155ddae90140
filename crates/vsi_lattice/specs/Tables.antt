-- Tables: the cell at a * 64 + b says whether class a is at or below class b.
use Rattle.std.specs.Prelude.{◌≡◌, ℕ, ◌+◌, ◌*◌, ◌≤◌, nat_lt, Bool, false, ◌&&◌, List, length, get_or}
use Rattle.vsi_lattice.specs.Order.{Lattice}
use Rattle.vsi_lattice.specs.Rows.{IsTransposed}

-- The entry of the table for two classes.
unfoldable pub table_has : List Bool → ℕ → ℕ → Bool
table_has table a b = nat_lt b 64 && get_or table (a * 64 + b) false

-- The lattice whose order is in the table.
abbrev pub table_lattice : ℕ → List Bool → ℕ → ℕ → Lattice
table_lattice count above bottom top = record { count = count; leq = table_has above; bottom = bottom; top = top }

-- Two tables that represent an order of the classes, upwards and downwards.
pub record AreTables (count : ℕ) (above below : List Bool) : Type 0 where
  pub small : count ≤ 64
  pub above_len : length above ≡ 4096
  pub below_len : length below ≡ 4096
  pub dual : IsTransposed (table_has above) (table_has below)
