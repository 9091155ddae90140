-- Tables as an order.
use Rattle.std.proofs.Common.{◌≡◌, ℕ, ◌+◌, ◌*◌, ◌/◌, ◌%◌, ◌<◌, ◌≤◌, ◌==◌, nat_lt, Bool, true, false, ◌&&◌, ◌||◌, List, length, get_or, sym, ap, ◌∙◌, arith, inl, inr, lt-ltb, le-ltb, subst}
use Rattle.vsi_lattice.specs.Rows.{AddsPair}
use Rattle.vsi_lattice.specs.Order.{HasJoin}
use Rattle.vsi_lattice.specs.Pairs.{Says, IsCycle, IsFirstPair}
use Rattle.std.proofs.lemmas.Bool.{cases_lt}
use Rattle.std.proofs.lemmas.Bool.Decides.{nat_tests}
use Rattle.std.proofs.lemmas.List.{get_or_past}
use Rattle.vsi_lattice.specs.Tables.{table_has}

-- The row of a cell.
row_of : (a b : ℕ) → b < 64 → (a * 64 + b) / 64 ≡ a
row_of a b h = omega arith

-- The column of a cell.
column_of : (a b : ℕ) → b < 64 → (a * 64 + b) % 64 ≡ b
column_of a b h = omega arith

-- A table is false past the last column.
pub has_past_column : (table : List Bool) (a b : ℕ) → 64 ≤ b → table_has table a b ≡ false
unfolding table_has
has_past_column table a b h = ap (λ t. t && get_or table (a * 64 + b) false) (le-ltb b 64 h)

-- The entry in a column.
has_column : (table : List Bool) (a b : ℕ) → b < 64 → table_has table a b ≡ get_or table (a * 64 + b) false
unfolding table_has
has_column table a b h = ap (λ t. t && get_or table (a * 64 + b) false) (lt-ltb b 64 h)

-- A table is false past the last row.
pub has_past_row : (table : List Bool) (a b : ℕ) → length table ≡ 4096 → 64 ≤ a → table_has table a b ≡ false
has_past_row table a b len h = elim (cases_lt b 64) [
  | inl lt ↦ has_column table a b lt ∙ get_or_past table (a * 64 + b) false (omega arith)
  | inr le ↦ has_past_column table a b le
]

-- A table that was written cell by cell.
pub written : (f : ℕ → ℕ → Bool) (table : List Bool) → length table ≡ 4096 →
    ((k : ℕ) → k < 4096 → get_or table k false ≡ f (k / 64) (k % 64)) → ((a b : ℕ) → 64 ≤ a → f a b ≡ false) →
    ((a b : ℕ) → 64 ≤ b → f a b ≡ false) → (a b : ℕ) → table_has table a b ≡ f a b
written f table len each rows columns a b = elim (cases_lt b 64) [
  | inr le ↦ has_past_column table a b le ∙ sym (columns a b le)
  | inl lt ↦ elim (cases_lt a 64) [
    | inr le ↦ has_past_row table a b len le ∙ sym (rows a b le)
    | inl less ↦ has_column table a b lt ∙ (each (a * 64 + b) (omega arith)
        ∙ (ap (λ x. f x ((a * 64 + b) % 64)) (row_of a b lt)
        ∙ ap (f a) (column_of a b lt)))
  ]
]

-- The order in which a class is below itself alone is false past the last column.
pub own_outside : (count a b : ℕ) → count ≤ 64 → 64 ≤ b → (nat_lt a count && (a == b)) ≡ false
own_outside count a b small h = grind (arith, nat_tests)

-- The order in which a class is below itself alone is false past the last row.
pub own_past : (count a b : ℕ) → count ≤ 64 → 64 ≤ a → (nat_lt a count && (a == b)) ≡ false
own_past count a b small h = ap (λ t. t && (a == b)) (le-ltb a count (omega arith))

-- Adding a pair keeps an order false past the last column.
pub pair_outside : (x y z : Bool) → x ≡ false → z ≡ false → (x || (y && z)) ≡ false
pair_outside x true z e f = ap (λ t. t || z) e ∙ f
pair_outside x false z e f = ap (λ t. t || false) e

-- Adding a pair keeps an order false past the last row.
pub pair_past : (x y z : Bool) → x ≡ false → y ≡ false → (x || (y && z)) ≡ false
pair_past x y z e f = ap (λ t. t || (y && z)) e ∙ ap (λ t. t && z) f

-- One more pair is added to the table that the code reads.
pub adds_to : (old now new : List Bool) (low high : ℕ) → now ≡ old →
    AddsPair (table_has now) (table_has new) low high →
    AddsPair (table_has old) (table_has new) low high
adds_to old now new low high e h = subst (λ (t : List Bool). AddsPair (table_has t) (table_has new) low high) e h

-- The table has no cycle.
abbrev pub NoCycle : ℕ → List Bool → Type 0
NoCycle count table = (x y : ℕ) → x < count → y < count → ¬ (IsCycle count (Says (table_has table)) x y)

-- The table has all joins.
abbrev pub HasJoins : ℕ → List Bool → Type 0
HasJoins count table = (x y : ℕ) → x < count → y < count → HasJoin count (Says (table_has table)) x y

-- Two classes have no join in a table.
abbrev pub Unjoined : ℕ → List Bool → ℕ → ℕ → Type 0
Unjoined count table x y = ¬ (HasJoin count (Says (table_has table)) x y)

-- A table equal to one without a cycle has none.
pub no_cycle_of : {count : ℕ} {now own : List Bool} → now ≡ own → NoCycle count now → NoCycle count own
no_cycle_of {count} e h = subst (λ (t : List Bool). NoCycle count t) e h

-- A table equal to one with all joins has all joins.
pub joins_of : {count : ℕ} {now own : List Bool} → now ≡ own → HasJoins count now → HasJoins count own
joins_of {count} e h = subst (λ (t : List Bool). HasJoins count t) e h

-- Two equal tables have the same first cycle.
pub cycle_of : {count a b : ℕ} {now own : List Bool} → now ≡ own →
    IsFirstPair count (IsCycle count (Says (table_has now))) a b →
    IsFirstPair count (IsCycle count (Says (table_has own))) a b
cycle_of {count} {a} {b} e h =
    subst (λ (t : List Bool). IsFirstPair count (IsCycle count (Says (table_has t))) a b) e h

-- Two equal tables have the same first classes without a join.
pub unjoined_of : {count a b : ℕ} {now own : List Bool} → now ≡ own → IsFirstPair count (Unjoined count now) a b →
    IsFirstPair count (Unjoined count own) a b
unjoined_of {count} {a} {b} e h = subst (λ (t : List Bool). IsFirstPair count (Unjoined count t) a b) e h

-- Two classes with a join are not without one, as the code reads them.
pub unjoined_at : {count : ℕ} {now own : List Bool} {a b a' b' : ℕ} → now ≡ own → a' ≡ a → b' ≡ b →
    Unjoined count now a' b' →
    Unjoined count own a b
unjoined_at {count} {now} {own} {a} {b} {a'} {b'} e f g h =
    subst (λ (t : List Bool). Unjoined count t a b) e (subst (λ x. Unjoined count now x b) f
    (subst (λ y. Unjoined count now a' y) g h))
