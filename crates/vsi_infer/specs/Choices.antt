-- Choices of classes, walks of flows, and the least choice. Variables and classes are numbers.
use Rattle.std.specs.Prelude.{◌≡◌, ℕ, suc, zero, ◌<◌, Bool, true, false, List, length, slice_index, slice_get, slice_set, Option, Some, None, Contains, ◌⊎◌, ◌≤◌}
use Rattle.vsi_lattice.specs.Order.{IsJoin}
use Rattle.vsi_lattice.specs.Pairs.{Says}

-- A program is given by its variables, the flows between them, and the declared classes.
module _ (flows : ℕ → ℕ → Bool) where
  -- A walk of n flows leads from a to b.
  abbrev pub Walk : ℕ → ℕ → ℕ → Type 0
  Walk zero a b = a ≡ b
  Walk (suc n) a b = (c : ℕ) × Walk n a c × (flows c b ≡ true)

module _ (size : ℕ) (leq : ℕ → ℕ → Bool) (flows : ℕ → ℕ → Bool) (declared : List (Option ℕ)) where
  -- A choice has one class of the lattice for each variable and keeps the declared ones.
  pub record KeepsDeclared (s : List ℕ) : Type 0 where
    pub len : length s ≡ length declared
    pub within : (v : ℕ) → v < length declared → slice_index s v < size
    pub keeps : (v c : ℕ) → slice_get declared v ≡ Some (Some c) → slice_index s v ≡ c

  -- Also, every flow is in order.
  pub record IsOrderedChoice (s : List ℕ) : Type 0 where
    pub choice : KeepsDeclared s
    pub in_order : (a b : ℕ) → flows a b ≡ true → leq (slice_index s a) (slice_index s b) ≡ true

  -- A choice is typable and below every typable choice at each variable.
  pub record IsLeastOrderedChoice (s : List ℕ) : Type 0 where
    pub typable : IsOrderedChoice s
    pub least : (t : List ℕ) → IsOrderedChoice t → (v : ℕ) → v < length declared
        → leq (slice_index s v) (slice_index t v) ≡ true

  -- A walk of n flows leads from one declared variable to another whose class is not above the first one's.
  pub record IsBadWalk (n a b : ℕ) : Type 0 where
    pub from_class : ℕ
    pub to_class : ℕ
    pub from_declared : slice_get declared a ≡ Some (Some from_class)
    pub to_declared : slice_get declared b ≡ Some (Some to_class)
    pub walk : Walk flows n a b
    pub unordered : leq from_class to_class ≡ false

  -- Some walk is bad.
  abbrev pub HasPlacedBadWalk : Type 0
  HasPlacedBadWalk = ¬ ((n a b : ℕ) → ¬ (IsBadWalk n a b))

  -- Every declared class that flows to v is below x.
  abbrev pub ReachedBelow : ℕ → ℕ → Type 0
  ReachedBelow v x = (n a c : ℕ) → slice_get declared a ≡ Some (Some c) → Walk flows n a v → leq c x ≡ true

  -- No class is higher than the classes that flow there require.
  abbrev pub IsJustified : List ℕ → Type 0
  IsJustified s = (v x : ℕ) → v < length declared → x < size → ReachedBelow v x → leq (slice_index s v) x ≡ true

  -- The flows into omitted variables are in order.
  abbrev pub IsRaised : List ℕ → Type 0
  IsRaised s = (a b : ℕ) → slice_get declared b ≡ Some None → flows a b ≡ true
      → leq (slice_index s a) (slice_index s b) ≡ true

  -- Each flow into an omitted variable is in order, or still waits to be looked at.
  pub record Waits (s waiting : List ℕ) (from next : ℕ) : Type 0 where
    pub each : (a b : ℕ) → slice_get declared b ≡ Some None → flows a b ≡ true
        → (Contains waiting a ⊎ (leq (slice_index s a) (slice_index s b) ≡ true)) ⊎ ((a ≡ from) × (next ≤ b))
    pub within : (v : ℕ) → Contains waiting v → v < length declared

  -- The declared classes are of the lattice, and the flows are between variables.
  pub record IsProgram : Type 0 where
    pub declared_within : (v c : ℕ) → slice_get declared v ≡ Some (Some c) → c < size
    pub flows_within : (a b : ℕ) → flows a b ≡ true → (a < length declared) × (b < length declared)

-- A flow between the two variables, if there is one, is in order.
abbrev pub IsInOrder : (ℕ → ℕ → Bool) → (ℕ → ℕ → Bool) → List ℕ → ℕ → ℕ → Type 0
IsInOrder leq flows s a b = flows a b ≡ true → leq (slice_index s a) (slice_index s b) ≡ true

-- A flow between variables that is out of order.
abbrev pub IsOutOfOrder : (ℕ → ℕ → Bool) → (ℕ → ℕ → Bool) → List ℕ → ℕ → ℕ → Type 0
IsOutOfOrder leq flows s a b = (a < length s) × (b < length s) × (flows a b ≡ true)
    × (leq (slice_index s a) (slice_index s b) ≡ false)

-- The class at one place became the join of two classes.
pub record IsRaiseOf (size : ℕ) (leq : ℕ → ℕ → Bool) (old new : List ℕ) (from to : ℕ) : Type 0 where
  pub class : ℕ
  pub is_join : IsJoin size (Says leq) (slice_index old from) (slice_index old to) class
  pub is_set : new ≡ slice_set old to class
  pub unordered : leq (slice_index old from) (slice_index old to) ≡ false
