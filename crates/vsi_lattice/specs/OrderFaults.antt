-- The faults of an order, and the pairs reported for them.
use Rattle.std.specs.Prelude.{ℕ, ◌<◌, List}
use Rattle.vsi_lattice.specs.Order.{HasJoin, HasMeet}
use Rattle.vsi_lattice.specs.Pairs.{Leq, IsCycle, IsFirstPair}
use Rattle.vsi_lattice.specs.declared.order.OrderError.{OrderError}
use Rattle.vsi_lattice.specs.declared.order.OrderError.TheVariants.{Memory, Cycle, NoJoin, NoMeet}

module _ (count : ℕ) (pairs : List (ℕ × ℕ)) where
  -- No two classes are below each other.
  abbrev pub IsAcyclic : Type 0
  IsAcyclic = (a b : ℕ) → a < count → b < count → ¬ (IsCycle count (Leq pairs) a b)

  -- Every two classes have a join.
  abbrev pub AllJoin : Type 0
  AllJoin = (a b : ℕ) → a < count → b < count → HasJoin count (Leq pairs) a b

  -- The error reports a fault, and no fault of an earlier kind exists.
  abbrev pub NamesFault : OrderError → Type 0
  NamesFault Memory = Unit {0}
  NamesFault (Cycle a b) = IsFirstPair count (IsCycle count (Leq pairs)) a b
  NamesFault (NoJoin a b) = IsAcyclic × IsFirstPair count (λ x y. ¬ (HasJoin count (Leq pairs) x y)) a b
  NamesFault (NoMeet a b) = IsAcyclic × AllJoin × IsFirstPair count (λ x y. ¬ (HasMeet count (Leq pairs) x y)) a b
