-- The refused pairs of a program, and walks of pairs.
use Rattle.std.specs.Prelude.{◌≡◌, ℕ, List, [], ◌∷◌, if◌then◌else◌, map}
use Rattle.std.specs.List.{All}
use Rattle.vsi_lattice.specs.Order.{Lattice, Below}
use Rattle.vsi_types.specs.declared.rules.Profile.{Profile}
use Rattle.vsi_types.specs.declared.rules.Step.{Step}
use Rattle.vsi_types.specs.Security.{Program}
use Rattle.vsi_flows.specs.declared.table.Pair.{Pair}
use Rattle.vsi_flows.specs.Table.{IsJoined, IsTold, HasPair, AreSorted}
use Rattle.vsi_flows.specs.Text.{IsWalkOf}
use Rattle.vsi_flows.specs.declared.walked.WalkedPair.{WalkedPair}

-- A walk joins the two variables, and the class of the first isn't at or below that of the second.
pub record IsRefused (L : Lattice) (P : Profile) (p : Program) (a b : ℕ) : Type 0 where
  pub joined : IsJoined L P p a b
  pub down : Below L joined.low joined.high → ⊥

-- The pairs that aren't allowed, in their order.
abbrev pub refused_of : List Pair → List Pair
refused_of [] = []
refused_of (r ∷ rest) = if r.allowed then refused_of rest else r ∷ refused_of rest

-- Each pair has correct facts and is refused, every two variables that are refused are a pair, and the pairs are
-- sorted.
pub record AreRefused (L : Lattice) (P : Profile) (p : Program) (pairs : List Pair) : Type 0 where
  pub told : All (IsTold L P p) pairs
  pub refused : All (λ r. IsRefused L P p r.source r.target) pairs
  pub sorted : AreSorted pairs
  pub whole : (a b : ℕ) → IsRefused L P p a b → HasPair pairs a b

-- Each pair has a walk of its fewest steps.
pub record AreWalked (ss : List Step) (pairs : List Pair) (walked : List WalkedPair) : Type 0 where
  pub kept : map (λ w. w.pair) walked ≡ pairs
  pub walks : All (λ w. IsWalkOf ss w.pair w.steps.items) walked
