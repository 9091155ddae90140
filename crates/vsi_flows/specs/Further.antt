-- The refused flows of a source text after the one that is reported already.
use Rattle.std.specs.Prelude.{◌≡◌, ℕ, ◌==◌, ◌&&◌, Bool, true, false, if◌then◌else◌, nat_le, min, List, [], map, length, take}
use Rattle.std.specs.List.{All, filter}
use Rattle.vsi_lattice.specs.Order.{Lattice}
use Rattle.vsi_lattice.specs.LatticeView.{order}
use Rattle.vsi_types.specs.declared.rules.Profile.{Profile}
use Rattle.vsi_types.specs.declared.rules.Step.{Step}
use Rattle.vsi_types.specs.Security.{Program, program, steps_of}
use Rattle.vsi_infer.specs.Flowing.{size_of}
use Rattle.vsi_compiler.specs.SourceView.{Source}
use Rattle.vsi_flows.specs.declared.table.Pair.{Pair}
use Rattle.vsi_flows.specs.Table.{IsTable}
use Rattle.vsi_flows.specs.Text.{IsWalkOf}
use Rattle.vsi_flows.specs.Refused.{IsRefused, AreWalked}
use Rattle.vsi_flows.specs.declared.walked.WalkedPair.{WalkedPair}

-- The pair leads from a to b.
abbrev pub has_ends : ℕ → ℕ → Pair → Bool
has_ends a b r = (r.source == a) && (r.target == b)

-- The pair is refused, doesn't lead from a to b, and has a walk of at most 32 steps.
abbrev pub is_further : ℕ → ℕ → Pair → Bool
is_further a b r = if r.allowed then false else if has_ends a b r then false else nat_le r.steps 32

-- These of the pairs, in their order.
abbrev pub further_of : ℕ → ℕ → List Pair → List Pair
further_of a b pairs = filter (is_further a b) pairs

-- The most flows that are listed for a text of n bytes.
abbrev pub most_flows : ℕ → ℕ
most_flows n = if nat_le n 32768 then 19 else 7

-- The first of the pairs, at most as many as are listed for a text of n bytes.
abbrev pub first_of : ℕ → List Pair → List Pair
first_of n pairs = take (min (length pairs) (most_flows n)) pairs

-- The program has at most 128 declarations, and its text of n bytes at most 131,072.
abbrev pub is_small : Program → ℕ → Bool
is_small p n = if nat_le (size_of p) 128 then nat_le n 131072 else false

-- The pairs are the table of the source text's program under the profile.
abbrev pub IsTableOf : Source → Profile → List Pair → Type 0
IsTableOf s P pairs = IsTable (order s.lattice) P (program s.resolved) pairs

-- The steps lead from the pair's source to its target, and the class of the source isn't at or below that of the target.
pub record IsRefusedFlow (L : Lattice) (P : Profile) (p : Program) (f : WalkedPair) : Type 0 where
  pub refused : IsRefused L P p f.pair.source f.pair.target
  pub walk : IsWalkOf (steps_of P p) f.pair f.steps.items

-- The flow doesn't lead from a to b.
abbrev pub HasOtherEnds : ℕ → ℕ → WalkedPair → Type 0
HasOtherEnds a b f = f.pair.source ≡ a → f.pair.target ≡ b → ⊥

-- The pairs are those of the table that are refused, don't lead from a to b, and have a walk of at most 32 steps.
pub record AreFurther (s : Source) (P : Profile) (a b : ℕ) (further : List Pair) : Type 0 where
  pub pairs : List Pair
  pub table : IsTableOf s P pairs
  pub same : further ≡ further_of a b pairs

-- The flows are those of the first of these pairs, at most as many as are listed for the text.
pub record AreFirst (s : Source) (P : Profile) (a b : ℕ) (flows : List WalkedPair) : Type 0 where
  pub pairs : List Pair
  pub table : IsTableOf s P pairs
  pub walks : AreWalked (steps_of P (program s.resolved)) (first_of (length s.text) (further_of a b pairs)) flows

-- The flows are the first ones if the program and its text are small, and there are none if they are large.
pub record AreListed (s : Source) (P : Profile) (a b : ℕ) (flows : List WalkedPair) : Type 0 where
  pub small : is_small (program s.resolved) (length s.text) ≡ true → AreFirst s P a b flows
  pub large : is_small (program s.resolved) (length s.text) ≡ false → flows ≡ []
