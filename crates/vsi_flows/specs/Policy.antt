-- Policies: one class for each declaration of a program.
use Rattle.std.specs.Prelude.{◌≡◌, ℕ, ◌<◌, Option, Some, None, List, [], ◌∷◌, take, drop, length, slice_index}
use Rattle.std.specs.List.{All}
use Rattle.vsi_lattice.specs.Order.{Lattice, IsClass, Below}
use Rattle.vsi_types.specs.declared.rules.Profile.{Profile}
use Rattle.vsi_types.specs.Security.{Program}
use Rattle.vsi_types.specs.Walks.{declared_class}
use Rattle.vsi_infer.specs.Flowing.{size_of}
use Rattle.vsi_flows.specs.Table.{HasChoice}

-- The class that replaces a declared one; an omitted class stays omitted.
abbrev pub replaced : Option ℕ → ℕ → Option ℕ
replaced None c = None
replaced (Some d) c = Some c

-- The classes of a list replace the declared ones.
abbrev pub all_replaced : List (Option ℕ) → List ℕ → List (Option ℕ)
all_replaced [] cs = []
all_replaced (d ∷ ds) [] = d ∷ ds
all_replaced (d ∷ ds) (c ∷ cs) = replaced d c ∷ all_replaced ds cs

-- The program under a policy: the same names and the same body, and the policy's classes in place of the declared ones.
abbrev pub under : List ℕ → Program → Program
under policy p =
    record {
      globals = take (length p.globals) policy;
      declared = all_replaced p.declared (drop (length p.globals) policy);
      names = p.names;
      body = p.body;
    }

-- A policy has a class for each declaration, at or above the declared one.
pub record IsAtOrAbove (L : Lattice) (p : Program) (policy : List ℕ) : Type 0 where
  pub len : length policy ≡ size_of p
  pub classes : All (IsClass L) policy
  pub above : (v c : ℕ) → v < size_of p → declared_class L p v ≡ Some c → Below L c (slice_index policy v)

-- The first policy is at or below the second at each declaration that has a class.
abbrev pub IsAtOrBelow : Lattice → Program → List ℕ → List ℕ → Type 0
IsAtOrBelow L p policy other =
    (v c : ℕ) → v < size_of p → declared_class L p v ≡ Some c →
    Below L (slice_index policy v) (slice_index other v)

-- The program is accepted under the policy, which is at or above the declared one and at or below every such policy.
pub record IsLeastPolicy (L : Lattice) (P : Profile) (p : Program) (policy : List ℕ) : Type 0 where
  pub above : IsAtOrAbove L p policy
  pub accepted : HasChoice L P (under policy p)
  pub least : (other : List ℕ) → IsAtOrAbove L p other → HasChoice L P (under other p) →
      IsAtOrBelow L p policy other

-- The program is accepted under no policy at or above the declared one.
abbrev pub IsHopeless : Lattice → Profile → Program → Type 0
IsHopeless L P p = (policy : List ℕ) → IsAtOrAbove L p policy → HasChoice L P (under policy p) → ⊥
