-- Bad walks, which no choice of classes can put in order.
use Rattle.std.specs.Prelude.{◌≡◌, ℕ, ◌-◌, ◌==◌, nat_lt, if◌then◌else◌, Option, Some, None, List, [], ◌∷◌, length, slice_index, slice_index_or}
use Rattle.std.specs.List.{All, Contains}
use Rattle.vsi_lattice.specs.Order.{Lattice, IsLattice, Below}
use Rattle.vsi_types.specs.declared.rules.Profile.{Profile}
use Rattle.vsi_types.specs.declared.rules.Step.{Step}
use Rattle.vsi_types.specs.Steps.{sink}
use Rattle.vsi_types.specs.Security.{Program, IsTypable, IsWellFormed, steps_of}

-- The declared class of a variable, if it has one; the sink counts as declared at the bottom.
abbrev pub declared_class : Lattice → Program → ℕ → Option ℕ
declared_class L p v =
    if v == sink then Some L.bottom
    else if nat_lt v (length p.globals) then Some (slice_index p.globals v)
    else slice_index_or p.declared (v - length p.globals) None

-- The target of each step is the source of the next one.
abbrev pub IsChain : Step → List Step → Type 0
IsChain s [] = Unit {0}
IsChain s (t ∷ rest) = (s.target ≡ t.source) × IsChain t rest

-- The target of the last step.
abbrev pub last_target : Step → List Step → ℕ
last_target s [] = s.target
last_target s (t ∷ rest) = last_target t rest

-- Steps of the program in a chain, from a declared class that isn't at or below the declared class at their end.
pub record IsBadFrom (L : Lattice) (P : Profile) (p : Program) (s : Step) (rest : List Step) : Type 0 where
  pub steps : All (Contains (steps_of P p)) (s ∷ rest)
  pub chain : IsChain s rest
  pub low : ℕ
  pub high : ℕ
  pub source : declared_class L p s.source ≡ Some low
  pub target : declared_class L p (last_target s rest) ≡ Some high
  pub down : Below L low high → ⊥

-- A bad walk has a step.
abbrev pub IsBad : Lattice → Profile → Program → List Step → Type 0
IsBad L P p [] = ⊥
IsBad L P p (s ∷ rest) = IsBadFrom L P p s rest

-- If a bad walk exists, no choice is typable.
abbrev pub BadWalksRefute : Type 0
BadWalksRefute =
    (L : Lattice) (P : Profile) (p : Program) (walk : List Step) (s : List ℕ) → IsLattice L → IsWellFormed L p →
    IsBad L P p walk → IsTypable L P p s → ⊥
