-- The declared variables from which a chain of flow steps leads to a variable, and those to which one leads from it.
use Rattle.std.specs.Prelude.{◌≡◌, ℕ, ◌<◌, Some, List, [], ◌∷◌}
use Rattle.std.specs.List.{All, Contains}
use Rattle.vsi_lattice.specs.Order.{Lattice}
use Rattle.vsi_types.specs.declared.rules.Profile.{Profile}
use Rattle.vsi_types.specs.declared.rules.Step.{Step}
use Rattle.vsi_types.specs.Security.{Program, steps_of}
use Rattle.vsi_types.specs.Walks.{declared_class}
use Rattle.vsi_infer.specs.Paths.{IsPath}

-- The variable isn't v, and it has a declared class; the ending of loops counts as declared at the bottom.
abbrev pub IsOther : Lattice → Program → ℕ → ℕ → Type 0
IsOther L p v a = (a ≡ v → ⊥) × ((class : ℕ) × (declared_class L p a ≡ Some class))

-- A chain of flow steps leads from a to b.
abbrev pub LeadsTo : Profile → Program → ℕ → ℕ → Type 0
LeadsTo P p a b = (walk : List Step) × IsPath (steps_of P p) a walk b

-- Another declared variable, from which a chain of flow steps leads to v.
abbrev pub IsSource : Lattice → Profile → Program → ℕ → ℕ → Type 0
IsSource L P p v a = IsOther L p v a × LeadsTo P p a v

-- Another declared variable, to which a chain of flow steps leads from v.
abbrev pub IsTarget : Lattice → Profile → Program → ℕ → ℕ → Type 0
IsTarget L P p v b = IsOther L p v b × LeadsTo P p v b

-- Each number is below all later ones.
abbrev pub AreRising : List ℕ → Type 0
AreRising [] = Unit {0}
AreRising (v ∷ rest) = All (λ w. v < w) rest × AreRising rest

-- The list has exactly the numbers with the property, in their order and each once.
pub record AreExactly (R : ℕ → Type 0) (items : List ℕ) : Type 0 where
  pub sound : All R items
  pub whole : (v : ℕ) → R v → Contains items v
  pub rising : AreRising items
