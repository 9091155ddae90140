-- The answers of the inference.
use Rattle.std.specs.Prelude.{ℕ, ◌≤◌, Option, Some, IfSome, List, [], ◌∷◌, ◌++◌, map, length}
use Rattle.std.specs.List.{All, AllZip}
use Rattle.vsi_lattice.specs.Order.{Lattice, IsClass, Below}
use Rattle.vsi_types.specs.declared.rules.Profile.{Profile}
use Rattle.vsi_types.specs.declared.rules.Step.{Step}
use Rattle.vsi_types.specs.Security.{Program, IsTypable}
use Rattle.vsi_types.specs.Walks.{IsBad}
use Rattle.vsi_infer.specs.declared.inference.InferError.{InferError}
use Rattle.vsi_infer.specs.declared.inference.InferError.TheVariants.{Memory, Refused}

-- The declared class of each variable, globals first, and the ending's at the end.
abbrev pub table : Lattice → Program → List (Option ℕ)
table L p = map Some p.globals ++ (p.declared ++ Some L.bottom ∷ [])

-- The declared classes are classes of the lattice.
abbrev pub AreClasses : Lattice → List (Option ℕ) → Type 0
AreClasses L ds = All (λ d. IfSome d (IsClass L)) ds

-- The choice is typable, and below every typable choice at each place.
abbrev pub IsLeast : Lattice → Profile → Program → List ℕ → Type 0
IsLeast L P p s = IsTypable L P p s × ((t : List ℕ) → IsTypable L P p t → AllZip (Below L) s t)

-- The walk is bad, and no bad walk has fewer steps.
abbrev pub IsShortest : Lattice → Profile → Program → List Step → Type 0
IsShortest L P p walk = IsBad L P p walk × ((other : List Step) → IsBad L P p other → length walk ≤ length other)

-- A refusal for any reason other than memory has a shortest bad walk.
abbrev pub Refuses : Lattice → Profile → Program → InferError → Type 0
Refuses L P p Memory = Unit {0}
Refuses L P p (Refused w) = IsShortest L P p w.steps.items
