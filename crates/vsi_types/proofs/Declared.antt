-- A derivation depends only on the classes of the command's own declarations.
use Rattle.std.proofs.Common.{◌≡◌, ℕ, ◌+◌, ◌<◌, ◌≤◌, ◌⊎◌, inl, inr, [], ◌∷◌, ◌++◌, refl, subst, arith}
use Rattle.std.proofs.lemmas.Bool.{cases_lt}
use Rattle.vsi_lattice.specs.Order.{Lattice, IsLattice, IsClass}
use Rattle.vsi_scope.specs.Language.{Command, letvars}
use Rattle.vsi_types.specs.declared.rules.Profile.{Profile}
use Rattle.vsi_types.specs.Typing.{Locations, HasData, HasCmd, EMPTY, ASSIGN, COMPOSE, IF, WHILE, LETVAR, SUBTYPE_CMD}

-- Two choices give the same classes to the command's declarations, which have n declarations before them.
abbrev SameClasses : (ℕ → ℕ) → (ℕ → ℕ) → ℕ → Command → Type 0
SameClasses classes other n c = (v : ℕ) → n ≤ v → v < n + letvars c → classes v ≡ other v

-- A derivation also holds under another choice that gives the command's declarations the same classes.
pub retyped : (L : Lattice) (P : Profile) (classes other : ℕ → ℕ) (q : Locations) (n : ℕ) (c : Command) (t : ℕ)
    → SameClasses classes other n c → HasCmd L P classes q n c t → HasCmd L P other q n c t
retyped L P classes other q n c t same (EMPTY w) = EMPTY w
retyped L P classes other q n c t same (ASSIGN v d) = ASSIGN v d
retyped L P classes other q n c t same (COMPOSE {a = a} {b = b} d d') =
    COMPOSE (retyped L P classes other q n a t (λ v low high. same v low (omega arith)) d)
    (retyped L P classes other q (n + letvars a) b t (λ v low high. same v (omega arith) (omega arith)) d')
retyped L P classes other q n c t same (IF {a = a} {b = b} dg d d') =
    IF dg (retyped L P classes other q n a t (λ v low high. same v low (omega arith)) d)
    (retyped L P classes other q (n + letvars a) b t (λ v low high. same v (omega arith) (omega arith)) d')
retyped L P classes other q n c t same (WHILE {c = c'} is dg d) =
    WHILE is dg (retyped L P classes other q n c' t same d)
retyped L P classes other q n c t same (LETVAR {e = x} {c = c'} dg d) =
    let here : classes n ≡ other n = same n (omega arith) (omega arith) in
    LETVAR (subst (HasData L q x) here dg)
    (subst (λ k. HasCmd L P other (q ++ k ∷ []) (n + 1) c' t) here
    (retyped L P classes other (q ++ classes n ∷ []) (n + 1) c' t
    (λ v low high. same v (omega arith) (omega arith)) d))
retyped L P classes other q n c t same (SUBTYPE_CMD {t' = t'} le w d) =
    SUBTYPE_CMD le w (retyped L P classes other q n c t' same d)

module _ (L : Lattice) (laws : IsLattice L) (classes : ℕ → ℕ) (n k : ℕ) where
  -- The class of a number if it is among the k from n on, else the bottom class.
  abbrev among : (v : ℕ) → (v < n) ⊎ (n ≤ v) → (v < n + k) ⊎ (n + k ≤ v) → ℕ
  among v (inl below) side = L.bottom
  among v (inr from) (inl within) = classes v
  among v (inr from) (inr above) = L.bottom

  -- The classes of the k numbers from n on, and the bottom class elsewhere.
  abbrev pub own : ℕ → ℕ
  own v = among v (cases_lt v n) (cases_lt v (n + k))

  -- If the numbers from n on have classes, every number has one.
  among_within : ((v : ℕ) → n ≤ v → v < n + k → IsClass L (classes v)) → (v : ℕ) (x : (v < n) ⊎ (n ≤ v))
      (y : (v < n + k) ⊎ (n + k ≤ v)) → IsClass L (among v x y)
  among_within each v (inl below) y = laws.bottom_within
  among_within each v (inr from) (inl within) = each v from within
  among_within each v (inr from) (inr above) = laws.bottom_within

  -- The numbers from n on keep their classes.
  among_same : (v : ℕ) (x : (v < n) ⊎ (n ≤ v)) (y : (v < n + k) ⊎ (n + k ≤ v)) → n ≤ v → v < n + k
      → classes v ≡ among v x y
  among_same v (inl below) y low high = absurd (omega arith)
  among_same v (inr from) (inl within) low high = refl
  among_same v (inr from) (inr above) low high = absurd (omega arith)

  -- Each number has a class.
  pub own_within : ((v : ℕ) → n ≤ v → v < n + k → IsClass L (classes v)) → (v : ℕ) → IsClass L (own v)
  own_within each v = among_within each v (cases_lt v n) (cases_lt v (n + k))

  -- The command's declarations keep their classes.
  pub own_same : (v : ℕ) → n ≤ v → v < n + k → classes v ≡ own v
  own_same v low high = among_same v (cases_lt v n) (cases_lt v (n + k)) low high
