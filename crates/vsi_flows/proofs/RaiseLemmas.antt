-- The new classes of the least raises are of the lattice.
use Rattle.std.proofs.Common.{◌≡◌, ℕ, zero, suc, ◌+◌, ◌<◌, ◌≤◌, Bool, true, false, ◌==◌, if◌then◌else◌, List, [], ◌∷◌, map, length, get_or, Option, Some, None, refl, sym, ap, subst, arith}
use Rattle.std.specs.List.{All}
use Rattle.std.proofs.lemmas.List.{get_or-map, length-map}
use Rattle.std.proofs.lemmas.List.Elements.{All-nil, All-cons, All-append}
use Rattle.vsi_lattice.specs.Order.{Lattice, IsClass}
use Rattle.vsi_types.specs.declared.rules.Profile.{Profile}
use Rattle.vsi_types.specs.Security.{Program}
use Rattle.vsi_types.specs.Walks.{declared_class}
use Rattle.vsi_infer.specs.Flowing.{size_of}
use Rattle.vsi_flows.specs.declared.least.Raise.{Raise}
use Rattle.vsi_flows.specs.Raising.{Change, change, change_at, changes, change_of, AreLeastRaises}
use Rattle.vsi_flows.specs.Answers.{HasClassesIn}

-- The change is to the class that a policy gives to one of the first n declarations.
abbrev IsChangeTo : List ℕ → ℕ → Change → Type 0
IsChangeTo policy n ch = (ch.variable < n) × (ch.new ≡ get_or policy ch.variable 0)

-- A change, if any, is to the class of the policy.
change_to : (policy : List ℕ) (n v old : ℕ) → v < n → All (IsChangeTo policy n) (change v old (get_or policy v 0))
change_to policy n v old lt = by (old == get_or policy v 0)
  where
    by : (b : Bool) → All (IsChangeTo policy n)
        (if b then [] else record { variable = v; old = old; new = get_or policy v 0 } ∷ [])
    by true = All-nil (IsChangeTo policy n)
    by false = All-cons (IsChangeTo policy n) _ [] (lt, refl) (All-nil (IsChangeTo policy n))

-- So is the change at a declaration.
change_at_to : (policy : List ℕ) (n v : ℕ) (d : Option ℕ) → v < n →
    All (IsChangeTo policy n) (change_at v d (get_or policy v 0))
change_at_to policy n v None lt = All-nil (IsChangeTo policy n)
change_at_to policy n v (Some old) lt = change_to policy n v old lt

-- All changes are.
changes_to : (L : Lattice) (p : Program) (policy : List ℕ) (n m : ℕ) → m ≤ n →
    All (IsChangeTo policy n) (changes L p policy m)
changes_to L p policy n zero le = All-nil (IsChangeTo policy n)
changes_to L p policy n (suc m) le =
    All-append (IsChangeTo policy n) (changes L p policy m) (change_at m (declared_class L p m) (get_or policy m 0))
    (changes_to L p policy n m (omega (arith, le)))
    (change_at_to policy n m (declared_class L p m) (omega (arith, le)))

-- The new classes of the least raises are of the lattice.
pub classes_in : (L : Lattice) (P : Profile) (p : Program) (raises : List Raise) → AreLeastRaises L P p raises →
    HasClassesIn L raises
classes_in L P p raises least = λ k d lt.
    let policy = least.policy in
    let all : All (IsChangeTo policy (size_of p)) (map change_of raises) =
    subst (All (IsChangeTo policy (size_of p))) (sym least.listed) (changes_to L p policy (size_of p) (size_of p) (omega arith)) in
    let one : IsChangeTo policy (size_of p) (change_of (get_or raises k d)) =
    subst (IsChangeTo policy (size_of p)) (get_or-map change_of raises k d (change_of d) lt)
    (all k (change_of d) (omega (arith, lt, length-map raises change_of))) in
    subst (IsClass L) (sym one.1)
    (least.least.above.classes (get_or raises k d).variable 0 (omega (arith, one.0, least.least.above.len)))
