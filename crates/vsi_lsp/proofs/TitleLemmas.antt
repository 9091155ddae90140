-- The old classes of the least raises are of the lattice.
use Rattle.std.proofs.Common.{◌≡◌, ℕ, zero, suc, Bool, true, false, ◌==◌, if◌then◌else◌, List, [], ◌∷◌, map, get_or, Option, Some, None, refl, sym, subst, arith}
use Rattle.std.specs.List.{All}
use Rattle.std.proofs.lemmas.List.{get_or-map, length-map}
use Rattle.std.proofs.lemmas.List.Elements.{All-nil, All-cons, All-append}
use Rattle.vsi_lattice.specs.Order as orders
use Rattle.vsi_lattice.specs.Order.{IsLattice, IsClass}
use Rattle.vsi_lattice.specs.LatticeView.{order}
use Rattle.vsi_types.specs.declared.rules.Profile.{Profile}
use Rattle.vsi_types.specs.Security.{Program, program}
use Rattle.vsi_types.specs.Walks.{declared_class}
use Rattle.vsi_infer.specs.Flowing.{size_of}
use Rattle.vsi_infer.specs.Inference.{AreClasses}
use Rattle.vsi_flows.proofs.VerdictLemmas.{declared_within}
use Rattle.vsi_compiler.specs.SourceView.{Source, IsSource}
use Rattle.vsi_compiler.proofs.Compiled.{lawful}
use Rattle.vsi_compiler.proofs.Held.{globals_at, declared_at}
use Rattle.vsi_flows.specs.declared.least.Raise.{Raise}
use Rattle.vsi_flows.specs.Raising.{Change, change, change_at, changes, change_of, AreLeastRaises}
use Rattle.vsi_lsp.specs.Titles.{HasOldClassesIn}

-- The old class of the change is declared.
abbrev IsChangeFrom : orders.Lattice → Program → Change → Type 0
IsChangeFrom L p ch = declared_class L p ch.variable ≡ Some ch.old

-- A change, if any, is from the declared class.
change_from : (L : orders.Lattice) (p : Program) (v old new : ℕ) → declared_class L p v ≡ Some old →
    All (IsChangeFrom L p) (change v old new)
change_from L p v old new e = by (old == new)
  where
    by : (b : Bool) → All (IsChangeFrom L p)
        (if b then [] else record { variable = v; old = old; new = new } ∷ [])
    by true = All-nil (IsChangeFrom L p)
    by false = All-cons (IsChangeFrom L p) _ [] e (All-nil (IsChangeFrom L p))

-- So is the change at a declaration.
change_at_from : (L : orders.Lattice) (p : Program) (v new : ℕ) (d : Option ℕ) → declared_class L p v ≡ d →
    All (IsChangeFrom L p) (change_at v d new)
change_at_from L p v new None e = All-nil (IsChangeFrom L p)
change_at_from L p v new (Some old) e = change_from L p v old new e

-- All changes are.
changes_from : (L : orders.Lattice) (p : Program) (policy : List ℕ) (n : ℕ) →
    All (IsChangeFrom L p) (changes L p policy n)
changes_from L p policy zero = All-nil (IsChangeFrom L p)
changes_from L p policy (suc n) =
    All-append (IsChangeFrom L p) (changes L p policy n) (change_at n (declared_class L p n) (get_or policy n 0))
    (changes_from L p policy n)
    (change_at_from L p n (get_or policy n 0) (declared_class L p n) refl)

-- The old classes of the least raises are of the lattice.
old_classes : (L : orders.Lattice) → IsLattice L → (P : Profile) (p : Program) → All (IsClass L) p.globals →
    AreClasses L p.declared → (raises : List Raise) → AreLeastRaises L P p raises → HasOldClassesIn L raises
old_classes L laws P p globals declared raises least = λ k d lt.
    let all : All (IsChangeFrom L p) (map change_of raises) =
    subst (All (IsChangeFrom L p)) (sym least.listed) (changes_from L p least.policy (size_of p)) in
    let one : IsChangeFrom L p (change_of (get_or raises k d)) =
    subst (IsChangeFrom L p) (get_or-map change_of raises k d (change_of d) lt)
    (all k (change_of d) (omega (arith, lt, length-map raises change_of))) in
    declared_within L laws p globals declared (get_or raises k d).variable (get_or raises k d).old one

module _ (s : Source) (is : IsSource s) (P : Profile) where
  -- The old classes of the least raises of a source are of its lattice.
  pub old_classes_in : (raises : List Raise) → AreLeastRaises (order s.lattice) P (program s.resolved) raises
      → HasOldClassesIn (order s.lattice) raises
  old_classes_in raises least =
      old_classes (order s.lattice) (lawful s.lattice) P (program s.resolved)
      (globals_at s is s.lattice s.resolved refl refl) (declared_at s is s.lattice s.resolved refl refl) raises least
