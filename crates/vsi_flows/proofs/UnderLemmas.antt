-- The program under a policy: its steps are the same, and its declared classes are the policy's.
use Rattle.std.proofs.Common.{◌≡◌, ℕ, zero, suc, ◌+◌, ◌-◌, ◌<◌, ◌≤◌, inl, inr, cond, List, [], ◌∷◌, take, drop, length, get_or, Option, Some, None, refl, sym, ap, ◌∙◌, subst, arith, ne_eqb, lt-ltb, le-ltb}
use Rattle.std.specs.Prelude.{slice_index, slice_index_or, nat_lt, ◌==◌}
use Rattle.std.specs.List.{All, AllZip}
use Rattle.std.proofs.lemmas.Bool.{cases_lt}
use Rattle.std.proofs.lemmas.Option.{none-some}
use Rattle.std.proofs.lemmas.List.{length-take-le, length-drop, get_or-take, get_or-drop, get_or_past}
use Rattle.std.proofs.lemmas.List.Elements.{All-take}
use Rattle.vsi_lattice.specs.Order.{Lattice, IsClass}
use Rattle.vsi_scope.specs.Language.{letvars, HasPlaces}
use Rattle.vsi_scope.specs.Limits.{max_declarations}
use Rattle.vsi_types.specs.declared.rules.Profile.{Profile}
use Rattle.vsi_types.specs.Steps.{sink, steps}
use Rattle.vsi_types.specs.Security.{Program, Keeps, IsWellFormed, count_from, steps_of}
use Rattle.vsi_types.specs.Walks.{declared_class}
use Rattle.vsi_infer.specs.Flowing.{size_of}
use Rattle.vsi_flows.specs.Policy.{replaced, all_replaced, under}

-- As many classes are declared or omitted as before.
length_replaced : (ds : List (Option ℕ)) (cs : List ℕ) → length (all_replaced ds cs) ≡ length ds
length_replaced [] cs = refl
length_replaced (d ∷ ds) [] = refl
length_replaced (d ∷ ds) (c ∷ cs) = ap suc (length_replaced ds cs)

-- The class that takes the place of a declared one.
replaced_at : (ds : List (Option ℕ)) (cs : List ℕ) (i d : ℕ) → i < length cs → get_or ds i None ≡ Some d
    → get_or (all_replaced ds cs) i None ≡ Some (get_or cs i 0)
replaced_at [] cs i d lt e = absurd (none-some d (sym (get_or_past [] i None (omega arith)) ∙ e))
replaced_at (x ∷ ds) [] i d lt e = absurd (omega (arith, lt))
replaced_at (x ∷ ds) (c ∷ cs) zero d lt e = ap (λ o. replaced o c) e
replaced_at (x ∷ ds) (c ∷ cs) (suc i) d lt e = replaced_at ds cs i d (omega (arith, lt)) e

-- The classes that replace the declared ones are a choice that keeps them.
pub keeps_replaced : (ds : List (Option ℕ)) (cs : List ℕ) → length cs ≡ length ds
    → AllZip Keeps (all_replaced ds cs) cs
keeps_replaced [] [] e = tt
keeps_replaced [] (c ∷ cs) e = absurd (omega (arith, e))
keeps_replaced (d ∷ ds) [] e = absurd (omega (arith, e))
keeps_replaced (None ∷ ds) (c ∷ cs) e = (tt, keeps_replaced ds cs (omega (arith, e)))
keeps_replaced (Some d ∷ ds) (c ∷ cs) e = (refl, keeps_replaced ds cs (omega (arith, e)))

module _ (L : Lattice) (q : Program) (v : ℕ) (small : v < 1024) where
  -- The declared class of a global.
  at_global : v < length q.globals → declared_class L q v ≡ Some (get_or q.globals v 0)
  at_global lt =
      ap (λ t. cond t (Some L.bottom) (cond (nat_lt v (length q.globals)) (Some (slice_index q.globals v))
      (slice_index_or q.declared (v - length q.globals) None))) (ne_eqb v sink (λ e. omega (arith, small, e)))
      ∙ ap (λ t. cond t (Some (slice_index q.globals v)) (slice_index_or q.declared (v - length q.globals) None))
      (lt-ltb v (length q.globals) lt)

  -- The class of a letvar, if one is declared.
  at_letvar : length q.globals ≤ v → declared_class L q v ≡ get_or q.declared (v - length q.globals) None
  at_letvar ge =
      ap (λ t. cond t (Some L.bottom) (cond (nat_lt v (length q.globals)) (Some (slice_index q.globals v))
      (slice_index_or q.declared (v - length q.globals) None))) (ne_eqb v sink (λ e. omega (arith, small, e)))
      ∙ ap (λ t. cond t (Some (slice_index q.globals v)) (slice_index_or q.declared (v - length q.globals) None))
      (le-ltb v (length q.globals) ge)

module _ (L : Lattice) (p : Program) (limit : size_of p ≤ 1024) (policy : List ℕ)
    (len : length policy ≡ size_of p) where
  -- As many globals as before.
  pub under_globals : length (take (length p.globals) policy) ≡ length p.globals
  under_globals = length-take-le (length p.globals) policy (omega (arith, len))

  -- The same steps as before.
  pub steps_under : (P : Profile) → steps_of P (under policy p) ≡ steps_of P p
  steps_under P = ap (λ (n : ℕ). steps P p.names [] (count_from 0 n) n p.body) under_globals

  -- A declared class is the policy's.
  pub declared_under : (v c : ℕ) → v < size_of p → declared_class L p v ≡ Some c
      → declared_class L (under policy p) v ≡ Some (get_or policy v 0)
  declared_under v c lt e = elim (cases_lt v (length p.globals)) [
    | inl l ↦ at_global L (under policy p) v small (omega (arith, l, under_globals))
        ∙ ap Some (get_or-take (length p.globals) policy v 0 l)
    | inr ge ↦ (let d : get_or p.declared (v - length p.globals) None ≡ Some c = sym (at_letvar L p v small ge) ∙ e in
        let i : v - length p.globals < length (drop (length p.globals) policy) =
        omega (arith, ge, lt, length-drop (length p.globals) policy, len) in
        let n : length p.globals + (v - length p.globals) ≡ v = omega (arith, ge) in
        at_letvar L (under policy p) v small (omega (arith, ge, under_globals))
        ∙ ap (λ (m : ℕ). get_or (all_replaced p.declared (drop (length p.globals) policy)) (v - m) None) under_globals
        ∙ replaced_at p.declared (drop (length p.globals) policy) (v - length p.globals) c i d
        ∙ ap Some (get_or-drop (length p.globals) policy (v - length p.globals) 0
        ∙ ap (λ (m : ℕ). get_or policy m 0) n))
  ]
    where
      small : v < 1024
      small = omega (arith, lt, limit)

  -- The program under a policy has the invariants of a resolved one.
  pub well_formed : IsWellFormed L p → All (IsClass L) policy → IsWellFormed L (under policy p)
  well_formed res all = record {
    classes = All-take (IsClass L) (length p.globals) policy all;
    entries = length_replaced p.declared (drop (length p.globals) policy) ∙ res.entries;
    places = subst (λ (n : ℕ). HasPlaces n p.body) (sym under_globals) res.places;
    limit = subst (λ (n : ℕ). n + letvars p.body ≤ max_declarations) (sym under_globals) res.limit;
  }
