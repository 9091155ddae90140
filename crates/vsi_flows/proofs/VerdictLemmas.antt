-- The verdict that pairs imply about a program.
use Rattle.std.proofs.Common.{◌≡◌, ◌↔◌, ◌⊎◌, ℕ, zero, suc, ◌+◌, ◌<◌, ◌≤◌, Bool, true, false, List, [], ◌∷◌, ◌++◌, length, get_or, Option, Some, None, refl, sym, ap, ◌∙◌, subst, arith, inl, inr, cond, ◌-◌, ◌==◌, eq-eqb, ne_eqb}
use Rattle.std.specs.Prelude.{IfSome, nat_lt, slice_index, slice_index_or}
use Rattle.std.specs.List.{All, Contains}
use Rattle.std.proofs.lemmas.Bool.{cases_eq, cases_lt, false≢true}
use Rattle.std.proofs.lemmas.List.Elements.{All-contains, All-get_or, All-weaker}
use Rattle.std.proofs.lemmas.Bool.Decides.{nat_tests}
use Rattle.std.proofs.lemmas.List.{get_or_past}
use Rattle.std.proofs.lemmas.Option.{none-some}
use Rattle.vsi_lattice.specs.Order.{Lattice, IsLattice, IsClass, Below}
use Rattle.vsi_types.specs.declared.rules.Profile.{Profile}
use Rattle.vsi_types.specs.declared.rules.Step.{Step}
use Rattle.vsi_types.specs.Security.{Program, IsWellFormed, steps_of}
use Rattle.vsi_types.specs.Walks.{declared_class, last_target, IsBad}
use Rattle.vsi_types.proofs.Walking.{some_same, bad_walks_refute}
use Rattle.vsi_infer.specs.Flowing.{size_of, variable_at, AreFlowsOf}
use Rattle.vsi_infer.specs.Inference.{AreClasses}
use Rattle.vsi_infer.specs.Paths.{IsPath}
use Rattle.vsi_types.specs.Steps.{sink}
use Rattle.vsi_infer.proofs.PathLemmas.{path_bad, chain_path}
use Rattle.vsi_infer.proofs.ShortestLemmas.{path_place, source_within}
use Rattle.vsi_flows.specs.declared.table.Pair.{Pair}
use Rattle.vsi_flows.specs.Rows.{IsRowTo, AreRows}
use Rattle.vsi_flows.specs.Table.{IsDistance, IsJoined, IsTold, IsTable, HasPair, AreAllowed, HasChoice, HasBadWalk}
use Rattle.vsi_flows.specs.Filling.{ComesBefore, IsFilled}

-- A filled table is the whole one.
pub filled_table : (L : Lattice) (laws : IsLattice L) (P : Profile) (p : Program) (res : IsWellFormed L p)
    (ds : AreClasses L p.declared) (flows : ℕ → ℕ → Bool) (are : AreFlowsOf P p flows) (pairs : List Pair)
    → IsFilled L P p (size_of p) 0 pairs → IsTable L P p pairs
filled_table L laws P p res ds flows are pairs f = record {
  told = f.told;
  sorted = f.sorted;
  whole = λ a b j. by a b j j.walk j.path;
}
  where
    by : (a b : ℕ) → IsJoined L P p a b → (w : List Step) → IsPath (steps_of P p) a w b → HasPair pairs a b
    by a b j [] q = absurd (j.apart q)
    by a b j (s ∷ rest) q =
        let lt = source_within L laws P p res ds flows are s q.1 in
        let i = path_place L laws P p res ds flows are a b s rest q in
        subst (λ (x : ℕ). HasPair pairs a x) (sym i.2)
        (f.whole a i.0 i.1 (inl (omega (arith, lt, q.0))) (subst (λ (x : ℕ). IsJoined L P p a x) i.2 j))

module _ (L : Lattice) (P : Profile) (p : Program) (rows : List (List ℕ))
    (are : AreRows L P p rows) (a b : ℕ) (la : a < size_of p) (lb : b ≤ size_of p) where
  -- A position is the number of its variable.
  here : variable_at (size_of p) a ≡ a
  here = ap (λ t. cond t sink a) (ne_eqb a (size_of p) (λ e. omega (arith, la, e)))

  -- The row of a variable with a class holds the fewest steps to it.
  row_to : (c : ℕ) → declared_class L p (variable_at (size_of p) b) ≡ Some c
      → IsRowTo P p (variable_at (size_of p) b) (get_or rows b [])
  row_to c e = are b c lb e

  -- The facts that a pair of the table states.
  pub told_at : (r : Pair) (low high : ℕ) → declared_class L p a ≡ Some low
      → declared_class L p (variable_at (size_of p) b) ≡ Some high → (a ≡ variable_at (size_of p) b → ⊥)
      → get_or (get_or rows b []) a 0 < 65535
      → r.source ≡ a → r.target ≡ variable_at (size_of p) b → r.allowed ≡ L.leq low high
      → r.steps ≡ get_or (get_or rows b []) a 0 → IsTold L P p r
  told_at r low high source target apart far rs rt ra rn =
      let row = row_to high target in
      let w = row.walk a (omega (arith, la)) far in
      record {
        apart = λ e. apart (sym rs ∙ e ∙ rt);
        low = low;
        high = high;
        source = ap (declared_class L p) rs ∙ source;
        target = ap (declared_class L p) rt ∙ target;
        verdict = ra;
        steps = record {
          walk = w.0;
          path = subst (λ (x : ℕ). IsPath (steps_of P p) x w.0 r.target) (here ∙ sym rs)
              (subst (IsPath (steps_of P p) (variable_at (size_of p) a) w.0) (sym rt) w.1);
          count = w.2 ∙ sym rn;
          fewest = λ other q.
              let n = row.fewest a other (omega (arith, la)) (subst (λ (x : ℕ). IsPath (steps_of P p) x other
              (variable_at (size_of p) b)) (rs ∙ sym here) (subst (IsPath (steps_of P p) r.source other) rt q)) in
              omega (arith, n.1, rn);
        };
      }

  -- Different positions have different variables.
  pub apart_at : size_of p ≤ 1024 → (a ≡ b → ⊥) → a ≡ variable_at (size_of p) b → ⊥
  apart_at small n e = elim (cases_eq b (size_of p)) [
    | inl q ↦ (let t : variable_at (size_of p) b ≡ sink = ap (λ t. cond t sink b) (eq-eqb b (size_of p) q) in
        omega (arith, e, t, la, small))
    | inr m ↦ n (e ∙ ap (λ t. cond t sink b) (ne_eqb b (size_of p) m))
  ]

  -- Without a distance there is no walk.
  pub none_far : get_or (get_or rows b []) a 0 ≡ 65535 → IsJoined L P p a (variable_at (size_of p) b) → ⊥
  none_far far j =
      let n = (row_to j.high j.target).fewest a j.walk (omega (arith, la))
      (subst (λ (x : ℕ). IsPath (steps_of P p) x j.walk (variable_at (size_of p) b)) (sym here) j.path) in
      omega (arith, n.0, far)

module _ (L : Lattice) (laws : IsLattice L) (P : Profile) (p : Program) (res : IsWellFormed L p)
    (within : (v c : ℕ) → declared_class L p v ≡ Some c → IsClass L c) (pairs : List Pair)
    (table : IsTable L P p pairs) where
  -- A pair that isn't refused is allowed.
  allowed_of : (b : Bool) → (b ≡ false → ⊥) → b ≡ true
  allowed_of true n = refl
  allowed_of false n = absurd (n refl)

  -- A pair that is refused isn't allowed.
  not_below : (b : Bool) → b ≡ false → b ≡ true → ⊥
  not_below b e t = false≢true (sym e ∙ t)

  -- A pair that is refused has a bad walk.
  pair_bad : (r : Pair) → IsTold L P p r → r.allowed ≡ false → HasBadWalk L P p
  pair_bad r t e = by t.steps.walk t.steps.path
    where
      by : (w : List Step) → IsPath (steps_of P p) r.source w r.target → HasBadWalk L P p
      by [] q = absurd (t.apart q)
      by (s ∷ rest) q = (
        s ∷ rest,
        path_bad L P p s rest r.target t.low t.high
            (subst (λ (x : ℕ). IsPath (steps_of P p) x (s ∷ rest) r.target) (sym q.0) q)
            (ap (declared_class L p) q.0 ∙ t.source) t.target (not_below (L.leq t.low t.high) (sym t.verdict ∙ e)),
      )

  -- If some choice is typable, each pair is allowed.
  choice_allows : HasChoice L P p → AreAllowed pairs
  choice_allows (s, typed) =
      All-weaker (IsTold L P p) (λ r. r.allowed ≡ true)
      (λ r t. allowed_of r.allowed (λ e. let w = pair_bad r t e in
      bad_walks_refute L P p w.0 s laws res w.1 typed)) pairs table.told

  -- If some walk is bad, some pair is refused.
  bad_refuses : HasBadWalk L P p → AreAllowed pairs → ⊥
  bad_refuses ([], bad) all = bad
  bad_refuses (s ∷ rest, bad) all =
      let j : IsJoined L P p s.source (last_target s rest) = record {
        apart = λ e. bad.down (subst (Below L bad.low) (some_same bad.low bad.high
            (sym bad.source ∙ ap (declared_class L p) e ∙ bad.target))
            (laws.reflexive bad.low (within s.source bad.low bad.source)));
        low = bad.low;
        high = bad.high;
        source = bad.source;
        target = bad.target;
        walk = s ∷ rest;
        path = chain_path (steps_of P p) s rest bad.steps bad.chain;
      } in
      let h = table.whole s.source (last_target s rest) j in
      let t = All-contains (IsTold L P p) pairs h.0 table.told h.1 in
      let yes' = All-contains (λ (r : Pair). r.allowed ≡ true) pairs h.0 all h.1 in
      let a = some_same bad.low t.low (sym bad.source ∙ ap (declared_class L p) (sym h.2) ∙ t.source) in
      let b = some_same bad.high t.high (sym bad.target ∙ ap (declared_class L p) (sym h.3) ∙ t.target) in
      bad.down (ap (λ (x : ℕ). L.leq x bad.high) a ∙ ap (L.leq t.low) b ∙ sym t.verdict ∙ yes')

  -- No pair is refused exactly if some choice is typable.
  pub verdict : HasChoice L P p ⊎ HasBadWalk L P p → AreAllowed pairs ↔ HasChoice L P p
  verdict (inl c) = (λ all. c, choice_allows)
  verdict (inr w) = (λ all. absurd (bad_refuses w all), choice_allows)

-- Declared classes are classes of the lattice.
pub declared_within : (L : Lattice) → IsLattice L → (p : Program) → All (IsClass L) p.globals
    → AreClasses L p.declared → (v c : ℕ) → declared_class L p v ≡ Some c → IsClass L c
declared_within L laws p gs ds v c e =
    by (v == sink) (nat_lt v (length p.globals)) (λ h. grind (arith, nat_tests)) e
  where
    by : (x y : Bool) → (y ≡ true → v < length p.globals) → cond x (Some L.bottom)
        (cond y (Some (slice_index p.globals v)) (slice_index_or p.declared (v - length p.globals) None)) ≡ Some c
        → IsClass L c
    by true y f e = subst (IsClass L) (some_same L.bottom c e) laws.bottom_within
    by false true f e = subst (IsClass L) (some_same (slice_index p.globals v) c e)
        (All-get_or (IsClass L) p.globals v 0 (f refl) gs)
    by false false f e = elim (cases_lt (v - length p.globals) (length p.declared)) [
      | inl lt ↦ subst (λ d. IfSome d (IsClass L)) e
          (All-get_or (λ d. IfSome d (IsClass L)) p.declared (v - length p.globals) None lt ds)
      | inr ge ↦ absurd (none-some c (sym (get_or_past p.declared (v - length p.globals) None ge) ∙ e))
    ]
