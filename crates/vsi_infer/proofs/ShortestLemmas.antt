-- Following the distances gives a bad walk, and no bad walk has fewer steps.
use Rattle.std.proofs.Common.{◌≡◌, ℕ, zero, suc, ◌+◌, ◌-◌, ◌<◌, ◌≤◌, ◌==◌, inl, inr, cond, Bool, true, false, not, List, [], ◌∷◌, ◌++◌, map, length, get_or, Option, Some, None, slice_get, refl, sym, ap, ◌∙◌, subst, arith, eq-eqb, ne_eqb}
use Rattle.std.specs.Prelude.{IfSome}
use Rattle.std.specs.List.{All, Contains}
use Rattle.std.proofs.lemmas.List.{get_or_past, get_or-map, length-map}
use Rattle.std.proofs.lemmas.List.Elements.{All-contains, All-head, All-tail, All-nil, All-cons, All-append}
use Rattle.std.proofs.lemmas.Option.{none-some, slice_get-get_or, slice_get_within}
use Rattle.std.proofs.lemmas.Bool.{cases_eq, cases_lt, and_parts, and_from, false≢true, true≢false}
use Rattle.vsi_lattice.specs.Order.{Lattice, IsLattice, IsClass, Below}
use Rattle.vsi_types.specs.declared.rules.Profile.{Profile}
use Rattle.vsi_types.specs.declared.rules.Step.{Step}
use Rattle.vsi_types.specs.Steps.{sink}
use Rattle.vsi_types.specs.Security.{Program, IsWellFormed, steps_of}
use Rattle.vsi_types.specs.Walks.{IsChain, last_target, IsBadFrom, IsBad, declared_class}
use Rattle.vsi_types.proofs.Walking.{some_same}
use Rattle.vsi_infer.specs.StepsBetween.{has_step}
use Rattle.vsi_infer.specs.Flowing.{size_of, variable_at, AreFlowsOf}
use Rattle.vsi_infer.specs.Inference.{table, AreClasses, IsShortest}
use Rattle.vsi_infer.specs.Choices.{HasPlacedBadWalk, Walk}
use Rattle.vsi_infer.specs.Distances.{Leads, IsGoal, IsAway, AreDistances}
use Rattle.vsi_infer.specs.Paths.{IsPath}
use Rattle.vsi_infer.specs.Shortest.{is_high, goals_of, far_at, AreLevels, IsFewest, row_of, steps_from, begins, LeadsDown, IsArrived}
use Rattle.vsi_infer.proofs.TargetLemmas.{HasTarget}
use Rattle.vsi_infer.proofs.Bridge.{all_targets, step_there, there_step, at_place, table_length, table_declares, is_program}
use Rattle.vsi_infer.proofs.DistanceLemmas.{fewest}
use Rattle.vsi_infer.proofs.PathLemmas.{path_bad, equal}

-- A high class is a declared one.
high_is : (leq : ℕ → ℕ → Bool) (low : ℕ) (d : Option ℕ) → is_high leq low d ≡ true → (h : ℕ) × (d ≡ Some h)
    × (leq low h ≡ true → ⊥)
high_is leq low None e = absurd (false≢true e)
high_is leq low (Some h) e = (h, refl, λ t. false≢true (sym (ap not t) ∙ e))

-- A declared class that `low` isn't at or below is high.
is_high_of : (leq : ℕ → ℕ → Bool) (low : ℕ) (d : Option ℕ) (h : ℕ) → d ≡ Some h → (leq low h ≡ true → ⊥)
    → is_high leq low d ≡ true
is_high_of leq low d h e n = ap (is_high leq low) e ∙ by (leq low h) n
  where
    by : (b : Bool) → (b ≡ true → ⊥) → not b ≡ true
    by true n = absurd (n refl)
    by false n = refl

-- A flow added at the end makes the chain one longer.
pub leads_push : (flows : ℕ → ℕ → Bool) (n a b c : ℕ) → Leads flows n a b → flows b c ≡ true → Leads flows (suc n) a c
leads_push flows zero a b c w f = (c, ap (λ (x : ℕ). flows x c) w ∙ f, refl)
leads_push flows (suc n) a b c (d, g, w) f = (d, g, leads_push flows n d b c w f)

-- A walk of n flows is a chain of n flows.
leads_of : (flows : ℕ → ℕ → Bool) (n a b : ℕ) → Walk flows n a b → Leads flows n a b
leads_of flows zero a b w = w
leads_of flows (suc n) a b (c, w, f) = leads_push flows n a c b (leads_of flows n a c w) f

-- The properties of a step that begins a walk.
pub begin_parts : (rows : List (List ℕ)) (last now after : ℕ) (o : Option ℕ) (s : Step)
    → steps_from rows last now after o s ≡ true
    → (c : ℕ) × (o ≡ Some c) × (far_at rows c s.source ≡ now) × (far_at rows c (row_of last s.target) ≡ after)
begin_parts rows last now after None s e = absurd (false≢true e)
begin_parts rows last now after (Some c) s e =
    let q = and_parts (far_at rows c s.source == now) (far_at rows c (row_of last s.target) == after) e in
    (c, refl, equal (far_at rows c s.source) now q.0, equal (far_at rows c (row_of last s.target)) after q.1)

module _ (L : Lattice) (laws : IsLattice L) (P : Profile) (p : Program) (res : IsWellFormed L p)
    (ds : AreClasses L p.declared) (flows : ℕ → ℕ → Bool) (are : AreFlowsOf P p flows) where
  -- The table has an entry for each variable and for the ending.
  size : length (table L p) ≡ size_of p + 1
  size = table_length L p res.entries res.limit

  -- The list of goals of a class is as long as the table.
  goals_size : (c : ℕ) → length (goals_of L.leq (table L p) c) ≡ size_of p + 1
  goals_size c = length-map (table L p) (is_high L.leq c) ∙ size

  -- There are at most 1,025 goals.
  few : (c : ℕ) → length (goals_of L.leq (table L p) c) ≤ 1025
  few c = omega (arith, goals_size c, are.size)

  -- A flow is between places of the table.
  inside : (c : ℕ) (a b : ℕ) → flows a b ≡ true → (a < length (goals_of L.leq (table L p) c))
      × (b < length (goals_of L.leq (table L p) c))
  inside c a b f = let w = are.within a b f in (omega (arith, w.0, goals_size c), omega (arith, w.1, goals_size c))

  -- A goal has a declared class, and the start's class isn't at or below it.
  goal_is : (c v : ℕ) → IsGoal (goals_of L.leq (table L p) c) v → (h : ℕ) × (get_or (table L p) v None ≡ Some h)
      × (Below L c h → ⊥)
  goal_is c v g = elim (cases_lt v (length (table L p))) [
    | inl lt ↦ high_is L.leq c (get_or (table L p) v None) (sym
        (get_or-map (is_high L.leq c) (table L p) v None false lt) ∙ g)
    | inr ge ↦ absurd (false≢true (sym (get_or_past (goals_of L.leq (table L p) c) v false
        (omega (arith, ge, goals_size c, size))) ∙ g))
  ]

  -- A variable is a goal if the start's class isn't at or below its declared class.
  is_goal : (c v h : ℕ) → get_or (table L p) v None ≡ Some h → (Below L c h → ⊥)
      → IsGoal (goals_of L.leq (table L p) c) v
  is_goal c v h e n = elim (cases_lt v (length (table L p))) [
    | inl lt ↦ get_or-map (is_high L.leq c) (table L p) v None false lt
        ∙ is_high_of L.leq c (get_or (table L p) v None) h e n
    | inr ge ↦ absurd (none-some h (sym (get_or_past (table L p) v None ge) ∙ e))
  ]

  -- The row of the variable at a place is that place.
  pub row_back : (b : ℕ) → b ≤ size_of p → row_of (size_of p) (variable_at (size_of p) b) ≡ b
  row_back b le = elim (cases_eq b (size_of p)) [
    | inl e ↦ ap (λ t. row_of (size_of p) (cond t sink b)) (eq-eqb b (size_of p) e) ∙ sym e
    | inr n ↦ ap (λ t. row_of (size_of p) (cond t sink b)) (ne_eqb b (size_of p) n)
        ∙ ap (λ t. cond t (size_of p) b) (ne_eqb b sink (λ e. omega (arith, e, le, are.size)))
  ]

  -- A row before the last one belongs to the variable with its number.
  pub row_plain : (v : ℕ) → row_of (size_of p) v < size_of p → row_of (size_of p) v ≡ v
  row_plain v lt = elim (cases_eq v sink) [
    | inl e ↦ absurd (let q : row_of (size_of p) v ≡ size_of p = ap (λ t. cond t (size_of p) v) (eq-eqb v sink e) in
        omega (arith, q, lt))
    | inr n ↦ ap (λ t. cond t (size_of p) v) (ne_eqb v sink n)
  ]

  module _ (c : ℕ) (row : List ℕ) (d : AreDistances flows (goals_of L.leq (table L p) c) row) where
    -- From a number above 0, a step leads to the next lower number.
    down_at : (i n : ℕ) → get_or row i 0 ≡ suc n → suc n < 65535 → (i < size_of p)
        × ((s : Step) × Contains (steps_of P p) s × (s.source ≡ i) × (get_or row (row_of (size_of p) s.target) 0 ≡ n))
    down_at i n e lt =
        let there : i < length row = elim (cases_lt i (length row))
        [ inl l ↦ l | inr ge ↦ absurd (omega (arith, e, get_or_past row i 0 ge)) ] in
        let away : IsAway flows (goals_of L.leq (table L p) c) (suc n) i =
        subst (λ (m : ℕ). IsAway flows (goals_of L.leq (table L p) c) m i) e
        (d.sound i there (omega (arith, e, lt))) in
        let v = away.2.0 in
        let f = away.2.1 in
        let fits = are.within i v f in
        let m = fewest flows (goals_of L.leq (table L p) c) row (few c) (inside c) d n v away.0 away.2.2 away.1 in
        let up = d.closed i v f m.0 in
        let q : get_or row v 0 ≡ n = omega (arith, m.1, up, e) in
        let s = step_there (steps_of P p) i (variable_at (size_of p) v) (sym (are.flow i v fits.1) ∙ f) in (
          fits.0,
          (
            s.0,
            s.1,
            s.2,
            ap (λ (t : ℕ). get_or row (row_of (size_of p) t) 0) s.3
                ∙ ap (λ (t : ℕ). get_or row t 0) (row_back v fits.1) ∙ q,
          ),
        )

    -- A row of fewest steps leads down by steps of the program.
    pub leads_down : LeadsDown (steps_of P p) (size_of p) row
    leads_down v n e lt =
        let r = down_at (row_of (size_of p) v) n e lt in
        (r.1.0, r.1.1, r.1.2 ∙ row_plain v r.0, r.1.3)

  -- The target of a step is at some place, and the source flows to that place.
  pub step_flow : (x : Step) → Contains (steps_of P p) x → (b : ℕ) × (b ≤ size_of p)
      × (x.target ≡ variable_at (size_of p) b) × (flows x.source b ≡ true)
  step_flow x there =
      let to = All-contains (HasTarget (size_of p)) (steps_of P p) x
      (all_targets L laws P p res ds flows are) there in (
        to.0,
        to.1,
        to.2,
        are.flow x.source to.0 to.1 ∙ ap (has_step (steps_of P p) x.source) (sym to.2)
            ∙ there_step (steps_of P p) x there,
      )

  -- The source of a step is a variable of the program.
  pub source_within : (x : Step) → Contains (steps_of P p) x → x.source < size_of p
  source_within x there = let f = step_flow x there in (are.within x.source f.0 f.3).0

  -- If the variable at a place is one of the program's, the place is its number.
  pub same_place : (b v : ℕ) → b ≤ size_of p → v < size_of p → variable_at (size_of p) b ≡ v → b ≡ v
  same_place b v le lt e = elim (cases_lt b (size_of p)) [
    | inl l ↦ sym (at_place L p res.entries res.limit b l) ∙ e
    | inr g ↦ absurd (let q : b ≡ size_of p = omega (arith, le, g) in
        let s : sink ≡ v = sym (ap (λ t. cond t sink b) (eq-eqb b (size_of p) q)) ∙ e in
        omega (arith, s, lt, are.size))
  ]

  -- A chain of steps is a chain of as many flows.
  chain_leads : (s : Step) (rest : List Step) → All (Contains (steps_of P p)) (s ∷ rest) → IsChain s rest → (b : ℕ)
      × (b ≤ size_of p) × (last_target s rest ≡ variable_at (size_of p) b)
      × Leads flows (length (s ∷ rest)) s.source b
  chain_leads s [] all c =
      let f = step_flow s (All-head (Contains (steps_of P p)) s [] all) in
      (f.0, f.1, f.2, (f.0, f.3, refl))
  chain_leads s (t ∷ rest) all c =
      let tail = All-tail (Contains (steps_of P p)) s (t ∷ rest) all in
      let f = step_flow s (All-head (Contains (steps_of P p)) s (t ∷ rest) all) in
      let h = step_flow t (All-head (Contains (steps_of P p)) t rest tail) in
      let r = chain_leads t rest tail c.1 in
      let e = same_place f.0 t.source f.1 (are.within t.source h.0 h.3).0 (sym f.2 ∙ c.0) in
      (r.0, r.1, r.2, (t.source, subst (λ v. flows s.source v ≡ true) e f.3, r.3))

  -- The end of a path is a place.
  pub path_place : (a b : ℕ) (s : Step) (rest : List Step) → IsPath (steps_of P p) a (s ∷ rest) b → (i : ℕ)
      × (i ≤ size_of p) × (b ≡ variable_at (size_of p) i)
  path_place a b s [] w = let f = step_flow s w.1 in (f.0, f.1, sym w.2 ∙ f.2)
  path_place a b s (t ∷ rest) w = path_place s.target b t rest w.2

  module _ (rows : List (List ℕ)) (levels : AreLevels L flows (table L p) rows) (n : ℕ)
      (best : IsFewest (table L p) rows n) where
    -- The fewest steps are a lower bound for the length of a bad walk.
    pub no_shorter : (s : Step) (rest : List Step) → IsBadFrom L P p s rest → n ≤ length (s ∷ rest)
    no_shorter s rest bad =
        let w = chain_leads s rest bad.steps bad.chain in
        let lt = source_within s (All-head (Contains (steps_of P p)) s rest bad.steps) in
        let e : get_or (table L p) w.0 None ≡ Some bad.high =
        table_declares L p res.entries res.limit w.0 w.1 ∙ ap (declared_class L p) (sym w.2) ∙ bad.target in
        let o : get_or (table L p) s.source None ≡ Some bad.low =
        table_declares L p res.entries res.limit s.source (omega (arith, lt))
        ∙ ap (declared_class L p) (at_place L p res.entries res.limit s.source lt) ∙ bad.source in
        let g : slice_get (table L p) s.source ≡ Some (Some bad.low) =
        slice_get-get_or (table L p) s.source None (omega (arith, lt, size)) ∙ ap Some o in
        let f = fewest flows (goals_of L.leq (table L p) bad.low) (get_or rows bad.low []) (few bad.low)
        (inside bad.low) (levels s.source bad.low g) (length (s ∷ rest)) s.source w.0 w.3
        (is_goal bad.low w.0 bad.high e bad.down) in
        let b = best.lower s.source bad.low g in
        omega (arith, f.1, b)

    -- If there is a bad walk, the number of fewest steps was found.
    pub some_length : HasPlacedBadWalk L.count L.leq flows (table L p) → n < 65535
    some_length has = elim (cases_lt n 65535) [
      | inl lt ↦ lt
      | inr ge ↦ absurd (has (λ m a b w.
          let lt = slice_get_within (table L p) b (Some w.to_class) w.to_declared in
          let e : get_or (table L p) b None ≡ Some w.to_class =
          unwrap (get_or (table L p) b None) w.to_class (sym (slice_get-get_or (table L p) b None lt)
          ∙ w.to_declared) in
          let f = fewest flows (goals_of L.leq (table L p) w.from_class) (get_or rows w.from_class [])
          (few w.from_class) (inside w.from_class) (levels a w.from_class w.from_declared) m a b
          (leads_of flows m a b w.walk) (is_goal w.from_class b w.to_class e
          (λ t. true≢false (sym t ∙ w.unordered))) in
          let l = best.lower a w.from_class w.from_declared in
          omega (arith, f.0, l, ge)))
    ]
      where
        unwrap : (d : Option ℕ) (c : ℕ) → Some d ≡ Some (Some c) → d ≡ Some c
        unwrap d c e = ap (λ o. elim o as (λ _. Option ℕ) [ None ↦ d | Some x ↦ x ]) e

    -- If there is a bad walk, some step begins a shortest one.
    pub begin_there : HasPlacedBadWalk L.count L.leq flows (table L p) → (1 ≤ n)
        × ((s : Step) × Contains (steps_of P p) s × (begins (table L p) rows (size_of p) n (n - 1) s ≡ true))
    begin_there has = elim best.attained [
      | inl e ↦ absurd (let lt = some_length has in omega (arith, e, lt))
      | inr (v, c, e, f) ↦ from v c e f (some_length has)
    ]
      where
        unwrap : (d : Option ℕ) (c : ℕ) → Some d ≡ Some (Some c) → d ≡ Some c
        unwrap d c e = ap (λ o. elim o as (λ _. Option ℕ) [ None ↦ d | Some x ↦ x ]) e

        from : (v c : ℕ) → slice_get (table L p) v ≡ Some (Some c) → far_at rows c v ≡ n → n < 65535 → (1 ≤ n)
            × ((s : Step) × Contains (steps_of P p) s × (begins (table L p) rows (size_of p) n (n - 1) s ≡ true))
        from v c e f lt =
            let row = get_or rows c [] in
            let d = levels v c e in
            let vt = slice_get_within (table L p) v (Some c) e in
            let o : get_or (table L p) v None ≡ Some c = unwrap (get_or (table L p) v None) c
            (sym (slice_get-get_or (table L p) v None vt) ∙ e) in
            let some : 1 ≤ n = elim (cases_eq n 0) [
              | inl z ↦ absurd (let away : IsAway flows (goals_of L.leq (table L p) c) 0 v =
                  subst (λ (m : ℕ). IsAway flows (goals_of L.leq (table L p) c) m v) (f ∙ z)
                  (d.sound v (omega (arith, vt, d.len, goals_size c, size)) (omega (arith, f, lt))) in
                  let g = goal_is c v (subst (IsGoal (goals_of L.leq (table L p) c)) (sym away.2) away.1) in
                  let same : c ≡ g.0 = some_same c g.0 (sym o ∙ g.1) in
                  g.2 (subst (Below L c) same (laws.reflexive c (class_within v c e))))
              | inr q ↦ omega (arith, q)
            ] in
            let m : n ≡ suc (n - 1) = omega (arith, some) in
            let r = down_at c row d v (n - 1) (f ∙ m) (omega (arith, m, lt)) in
            let s = r.1.0 in
            let src : get_or (table L p) s.source None ≡ Some c =
            ap (λ (u : ℕ). get_or (table L p) u None) r.1.2 ∙ o in (
              some,
              (
                s,
                r.1.1,
                ap (λ o. steps_from rows (size_of p) n (n - 1) o s) src
                    ∙ and_from (far_at rows c s.source == n) (far_at rows c (row_of (size_of p) s.target) == n - 1)
                    (eq-eqb (far_at rows c s.source) n (ap (λ (u : ℕ). get_or row u 0) r.1.2 ∙ f))
                    (eq-eqb (far_at rows c (row_of (size_of p) s.target)) (n - 1) r.1.3),
              ),
            )
          where
            class_within : (v c : ℕ) → slice_get (table L p) v ≡ Some (Some c) → IsClass L c
            class_within v c e = (is_program L laws P p res ds flows are).declared_within v c e

    -- A walk that arrived is a shortest bad walk.
    pub arrived_shortest : (s : Step) (rest : List Step) (c : ℕ) → Contains (steps_of P p) s
        → get_or (table L p) s.source None ≡ Some c → IsArrived (steps_of P p) (size_of p)
        (get_or rows c []) s.source n (s ∷ rest) → IsShortest L P p (s ∷ rest)
    arrived_shortest s rest c there o a =
        let lt = source_within s there in
        let g : slice_get (table L p) s.source ≡ Some (Some c) =
        slice_get-get_or (table L p) s.source None (omega (arith, lt, size)) ∙ ap Some o in
        let d = levels s.source c g in
        let i = path_place s.source a.end s rest a.path in
        let r : row_of (size_of p) a.end ≡ i.0 = ap (row_of (size_of p)) i.2 ∙ row_back i.0 i.1 in
        let z : get_or (get_or rows c []) i.0 0 ≡ 0 = ap (λ (u : ℕ). get_or (get_or rows c []) u 0) (sym r)
        ∙ a.level in
        let away : IsAway flows (goals_of L.leq (table L p) c) 0 i.0 =
        subst (λ (m : ℕ). IsAway flows (goals_of L.leq (table L p) c) m i.0) z
        (d.sound i.0 (omega (arith, i.1, d.len, goals_size c)) (omega (arith, z))) in
        let h = goal_is c i.0 (subst (IsGoal (goals_of L.leq (table L p) c)) (sym away.2) away.1) in
        let source : declared_class L p s.source ≡ Some c = sym
        (table_declares L p res.entries res.limit s.source (omega (arith, lt))
        ∙ ap (declared_class L p) (at_place L p res.entries res.limit s.source lt)) ∙ o in
        let target : declared_class L p a.end ≡ Some h.0 = ap (declared_class L p) i.2
        ∙ sym (table_declares L p res.entries res.limit i.0 i.1) ∙ h.1 in
        (path_bad L P p s rest a.end c h.0 a.path source target h.2, shorter a.size)
      where
        shorter : length (s ∷ rest) ≡ n → (other : List Step) → IsBad L P p other → length (s ∷ rest) ≤ length other
        shorter e [] bad = absurd bad
        shorter e (x ∷ xs) bad = let q = no_shorter x xs bad in omega (arith, q, e)

  -- The table declares classes of the lattice.
  pub table_classes : AreClasses L (table L p)
  table_classes =
      All-append (λ d. IfSome d (IsClass L)) (map Some p.globals) (p.declared ++ Some L.bottom ∷ [])
      (all_some p.globals res.classes)
      (All-append (λ d. IfSome d (IsClass L)) p.declared (Some L.bottom ∷ []) ds
      (All-cons (λ d. IfSome d (IsClass L)) (Some L.bottom) [] laws.bottom_within
      (All-nil (λ d. IfSome d (IsClass L)))))
    where
      all_some : (xs : List ℕ) → All (IsClass L) xs → All (λ d. IfSome d (IsClass L)) (map Some xs)
      all_some [] h = All-nil (λ d. IfSome d (IsClass L))
      all_some (x ∷ xs) h = All-cons (λ d. IfSome d (IsClass L)) (Some x) (map Some xs)
          (All-head (IsClass L) x xs h) (all_some xs (All-tail (IsClass L) x xs h))

-- The facts known once the fewest steps of a walk that breaks the policy have been counted.
pub record IsCounted (L : Lattice) (P : Profile) (p : Program) (flows : ℕ → ℕ → Bool) (T : List (Option ℕ))
    (rows : List (List ℕ)) (n : ℕ) : Type 0 where
  pub laws : IsLattice L
  pub resolved : IsWellFormed L p
  pub letvars : AreClasses L p.declared
  pub are : AreFlowsOf P p flows
  pub same : T ≡ table L p
  pub levels : AreLevels L flows T rows
  pub best : IsFewest T rows n
  pub bad : HasPlacedBadWalk L.count L.leq flows (table L p)

-- The same for a list that equals the table.
module _ (L : Lattice) (P : Profile) (p : Program) (flows : ℕ → ℕ → Bool) (T : List (Option ℕ)) (rows : List (List ℕ))
    (n : ℕ) (k : IsCounted L P p flows T rows n) where
  -- The rows have the fewest flows from each declared class.
  levels' : AreLevels L flows (table L p) rows
  levels' = subst (λ t. AreLevels L flows t rows) k.same k.levels

  -- The number is the fewest of any walk that breaks the policy.
  best' : IsFewest (table L p) rows n
  best' = subst (λ t. IsFewest t rows n) k.same k.best

  -- The last entry of the table is the ending's.
  pub last_is : length T - 1 ≡ size_of p
  last_is = omega (arith, ap length k.same, size L k.laws P p k.resolved k.letvars flows k.are)

  -- A bad walk has at least one step.
  pub length_some : 1 ≤ n
  length_some = (begin_there L k.laws P p k.resolved k.letvars flows k.are rows levels' n best' k.bad).0

  -- Some step begins a shortest bad walk.
  pub first_step : (s : Step) × Contains (steps_of P p) s × (begins T rows (length T - 1) n (n - 1) s ≡ true)
  first_step =
      let r = (begin_there L k.laws P p k.resolved k.letvars flows k.are rows levels' n best' k.bad).1 in (
        r.0,
        r.1,
        subst (λ t. begins t rows (length T - 1) n (n - 1) r.0 ≡ true) (sym k.same)
            (subst (λ (l : ℕ). begins (table L p) rows l n (n - 1) r.0 ≡ true) (sym last_is) r.2),
      )

  module _ (s : Step) (there : Contains (steps_of P p) s) (c : ℕ) (o : Some c ≡ get_or T s.source None) where
    -- The source of the first step has its declared class.
    here : get_or (table L p) s.source None ≡ Some c
    here = sym (o ∙ ap (λ t. get_or t s.source None) k.same)

    -- The source of the first step has that class in the table.
    declared_here : slice_get (table L p) s.source ≡ Some (Some c)
    declared_here =
        let lt = source_within L k.laws P p k.resolved k.letvars flows k.are s there in
        slice_get-get_or (table L p) s.source None
        (omega (arith, lt, size L k.laws P p k.resolved k.letvars flows k.are)) ∙ ap Some here

    -- The row of the class leads down by steps of the program.
    pub row_leads : LeadsDown (steps_of P p) (length T - 1) (get_or rows c [])
    row_leads = subst (λ (l : ℕ). LeadsDown (steps_of P p) l (get_or rows c [])) (sym last_is)
        (leads_down L k.laws P p k.resolved k.letvars flows k.are c (get_or rows c [])
        (levels' s.source c declared_here))

    -- After the first step, one step less is left.
    pub level_after : begins T rows (length T - 1) n (n - 1) s ≡ true
        → get_or (get_or rows c []) (row_of (length T - 1) s.target) 0 ≡ n - 1
    level_after w =
        let q = begin_parts rows (length T - 1) n (n - 1) (get_or T s.source None) s w in
        let e = some_same c q.0 (o ∙ q.1) in
        ap (λ (l : ℕ). far_at rows l (row_of (length T - 1) s.target)) e ∙ q.3

    -- A walk that continues in this way is a shortest bad walk.
    pub shortest : (items : List Step) → (rest : List Step) × (items ≡ s ∷ rest)
        × IsArrived (steps_of P p) (length T - 1) (get_or rows c []) s.source (n - 1 + 1) (s ∷ rest)
        → IsShortest L P p items
    shortest items (rest, e, a) =
        let m : n - 1 + 1 ≡ n = omega (arith, length_some) in
        let a' = subst (λ (l : ℕ). IsArrived (steps_of P p) l (get_or rows c []) s.source n (s ∷ rest)) last_is
        (subst (λ (l : ℕ). IsArrived (steps_of P p) (length T - 1) (get_or rows c []) s.source l (s ∷ rest)) m
        a) in
        subst (IsShortest L P p) (sym e) (arrived_shortest L k.laws P p k.resolved k.letvars flows k.are rows levels' n
        best' s rest c there here a')
