-- The effect of one raise on the search.
use Rattle.std.proofs.Common.{◌≡◌, ◌≢◌, ℕ, zero, suc, ◌+◌, ◌<◌, ◌≤◌, Bool, true, false, List, [], ◌∷◌, ◌++◌, length, get_or, set, slice_get, Option, Some, None, refl, sym, ap, ◌∙◌, subst, arith, inl, inr, ◌⊎◌, Contains, get_or-set_other, get_or-set_same, length-set, map}
use Rattle.std.specs.Prelude.{unwrap_or}
use Rattle.std.proofs.Common.{take, drop}
use Rattle.std.proofs.lemmas.List.{drop_all, take_all, append-nil}
use Rattle.std.proofs.lemmas.List.{get_or-map, length-map}
use Rattle.std.proofs.lemmas.Bool.{cases_eq, cases_Bool, both_ways}
use Rattle.std.proofs.lemmas.Option.{slice_get_within, slice_get-get_or}
use Rattle.std.proofs.lemmas.List.Elements.{Contains-append_left, Contains-append_right, Contains-append_cases}
use Rattle.vsi_infer.specs.Orders.{OrderLaws}
use Rattle.vsi_infer.specs.Choices.{KeepsDeclared, IsJustified, IsRaised, IsProgram, Waits, IsRaiseOf, ReachedBelow, IsOrderedChoice, IsLeastOrderedChoice, IsOutOfOrder, IsBadWalk, Walk}
use Rattle.vsi_infer.specs.Ranks.{distance}
use Rattle.vsi_infer.proofs.RankLemmas.{distance_falls}

-- A raise leaves every other place unchanged.
at_other : (s s' : List ℕ) (to j v : ℕ) → s' ≡ set s to j → v ≢ to → get_or s' v 0 ≡ get_or s v 0
at_other s s' to j v e n = ap (λ l. get_or l v 0) e ∙ rw get_or-set_other refl

-- The raised place has the class that was put in.
at_same : (s s' : List ℕ) (to j : ℕ) → s' ≡ set s to j → to < length s → get_or s' to 0 ≡ j
at_same s s' to j e lt = ap (λ l. get_or l to 0) e ∙ rw get_or-set_same refl

-- A list of one element has no other.
only : (p q : ℕ) → Contains (p ∷ []) q → p ≡ q
only p q (zero, lt, e) = e
only p q (suc k, lt, e) = absurd (omega (arith, lt))

-- A variable can't be both without a class and with one.
two_declared : (declared : List (Option ℕ)) (v k : ℕ) → slice_get declared v ≡ Some None
    → slice_get declared v ≡ Some (Some k) → ⊥
two_declared declared v k p q = cc

module _ (size : ℕ) (leq : ℕ → ℕ → Bool) (bottom top : ℕ) (laws : OrderLaws size leq bottom top)
    (flows : ℕ → ℕ → Bool) (declared : List (Option ℕ)) (program : IsProgram size leq flows declared) where
  -- A choice that keeps to the declared classes still does after a raise.
  pub raise_choice : (s s' : List ℕ) (from to : ℕ) → slice_get declared to ≡ Some None → flows from to ≡ true
      → KeepsDeclared size leq flows declared s → IsRaiseOf size leq s s' from to →
      KeepsDeclared size leq flows declared s'
  raise_choice s s' from to none flow c r =
      let ht : to < length s = subst (λ n. to < n) (sym c.len) (program.flows_within from to flow).1 in
      record {
        len = ap length r.is_set ∙ simp length-set c.len;
        within = λ v hv. elim (cases_eq v to) [
          | inl e ↦ subst (λ x. x < size) (sym (ap (λ (u : ℕ). get_or s' u 0) e
              ∙ at_same s s' to r.class r.is_set ht)) r.is_join.within
          | inr n ↦ subst (λ x. x < size) (sym (at_other s s' to r.class v r.is_set n)) (c.within v hv)
        ];
        keeps = λ v k d. elim (cases_eq v to) [
          | inl e ↦ absurd (two_declared declared to k none (ap (slice_get declared) (sym e) ∙ d))
          | inr n ↦ at_other s s' to r.class v r.is_set n ∙ c.keeps v k d
        ];
      }

  -- A raised class is justified, and the others still are.
  pub raise_justified : (s s' : List ℕ) (from to : ℕ) → flows from to ≡ true → KeepsDeclared size leq flows declared s
      → IsRaiseOf size leq s s' from to → IsJustified size leq flows declared s
      → IsJustified size leq flows declared s'
  raise_justified s s' from to flow c r h v x hv hx reached =
      let fits : (from < length declared) × (to < length declared) = program.flows_within from to flow in
      let ht : to < length s = subst (λ n. to < n) (sym c.len) fits.1 in
      elim (cases_eq v to) [
        | inl e ↦ (let at_to : ReachedBelow size leq flows declared to x =
            subst (λ u. ReachedBelow size leq flows declared u x) e reached in
            subst (λ y. leq y x ≡ true) (sym (ap (λ (u : ℕ). get_or s' u 0) e ∙ at_same s s' to r.class r.is_set ht))
            (r.is_join.least x hx (h from x fits.0 hx (λ n a k d w. at_to (suc n) a k d (from, w, flow)))
            (h to x fits.1 hx at_to)))
        | inr n ↦ subst (λ y. leq y x ≡ true) (sym (at_other s s' to r.class v r.is_set n)) (h v x hv hx reached)
      ]

  module _ (s s' w : List ℕ) (from to : ℕ) (flow : flows from to ≡ true) (c : KeepsDeclared size leq flows declared s)
      (r : IsRaiseOf size leq s s' from to) where
    -- A flow to another variable is in order as before.
    now_ordered : (a b : ℕ) → flows a b ≡ true → a ≢ to → leq (get_or s a 0) (get_or s b 0) ≡ true
        → leq (get_or s' a 0) (get_or s' b 0) ≡ true
    now_ordered a b fl na le =
        let fits = program.flows_within a b fl in
        let ht : to < length s = subst (λ n. to < n) (sym c.len) (program.flows_within from to flow).1 in
        let sa = at_other s s' to r.class a r.is_set na in
        elim (cases_eq b to) [
          | inl e ↦ (let sb : get_or s' b 0 ≡ r.class = ap (λ (u : ℕ). get_or s' u 0) e
              ∙ at_same s s' to r.class r.is_set ht in
              ap (λ x. leq x (get_or s' b 0)) sa ∙ ap (leq (get_or s a 0)) sb
              ∙ laws.transitive (get_or s a 0) (get_or s b 0) r.class (c.within a fits.0)
              (c.within b fits.1) r.is_join.within le
              (ap (λ (u : ℕ). leq (get_or s u 0) r.class) e ∙ r.is_join.right))
          | inr n ↦ ap (λ x. leq x (get_or s' b 0)) sa ∙ ap (leq (get_or s a 0))
              (at_other s s' to r.class b r.is_set n) ∙ le
        ]

    -- A flow is in order, or its source waits, or it hasn't been looked at yet.
    one_wait : (a b : ℕ) → flows a b ≡ true → a ≢ to → (Contains w a ⊎ (leq (get_or s a 0) (get_or s b 0) ≡ true))
        ⊎ ((a ≡ from) × (to ≤ b))
        → (Contains (w ++ to ∷ []) a ⊎ (leq (get_or s' a 0) (get_or s' b 0) ≡ true)) ⊎ ((a ≡ from) × (to + 1 ≤ b))
    one_wait a b fl na (inl (inl h)) = inl (inl (Contains-append_left w (to ∷ []) a h))
    one_wait a b fl na (inl (inr le)) = inl (inr (now_ordered a b fl na le))
    one_wait a b fl na (inr (e, le)) = elim (cases_eq b to) [
      | inl q ↦ (let ht : to < length s = subst (λ n. to < n) (sym c.len) (program.flows_within from to flow).1 in
          inl (inr (ap (λ x. leq x (get_or s' b 0)) (at_other s s' to r.class a r.is_set na)
          ∙ ap (leq (get_or s a 0)) (ap (λ (u : ℕ). get_or s' u 0) q ∙ at_same s s' to r.class r.is_set ht)
          ∙ ap (λ (u : ℕ). leq (get_or s u 0) r.class) e ∙ r.is_join.left)))
      | inr n ↦ inr (e, omega (arith, n, le))
    ]

    -- The raised variable waits, and so do those that waited before.
    pub raise_waits : (w' : List ℕ) → w' ≡ w ++ to ∷ [] → Waits size leq flows declared s w from to
        → Waits size leq flows declared s' w' from (to + 1)
    raise_waits w' ew h = subst (λ l. Waits size leq flows declared s' l from (to + 1)) (sym ew) (record {
      each = λ a b none fl. elim (cases_eq a to) [
        | inl e ↦ inl (inl (Contains-append_right w (to ∷ []) a (0, omega arith, sym e)))
        | inr n ↦ one_wait a b fl n (h.each a b none fl)
      ];
      within = λ v m. elim (Contains-append_cases w (to ∷ []) v m) [
        | inl p ↦ h.within v p
        | inr q ↦ subst (λ x. x < length declared) (only to v q) (program.flows_within from to flow).1
      ];
    })

  -- If the flow to a variable needs no raise, the next variable can be looked at.
  pub quiet_waits : (s w : List ℕ) (from to : ℕ) → (slice_get declared to ≡ Some None → flows from to ≡ true
      → leq (get_or s from 0) (get_or s to 0) ≡ true)
      → Waits size leq flows declared s w from to → Waits size leq flows declared s w from (to + 1)
  quiet_waits s w from to quiet h = record {
    each = λ a b none fl. elim (h.each a b none fl) [
      | inl p ↦ inl p
      | inr p ↦ elim (cases_eq b to) [
        | inl q ↦ inl (inr (ap (λ (u : ℕ). leq (get_or s u 0) (get_or s b 0)) p.0
            ∙ ap (λ (u : ℕ). leq (get_or s from 0) (get_or s u 0)) q
            ∙ quiet (ap (slice_get declared) (sym q) ∙ none) (ap (flows from) (sym q)
            ∙ ap (λ (u : ℕ). flows u b) (sym p.0) ∙ fl)))
        | inr n ↦ inr (p.0, omega (arith, n, p.1))
      ]
    ];
    within = h.within;
  }

  -- A raise leaves less distance to the top.
  pub raise_nearer : (s s' : List ℕ) (from to : ℕ) → flows from to ≡ true → KeepsDeclared size leq flows declared s
      → IsRaiseOf size leq s s' from to → distance leq size s' < distance leq size s
  raise_nearer s s' from to flow c r =
      let fits : (from < length declared) × (to < length declared) = program.flows_within from to flow in
      let ht : to < length s = subst (λ n. to < n) (sym c.len) fits.1 in
      let hs : get_or s to 0 < size = c.within to fits.1 in
      distance_falls leq size s s' to r.class ht r.is_set r.is_join.within
      (elim (cases_Bool (leq r.class (get_or s to 0))) [
        | inl t ↦ absurd (both_ways _ r.unordered (laws.transitive (get_or s from 0) r.class (get_or s to 0)
            (c.within from fits.0) r.is_join.within hs r.is_join.left t))
        | inr f ↦ f
      ])
      (laws.reflexive r.class r.is_join.within) (λ k hk le. laws.transitive k
      (get_or s to 0) r.class hk hs r.is_join.within le r.is_join.right)

  -- When the last waiting variable is taken, its flows are still to be looked at.
  pub pop_waits : (s w w' : List ℕ) (old from : ℕ) → w ≡ w' ++ from ∷ []
      → Waits size leq flows declared s w old (length declared) → Waits size leq flows declared s w' from 0
  pop_waits s w w' old from e h = record {
    each = λ a b none fl. elim (h.each a b none fl) [
      | inl p ↦ elim p [
        | inl m ↦ elim (Contains-append_cases w' (from ∷ []) a (subst (λ l. Contains l a) e m))
            [ inl q ↦ inl (inl q) | inr q ↦ inr (sym (only from a q), omega arith) ]
        | inr le ↦ inl (inr le)
      ]
      | inr p ↦ absurd (let lt = (program.flows_within a b fl).1 in omega (arith, lt, p.1))
    ];
    within = λ v m. h.within v (subst (λ l. Contains l v) (sym e) (Contains-append_left w' (from ∷ []) v m));
  }

  -- The entry taken from the worklist is a variable.
  pub last_within : (s w w' : List ℕ) (old from : ℕ) → w ≡ w' ++ from ∷ []
      → Waits size leq flows declared s w old (length declared) → from < length declared
  last_within s w w' old from e h = h.within from (subst (λ l. Contains l from) (sym e)
      (Contains-append_right w' (from ∷ []) from (0, omega arith, refl)))

  -- If no variable waits, the flows are in order.
  pub all_raised : (s w : List ℕ) (old : ℕ) → length w ≡ 0 → Waits size leq flows declared s w old (length declared)
      → IsRaised size leq flows declared s
  all_raised s w old e h a b none fl = elim (h.each a b none fl) [
    | inl p ↦ elim p [ inl m ↦ absurd (omega (arith, m.1, e)) | inr le ↦ le ]
    | inr p ↦ absurd (let lt = (program.flows_within a b fl).1 in omega (arith, lt, p.1))
  ]

  -- At first all variables wait.
  pub all_wait : (s w : List ℕ) → ((v : ℕ) → v < length declared → Contains w v)
      → ((v : ℕ) → Contains w v → v < length declared) → Waits size leq flows declared s w 0 (length declared)
  all_wait s w h k = record { each = λ a b none fl. inl (inl (h a (program.flows_within a b fl).0)); within = k }

  -- ---- the raised choice.

  -- A typable choice rises along a walk.
  walk_climbs : (t : List ℕ) → IsOrderedChoice size leq flows declared t → (n a v : ℕ) → a < length declared
      → Walk flows n a v → (v < length declared) × (leq (get_or t a 0) (get_or t v 0) ≡ true)
  walk_climbs t w zero a v ha e = (
    subst (λ x. x < length declared) e ha,
    subst (λ x. leq (get_or t a 0) (get_or t x 0) ≡ true) e (laws.reflexive _ (w.choice.within a ha)),
  )
  walk_climbs t w (suc n) a v ha (m, walk, fl) =
      let before = walk_climbs t w n a m ha walk in
      let fits = program.flows_within m v fl in (
        fits.1,
        laws.transitive _ _ _ (w.choice.within a ha) (w.choice.within m fits.0)
            (w.choice.within v fits.1) before.1 (w.in_order m v fl),
      )

  -- A variable with a declared class is one of the program.
  declared_place : (v c : ℕ) → slice_get declared v ≡ Some (Some c) → v < length declared
  declared_place v c e = slice_get_within declared v (Some c) e

  -- A justified choice is below every typable one.
  pub justified_least : (s : List ℕ) → IsJustified size leq flows declared s → (t : List ℕ)
      → IsOrderedChoice size leq flows declared t → (v : ℕ) → v < length declared → leq (get_or s v 0) (get_or t v 0)
      ≡ true
  justified_least s j t w v hv = j v (get_or t v 0) hv (w.choice.within v hv) (λ n a c d walk.
      let ha = declared_place a c d in
      ap (λ x. leq x (get_or t v 0)) (sym (w.choice.keeps a c d)) ∙ (walk_climbs t w n a v ha walk).1)

  -- If there is a bad walk, no choice is typable.
  pub bad_walk_refuses : (n a b : ℕ) → IsBadWalk size leq flows declared n a b → (t : List ℕ)
      → IsOrderedChoice size leq flows declared t → ⊥
  bad_walk_refuses n a b w t ty =
      both_ways (leq w.from_class w.to_class) w.unordered
      (ap (λ x. leq x w.to_class) (sym (ty.choice.keeps a w.from_class w.from_declared))
      ∙ ap (leq (get_or t a 0)) (sym (ty.choice.keeps b w.to_class w.to_declared))
      ∙ (walk_climbs t ty n a b (declared_place a w.from_class w.from_declared) w.walk).1)

  -- If a justified choice has a flow out of order into a declared variable, not every walk to it is good.
  pub broken_has_bad : (s : List ℕ) → KeepsDeclared size leq flows declared s → IsJustified size leq flows declared s
      → (a b c : ℕ) → flows a b ≡ true → slice_get declared b ≡ Some (Some c) → leq (get_or s a 0) c ≡ false
      → ((n x : ℕ) → ¬ (IsBadWalk size leq flows declared n x b)) → ⊥
  broken_has_bad s ch j a b c fl d un none =
      both_ways (leq (get_or s a 0) c) un (j a c (program.flows_within a b fl).0 (program.declared_within b c d)
      (λ n x k dx walk.
      elim (cases_Bool (leq k c)) [
        | inl t ↦ t
        | inr f ↦ absurd (none (suc n) x (record {
          from_class = k;
          to_class = c;
          from_declared = dx;
          to_declared =
              d;
          walk = (a, walk, fl);
          unordered = f;
        }))
      ]))

  -- The starting choice has the declared classes and the bottom class for the others.
  pub start_choice : (s : List ℕ) → length s ≡ length declared
      → ((v : ℕ) → v < length declared → ((c : ℕ) × (slice_get declared v ≡ Some (Some c)) × (get_or s v 0 ≡ c))
      ⊎ ((slice_get declared v ≡ Some None) × (get_or s v 0 ≡ bottom)))
      → KeepsDeclared size leq flows declared s × IsJustified size leq flows declared s
  start_choice s len h = (
    record {
      len = len;
      within = λ v hv. elim (h v hv) [
        | inl p ↦ subst (λ x. x < size) (sym p.2) (program.declared_within v p.0 p.1)
        | inr p ↦ subst (λ x. x < size) (sym p.1) laws.bottom_within
      ];
      keeps = λ v c d. elim (h v (declared_place v c d)) [
        | inl p ↦ p.2 ∙ (let e : Some (Some p.0) ≡ Some (Some c) = sym p.1 ∙ d in cc)
        | inr p ↦ absurd (two_declared declared v c p.0 d)
      ];
    },
    λ v x hv hx reached. elim (h v hv) [
      | inl p ↦ ap (λ y. leq y x) p.2 ∙ reached 0 v p.0 p.1 refl
      | inr p ↦ ap (λ y. leq y x) p.1 ∙ laws.bottom_least x hx
    ],
  )

  -- The same for the list that the code builds.
  pub start_facts : (s : List ℕ) → s ≡ map (λ o. unwrap_or o bottom) declared → KeepsDeclared size leq flows declared s
      × IsJustified size leq flows declared s
  start_facts s e = start_choice s (ap length e ∙ simp length-map refl) (λ v hv.
      let at_v : get_or s v 0 ≡ unwrap_or (get_or declared v None) bottom =
      ap (λ l. get_or l v 0) e ∙ get_or-map (λ o. unwrap_or o bottom) declared v None 0 hv in
      by_class v (get_or declared v None) (slice_get-get_or declared v None hv) at_v)
    where
      by_class : (v : ℕ) (o : Option ℕ) → slice_get declared v ≡ Some o → get_or s v 0 ≡ unwrap_or o bottom
          → ((c : ℕ) × (slice_get declared v ≡ Some (Some c)) × (get_or s v 0 ≡ c))
          ⊎ ((slice_get declared v ≡ Some None) × (get_or s v 0 ≡ bottom))
      by_class v None d f = inr (d, f)
      by_class v (Some c) d f = inl (c, d, f)

  -- If every flow is in order, the choice is the least typable one.
  pub is_least : (s : List ℕ) → KeepsDeclared size leq flows declared s → IsJustified size leq flows declared s
      → ((a b : ℕ) → a < length s → b < length s → flows a b ≡ true → leq (get_or s a 0) (get_or s b 0) ≡ true)
      → IsLeastOrderedChoice size leq flows declared s
  is_least s ch j h = record {
    typable = record {
      choice = ch;
      in_order = λ a b fl. let fits = program.flows_within a b fl in
          h a b (subst (λ n. a < n) (sym ch.len) fits.0) (subst (λ n. b < n) (sym ch.len) fits.1) fl;
    };
    least = justified_least s j;
  }

  -- If a flow is out of order, no choice is typable.
  pub none_typable : (s : List ℕ) → KeepsDeclared size leq flows declared s → IsJustified size leq flows declared s
      → IsRaised size leq flows declared s → (a b : ℕ) → IsOutOfOrder leq flows s a b
      → (t : List ℕ) → IsOrderedChoice size leq flows declared t → ⊥
  none_typable s ch j r a b (ha, hb, fl, un) t ty =
      let fits = program.flows_within a b fl in
      by_class (get_or declared b None) (slice_get-get_or declared b None fits.1)
    where
      by_class : (o : Option ℕ) → slice_get declared b ≡ Some o → ⊥
      by_class None d = both_ways (leq (get_or s a 0) (get_or s b 0)) un (r a b d fl)
      by_class (Some c) d =
          let fits = program.flows_within a b fl in
          let same : get_or s b 0 ≡ get_or t b 0 = ch.keeps b c d ∙ sym (ty.choice.keeps b c d) in
          both_ways (leq (get_or s a 0) (get_or s b 0)) un (ap (leq (get_or s a 0)) same
          ∙ laws.transitive _ _ _ (ch.within a fits.0) (ty.choice.within a fits.0) (ty.choice.within b fits.1)
          (justified_least s j t ty a fits.0) (ty.in_order a b fl))

  -- If a flow is out of order, there is a bad walk.
  pub has_bad : (s : List ℕ) → KeepsDeclared size leq flows declared s → IsJustified size leq flows declared s
      → IsRaised size leq flows declared s → (a b : ℕ) → IsOutOfOrder leq flows s a b
      → ¬ ((n x y : ℕ) → ¬ (IsBadWalk size leq flows declared n x y))
  has_bad s ch j r a b (ha, hb, fl, un) none =
      let fits = program.flows_within a b fl in
      by_class (get_or declared b None) (slice_get-get_or declared b None fits.1)
    where
      by_class : (o : Option ℕ) → slice_get declared b ≡ Some o → ⊥
      by_class None d = both_ways (leq (get_or s a 0) (get_or s b 0)) un (r a b d fl)
      by_class (Some c) d = broken_has_bad s ch j a b c fl d (ap (leq (get_or s a 0)) (sym (ch.keeps b c d)) ∙ un)
          (λ n x. none n x b)

-- A slice written back to a vector is the vector.
pub written_back : (n : ℕ) (old new : List ℕ) → length new ≡ n → length old ≡ n
    → take n (new ++ drop (length new) old) ≡ new
written_back n old new e f =
    ap (λ l. take n (new ++ l)) (drop_all (length new) old (omega arith)) ∙ ap (take n) (append-nil new)
    ∙ take_all n new (omega arith)
