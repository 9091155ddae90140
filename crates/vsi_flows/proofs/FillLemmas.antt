-- The table up to a position.
use Rattle.std.proofs.Common.{◌≡◌, ◌⊎◌, ℕ, zero, suc, ◌+◌, ◌<◌, ◌≤◌, ◌==◌, cond, List, [], ◌∷◌, ◌++◌, length, refl, sym, ap, ◌∙◌, subst, arith, inl, inr, eq-eqb, ne_eqb}
use Rattle.std.specs.List.{All, Contains}
use Rattle.std.proofs.lemmas.Bool.{cases_eq, cases_lt}
use Rattle.std.proofs.lemmas.List.Elements.{All-nil, All-cons, All-head, All-tail, All-push, All-weaker, Contains-push, Contains-append_left}
use Rattle.vsi_lattice.specs.Order.{Lattice, IsLattice}
use Rattle.vsi_types.specs.declared.rules.Profile.{Profile}
use Rattle.vsi_types.specs.declared.rules.Step.{Step}
use Rattle.vsi_types.specs.Steps.{sink}
use Rattle.vsi_types.specs.Security.{Program, IsWellFormed, steps_of}
use Rattle.vsi_infer.specs.Flowing.{size_of, variable_at}
use Rattle.vsi_infer.specs.Paths.{IsPath}
use Rattle.vsi_infer.specs.Shortest.{row_of}
use Rattle.vsi_flows.specs.declared.table.Pair.{Pair}
use Rattle.vsi_flows.specs.Table.{IsJoined, IsTold, IsTable, HasPair, Precedes, AreSorted}
use Rattle.vsi_flows.specs.Filling.{ComesBefore, IsBefore, IsFilled}

-- One more pair at the end.
sorted_push : (pairs : List Pair) (r : Pair) → AreSorted pairs → All (λ q. Precedes q r) pairs
    → AreSorted (pairs ++ r ∷ [])
sorted_push [] r s b = (All-nil (Precedes r), tt)
sorted_push (q ∷ pairs) r s b = (
  All-push (Precedes q) pairs r s.0 (All-head (λ x. Precedes x r) q pairs b),
  sorted_push pairs r s.1 (All-tail (λ x. Precedes x r) q pairs b),
)

module _ (L : Lattice) (P : Profile) (p : Program) (limit : size_of p ≤ 1024) where
  -- A position in a row comes before another if its variable does.
  place_before : (b v : ℕ) → b ≤ size_of p → row_of (size_of p) v < b → v < variable_at (size_of p) b
  place_before b v le lt = elim (cases_eq v sink) [
    | inl e ↦ absurd (let q : row_of (size_of p) v ≡ size_of p = ap (λ t. cond t (size_of p) v) (eq-eqb v sink e) in
        omega (arith, q, lt, le))
    | inr n ↦ (let q : row_of (size_of p) v ≡ v = ap (λ t. cond t (size_of p) v) (ne_eqb v sink n) in
        elim (cases_eq b (size_of p)) [
          | inl e ↦ (let t : variable_at (size_of p) b ≡ sink = ap (λ t. cond t sink b) (eq-eqb b (size_of p) e) in
              omega (arith, t, q, lt, le, limit))
          | inr m ↦ (let t : variable_at (size_of p) b ≡ b = ap (λ t. cond t sink b) (ne_eqb b (size_of p) m) in
              omega (arith, t, q, lt))
        ])
  ]

  -- The position of the variable at a position.
  place_back : (b : ℕ) → b ≤ size_of p → row_of (size_of p) (variable_at (size_of p) b) ≡ b
  place_back b le = elim (cases_eq b (size_of p)) [
    | inl e ↦ ap (λ t. row_of (size_of p) (cond t sink b)) (eq-eqb b (size_of p) e) ∙ sym e
    | inr n ↦ ap (λ t. row_of (size_of p) (cond t sink b)) (ne_eqb b (size_of p) n)
        ∙ ap (λ t. cond t (size_of p) b) (ne_eqb b sink (λ e. omega (arith, e, le, limit)))
  ]

  -- A position before a pair is before every later pair.
  later : (a b : ℕ) (r : Pair) → IsBefore (size_of p) a b r → IsBefore (size_of p) a (b + 1) r
  later a b r (inl lt) = inl lt
  later a b r (inr (e, lt)) = inr (e, omega (arith, lt))

  -- At the beginning there are no pairs.
  nothing : IsFilled L P p 0 0 []
  nothing = record {
    told = All-nil (IsTold L P p);
    sorted = tt;
    before = All-nil (IsBefore (size_of p) 0 0);
    whole = λ x y le h. elim h [
      | inl lt ↦ absurd (omega (arith, lt))
      | inr (e, lt) ↦ absurd (omega (arith, lt))
    ];
  }

  -- An empty list is the table up to its beginning.
  pub start : (pairs : List Pair) → pairs ≡ [] → IsFilled L P p 0 0 pairs
  start pairs e = subst (IsFilled L P p 0 0) (sym e) nothing

  -- A position without a pair is passed.
  pub skipped : (a b : ℕ) (pairs : List Pair) → (IsJoined L P p a (variable_at (size_of p) b) → ⊥)
      → IsFilled L P p a b pairs → IsFilled L P p a (b + 1) pairs
  skipped a b pairs none f = record {
    told = f.told;
    sorted = f.sorted;
    before = All-weaker (IsBefore (size_of p) a b) (IsBefore (size_of p) a (b + 1)) (later a b) pairs f.before;
    whole = λ x y le h j. elim (before_or x y h) [
      | inl o ↦ f.whole x y le o j
      | inr (e, q) ↦ absurd (none (subst (λ (v : ℕ). IsJoined L P p v (variable_at (size_of p) b)) e
          (subst (λ (v : ℕ). IsJoined L P p x (variable_at (size_of p) v)) q j)))
    ];
  }
    where
      before_or : (x y : ℕ) → ComesBefore x y a (b + 1) → ComesBefore x y a b ⊎ ((x ≡ a) × (y ≡ b))
      before_or x y (inl lt) = inl (inl lt)
      before_or x y (inr (e, lt)) = elim (cases_lt y b) [
        | inl l ↦ inl (inr (e, l))
        | inr g ↦ inr (e, omega (arith, lt, g))
      ]

  -- A position with a pair is passed.
  pub pushed : (a b : ℕ) (pairs new : List Pair) (r : Pair) → b ≤ size_of p → new ≡ pairs ++ r ∷ [] → r.source ≡ a
      → r.target ≡ variable_at (size_of p) b → IsTold L P p r → IsFilled L P p a b pairs
      → IsFilled L P p a (b + 1) new
  pushed a b pairs new r le is src tgt told f = subst (IsFilled L P p a (b + 1)) (sym is) (record {
    told = All-push (IsTold L P p) pairs r f.told told;
    sorted = sorted_push pairs r f.sorted
        (All-weaker (IsBefore (size_of p) a b) (λ q. Precedes q r) precedes pairs f.before);
    before = All-push (IsBefore (size_of p) a (b + 1)) pairs r
        (All-weaker (IsBefore (size_of p) a b) (IsBefore (size_of p) a (b + 1)) (later a b) pairs f.before)
        (inr (src, omega (arith, ap (row_of (size_of p)) tgt, place_back b le)));
    whole = λ x y ly h j. elim (before_or x y h) [
      | inl o ↦ kept x y (f.whole x y ly o j)
      | inr (e, q) ↦ (
        r,
        Contains-push pairs r,
        src ∙ sym e,
        tgt ∙ ap (variable_at (size_of p)) (sym q),
      )
    ];
  })
    where
      before_or : (x y : ℕ) → ComesBefore x y a (b + 1) → ComesBefore x y a b ⊎ ((x ≡ a) × (y ≡ b))
      before_or x y (inl lt) = inl (inl lt)
      before_or x y (inr (e, lt)) = elim (cases_lt y b) [
        | inl l ↦ inl (inr (e, l))
        | inr g ↦ inr (e, omega (arith, lt, g))
      ]

      precedes : (q : Pair) → IsBefore (size_of p) a b q → Precedes q r
      precedes q (inl lt) = inl (omega (arith, lt, src))
      precedes q (inr (e, lt)) = inr (e ∙ sym src, (let t = place_before b q.target le lt in omega (arith, t, tgt)))

      kept : (x y : ℕ) → HasPair pairs x (variable_at (size_of p) y)
          → HasPair (pairs ++ r ∷ []) x (variable_at (size_of p) y)
      kept x y h = (h.0, Contains-append_left pairs (r ∷ []) h.0 h.1, h.2, h.3)

  -- All positions of a source are passed.
  pub row_done : (a b : ℕ) (pairs : List Pair) → size_of p < b → IsFilled L P p a b pairs
      → IsFilled L P p (a + 1) 0 pairs
  row_done a b pairs past f = record {
    told = f.told;
    sorted = f.sorted;
    before = All-weaker (IsBefore (size_of p) a b) (IsBefore (size_of p) (a + 1) 0) on pairs f.before;
    whole = λ x y le h j. f.whole x y le (back x y le h) j;
  }
    where
      on : (r : Pair) → IsBefore (size_of p) a b r → IsBefore (size_of p) (a + 1) 0 r
      on r (inl lt) = inl (omega (arith, lt))
      on r (inr (e, lt)) = inl (omega (arith, e))

      back : (x y : ℕ) → y ≤ size_of p → ComesBefore x y (a + 1) 0 → ComesBefore x y a b
      back x y le (inl lt) = elim (cases_lt x a) [
        | inl l ↦ inl l
        | inr g ↦ inr (omega (arith, lt, g), omega (arith, le, past))
      ]
      back x y le (inr (e, lt)) = absurd (omega (arith, lt))
