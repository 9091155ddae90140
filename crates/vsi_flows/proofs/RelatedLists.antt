-- Lists of variables that grow position by position.
use Rattle.std.proofs.Common.{◌≡◌, ℕ, ◌+◌, ◌<◌, ◌≤◌, cond, List, [], ◌∷◌, ◌++◌, sym, ap, ◌∙◌, subst, arith, inl, inr, eq-eqb, ne_eqb}
use Rattle.std.specs.List.{All, Contains}
use Rattle.std.proofs.lemmas.Bool.{cases_eq, cases_lt}
use Rattle.std.proofs.lemmas.List.Elements.{All-nil, All-head, All-tail, All-push, All-weaker, Contains-push, Contains-append_left}
use Rattle.vsi_types.specs.Steps.{sink}
use Rattle.vsi_infer.specs.Flowing.{variable_at}
use Rattle.vsi_infer.specs.Shortest.{row_of}
use Rattle.vsi_flows.specs.Related.{AreRising, AreExactly}

-- The list has exactly the variables with the property at the first n positions.
pub record AreFirst (R : ℕ → Type 0) (last n : ℕ) (items : List ℕ) : Type 0 where
  pub sound : All R items
  pub whole : (k : ℕ) → k < n → R (variable_at last k) → Contains items (variable_at last k)
  pub rising : AreRising items
  pub before : All (λ v. row_of last v < n) items

-- One more number at the end.
rising_push : (items : List ℕ) (x : ℕ) → AreRising items → All (λ v. v < x) items → AreRising (items ++ x ∷ [])
rising_push [] x r b = (All-nil (λ w. x < w), tt)
rising_push (v ∷ rest) x r b = (
  All-push (λ w. v < w) rest x r.0 (All-head (λ w. w < x) v rest b),
  rising_push rest x r.1 (All-tail (λ w. w < x) v rest b),
)

-- A list without any is exact if no number has the property.
pub none_exactly : (R : ℕ → Type 0) (items : List ℕ) → items ≡ [] → ((v : ℕ) → R v → ⊥) → AreExactly R items
none_exactly R items e none = subst (AreExactly R) (sym e) (record {
  sound = All-nil R;
  whole = λ v r. absurd (none v r);
  rising = tt;
})

module _ (R : ℕ → Type 0) (last : ℕ) (small : last ≤ 1024) where
  -- A variable at an earlier position has a smaller number.
  place_before : (n v : ℕ) → n ≤ last → row_of last v < n → v < variable_at last n
  place_before n v le lt = elim (cases_eq v sink) [
    | inl e ↦ absurd (let q : row_of last v ≡ last = ap (λ t. cond t last v) (eq-eqb v sink e) in
        omega (arith, q, lt, le))
    | inr m ↦ (let q : row_of last v ≡ v = ap (λ t. cond t last v) (ne_eqb v sink m) in
        elim (cases_eq n last) [
          | inl e ↦ (let t : variable_at last n ≡ sink = ap (λ t. cond t sink n) (eq-eqb n last e) in
              omega (arith, t, q, lt, le, small))
          | inr o ↦ (let t : variable_at last n ≡ n = ap (λ t. cond t sink n) (ne_eqb n last o) in
              omega (arith, t, q, lt))
        ])
  ]

  -- The position of the variable at a position.
  place_back : (n : ℕ) → n ≤ last → row_of last (variable_at last n) ≡ n
  place_back n le = elim (cases_eq n last) [
    | inl e ↦ ap (λ t. row_of last (cond t sink n)) (eq-eqb n last e) ∙ sym e
    | inr m ↦ ap (λ t. row_of last (cond t sink n)) (ne_eqb n last m)
        ∙ ap (λ t. cond t last n) (ne_eqb n sink (λ e. omega (arith, e, le, small)))
  ]

  -- At the beginning there are no variables.
  pub first_start : (items : List ℕ) → items ≡ [] → AreFirst R last 0 items
  first_start items e = subst (AreFirst R last 0) (sym e) (record {
    sound = All-nil R;
    whole = λ k lt r. absurd (omega (arith, lt));
    rising = tt;
    before = All-nil (λ v. row_of last v < 0);
  })

  -- A position whose variable hasn't the property is passed.
  pub first_skip : (n : ℕ) (items : List ℕ) → (R (variable_at last n) → ⊥) → AreFirst R last n items
      → AreFirst R last (n + 1) items
  first_skip n items none f = record {
    sound = f.sound;
    whole = λ k lt r. elim (cases_lt k n) [
      | inl l ↦ f.whole k l r
      | inr g ↦ absurd (let e : k ≡ n = omega (arith, lt, g) in
          none (subst (λ (x : ℕ). R (variable_at last x)) e r))
    ];
    rising = f.rising;
    before = All-weaker (λ v. row_of last v < n) (λ v. row_of last v < n + 1) (λ v lt. omega (arith, lt)) items
        f.before;
  }

  -- A position whose variable has the property is passed.
  pub first_more : (n : ℕ) (items after : List ℕ) → n ≤ last → R (variable_at last n)
      → after ≡ items ++ variable_at last n ∷ [] → AreFirst R last n items → AreFirst R last (n + 1) after
  first_more n items after le r is f = subst (AreFirst R last (n + 1)) (sym is) (record {
    sound = All-push R items (variable_at last n) f.sound r;
    whole = λ k lt q. elim (cases_lt k n) [
      | inl l ↦ Contains-append_left items (variable_at last n ∷ []) (variable_at last k) (f.whole k l q)
      | inr g ↦ (let e : n ≡ k = omega (arith, lt, g) in
          subst (λ (x : ℕ). Contains (items ++ variable_at last n ∷ []) (variable_at last x)) e
          (Contains-push items (variable_at last n)))
    ];
    rising = rising_push items (variable_at last n) f.rising
        (All-weaker (λ v. row_of last v < n) (λ v. v < variable_at last n) (λ v lt. place_before n v le lt) items
        f.before);
    before = All-push (λ v. row_of last v < n + 1) items (variable_at last n)
        (All-weaker (λ v. row_of last v < n) (λ v. row_of last v < n + 1) (λ v lt. omega (arith, lt)) items f.before)
        (let e = place_back n le in omega (arith, e));
  })

  -- After all positions the list is exact if each variable with the property has a position.
  pub first_all : (n : ℕ) (items : List ℕ) → last < n
      → ((v : ℕ) → R v → (k : ℕ) × (k ≤ last) × (v ≡ variable_at last k)) → AreFirst R last n items
      → AreExactly R items
  first_all n items past placed f = record {
    sound = f.sound;
    whole = λ v r. let i = placed v r in
        subst (Contains items) (sym i.2) (f.whole i.0 (omega (arith, past, i.1)) (subst R i.2 r));
    rising = f.rising;
  }
