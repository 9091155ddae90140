-- The covering pairs, row by row.
use Rattle.std.proofs.Common.{◌≡◌, ℕ, ◌+◌, ◌<◌, ◌⊎◌, List, [], ◌∷◌, ◌++◌, inl, inr, arith, subst, sym, refl, ap, ◌∙◌}
use Rattle.std.proofs.lemmas.Bool.{cases_lt}
use Rattle.std.specs.List.{Contains}
use Rattle.std.proofs.lemmas.List.Elements.{Contains-push, Contains-push_cases, Contains-append_left}
use Rattle.vsi_lattice.specs.Order.{Lattice, IsClass}
use Rattle.vsi_report.specs.Covering.{Covers, HasJust, IsCoveringPair, IsRowSoFar}

-- A list that has just the pairs of one property has just the pairs of an equivalent one.
pub just_same : (P Q : ℕ → ℕ → Type 0) (ps : List (ℕ × ℕ)) → ((a b : ℕ) → Q a b → P a b) →
    ((a b : ℕ) → P a b → Q a b) → HasJust P ps → HasJust Q ps
just_same P Q ps to from h =
    record {
      each = λ a b q. h.each a b (to a b q);
      only = λ a b at. from a b (h.only a b at);
    }

-- Pairs of equal numbers are equal.
pair_same : (x y a b : ℕ) → x ≡ a → y ≡ b → ◌≡◌ {A = ℕ × ℕ} (x, y) (a, b)
pair_same x y a b e f = ap (λ z. (z, y)) e ∙ ap (λ z. (a, z)) f

-- With one more pair in the list, the property holds of one more pair.
pub just_more : (P Q : ℕ → ℕ → Type 0) (ps : List (ℕ × ℕ)) (x y : ℕ) → Q x y →
    ((a b : ℕ) → Q a b → P a b ⊎ ((x ≡ a) × (y ≡ b))) → ((a b : ℕ) → P a b → Q a b) →
    HasJust P ps → HasJust Q (ps ++ (x, y) ∷ [])
just_more P Q ps x y here to from h =
    record { each = λ a b q. found a b (to a b q); only = λ a b at. so a b (Contains-push_cases ps (x, y) (a, b) at) }
  where
    found : (a b : ℕ) → P a b ⊎ ((x ≡ a) × (y ≡ b)) → Contains (ps ++ (x, y) ∷ []) (a, b)
    found a b (inl p) = Contains-append_left ps ((x, y) ∷ []) (a, b) (h.each a b p)
    found a b (inr e) = subst (Contains (ps ++ (x, y) ∷ [])) (pair_same x y a b e.0 e.1) (Contains-push ps (x, y))

    so : (a b : ℕ) → Contains ps (a, b) ⊎ (◌≡◌ {A = ℕ × ℕ} (x, y) (a, b)) → Q a b
    so a b (inl at) = from a b (h.only a b at)
    so a b (inr e) = subst (λ (p : ℕ × ℕ). Q p.0 p.1) e here

-- A number below the next one is below this one or is this one.
next_cases : (b h : ℕ) → b < h + 1 → (b < h) ⊎ (b ≡ h)
next_cases b h l = elim (cases_lt b h) [ inl lt ↦ inl lt | inr ge ↦ inr (omega (arith, l, ge)) ]

-- A pair before the next place of a row is before this place or at it.
next_place : (L : Lattice) (low high a b : ℕ) → IsRowSoFar L low (high + 1) a b →
    IsRowSoFar L low high a b ⊎ ((low ≡ a) × (high ≡ b))
next_place L low high a b q = elim q.before [
  | inl l ↦ inl (record { pair = q.pair; before = inl l })
  | inr r ↦ elim (next_cases b high r.1) [
    | inl l ↦ inl (record { pair = q.pair; before = inr (r.0, l) })
    | inr e ↦ inr (sym r.0, sym e)
  ]
]

-- A pair before this place of a row is before the next place.
later_place : (L : Lattice) (low high a b : ℕ) → IsRowSoFar L low high a b → IsRowSoFar L low (high + 1) a b
later_place L low high a b p = record {
  pair = p.pair;
  before = elim p.before [ inl l ↦ inl l | inr r ↦ inr (r.0, omega (arith, r.1)) ];
}

-- If there is a pair at this place, the next place has one more pair before it.
pub row_more : (L : Lattice) (low high : ℕ) (ps : List (ℕ × ℕ)) → IsClass L low → IsClass L high →
    Covers L low high → HasJust (IsRowSoFar L low high) ps →
    HasJust (IsRowSoFar L low (high + 1)) (ps ++ (low, high) ∷ [])
row_more L low high ps is is' covers =
    just_more (IsRowSoFar L low high) (IsRowSoFar L low (high + 1)) ps low high
    (record { pair = record { low = is; high = is'; covers = covers }; before = inr (refl, omega arith) })
    (next_place L low high) (later_place L low high)

-- If there is no pair at this place, the next place has the same pairs before it.
pub row_same : (L : Lattice) (low high : ℕ) (ps : List (ℕ × ℕ)) → ¬ (Covers L low high) →
    HasJust (IsRowSoFar L low high) ps → HasJust (IsRowSoFar L low (high + 1)) ps
row_same L low high ps none =
    just_same (IsRowSoFar L low high) (IsRowSoFar L low (high + 1)) ps
    (λ a b q. elim (next_place L low high a b q) [
      | inl p ↦ p
      | inr e ↦ absurd (none (subst (λ x. Covers L x high) (sym e.0) (subst (Covers L a) (sym e.1) q.pair.covers)))
    ])
    (later_place L low high)

-- After the last place of a row comes the first place of the next row.
pub row_end : (L : Lattice) (low : ℕ) (ps : List (ℕ × ℕ)) → HasJust (IsRowSoFar L low L.count) ps →
    HasJust (IsRowSoFar L (low + 1) 0) ps
row_end L low ps =
    just_same (IsRowSoFar L low L.count) (IsRowSoFar L (low + 1) 0) ps to from
  where
    to : (a b : ℕ) → IsRowSoFar L (low + 1) 0 a b → IsRowSoFar L low L.count a b
    to a b q = elim q.before [
      | inl l ↦ elim (next_cases a low l) [
        | inl lt ↦ record { pair = q.pair; before = inl lt }
        | inr e ↦ record { pair = q.pair; before = inr (e, q.pair.high) }
      ]
      | inr r ↦ absurd (omega (arith, r.1))
    ]

    from : (a b : ℕ) → IsRowSoFar L low L.count a b → IsRowSoFar L (low + 1) 0 a b
    from a b p = elim p.before [
      | inl l ↦ record { pair = p.pair; before = inl (omega (arith, l)) }
      | inr r ↦ record { pair = p.pair; before = inl (omega (arith, r.0)) }
    ]

-- Before the first row there is no pair.
pub rows_begin : (L : Lattice) → HasJust (IsRowSoFar L 0 0) []
rows_begin L = record {
  each = λ a b q. elim q.before [ inl l ↦ absurd (omega (arith, l)) | inr r ↦ absurd (omega (arith, r.1)) ];
  only = λ a b at. absurd (omega (arith, at.1));
}

-- After the last row the list has all pairs.
pub rows_end : (L : Lattice) (ps : List (ℕ × ℕ)) → HasJust (IsRowSoFar L L.count 0) ps →
    HasJust (IsCoveringPair L) ps
rows_end L ps =
    just_same (IsRowSoFar L L.count 0) (IsCoveringPair L) ps
    (λ a b q. record { pair = q; before = inl q.low }) (λ a b p. p.pair)
