-- Rows of distances decide which variables reach a variable.
use Rattle.std.proofs.Common.{◌≡◌, ◌↔◌, ℕ, ◌+◌, ◌<◌, ◌≤◌, cond, Bool, true, false, List, [], ◌∷◌, get_or, sym, ap, ◌∙◌, subst, arith, inl, inr, eq-eqb}
use Rattle.std.proofs.lemmas.Bool.{cases_lt, false≢true}
use Rattle.vsi_lattice.specs.Order.{Lattice, IsLattice}
use Rattle.vsi_types.specs.declared.rules.Profile.{Profile}
use Rattle.vsi_types.specs.declared.rules.Step.{Step}
use Rattle.vsi_types.specs.Steps.{sink}
use Rattle.vsi_types.specs.Security.{Program, IsWellFormed, steps_of}
use Rattle.vsi_infer.specs.Distances.{AreLeast}
use Rattle.vsi_infer.specs.Flowing.{size_of, variable_at, AreFlowsOf}
use Rattle.vsi_infer.specs.Inference.{AreClasses}
use Rattle.vsi_infer.specs.Paths.{IsPath}
use Rattle.vsi_infer.specs.Shortest.{row_of}
use Rattle.vsi_infer.proofs.Bridge.{at_place}
use Rattle.vsi_infer.proofs.ShortestLemmas.{path_place, source_within}
use Rattle.vsi_flows.specs.Rows.{IsRowTo}
use Rattle.vsi_flows.proofs.RowLemmas.{row_is}
use Rattle.vsi_flows.specs.Related.{LeadsTo, IsSource, IsTarget}

-- A test of the distance of a variable with one property decides whether the variable has another one, too.
pub decided : {A B N : Type 0} (r : Bool) → (r ≡ true ↔ N) → A → (N ↔ B) → (r ≡ true) ↔ (A × B)
decided r t a d = (λ e. (a, d.0 (t.0 e)), λ h. t.1 (d.1 h.1))

-- A variable without the first property hasn't both.
pub undecided : {A B : Type 0} (r : Bool) → r ≡ false → (r ≡ true ↔ A) → (false ≡ true) ↔ (A × B)
undecided r e d = (λ t. absurd (false≢true t), λ h. absurd (false≢true (sym e ∙ d.1 h.0)))

-- A variable with a distance in a row reaches the row's variable, and the others don't.
pub near_source : (P : Profile) (p : Program) (last : ℕ) → last ≡ size_of p → (v k : ℕ) (row : List ℕ) → k ≤ last
    → IsRowTo P p v row → (get_or row k 0 < 65535) ↔ LeadsTo P p (variable_at last k) v
near_source P p last e v k row le r =
    subst (λ (n : ℕ). (get_or row k 0 < 65535) ↔ LeadsTo P p (variable_at n k) v) (sym e) (
      λ near. (let w = r.walk k (omega (arith, le, e)) near in (w.0, w.1)),
      λ led. (r.fewest k led.0 (omega (arith, le, e)) led.1).0,
    )

module _ (L : Lattice) (laws : IsLattice L) (P : Profile) (p : Program) (res : IsWellFormed L p)
    (ds : AreClasses L p.declared) (flows : ℕ → ℕ → Bool) (are : AreFlowsOf P p flows) where
  -- The row of least flows to a position is the row of its variable.
  pub row_at : (last : ℕ) → last ≡ size_of p → (b : ℕ) (row : List ℕ) → b ≤ last → AreLeast flows (last + 1) b row
      → IsRowTo P p (variable_at last b) row
  row_at last e b row le d =
      subst (λ (n : ℕ). IsRowTo P p (variable_at n b) row) (sym e)
      (row_is L laws P p res ds flows are b row (omega (arith, le, e))
      (subst (λ (n : ℕ). AreLeast flows (n + 1) b row) e d))

  -- The row of least flows to the position of a variable is the row of the variable.
  pub row_to : (last : ℕ) → last ≡ size_of p → (v i : ℕ) (row : List ℕ) → i ≡ row_of last v → row_of last v ≤ last
      → variable_at last (row_of last v) ≡ v → AreLeast flows (last + 1) i row → IsRowTo P p v row
  row_to last e v i row at le there d =
      subst (λ (x : ℕ). IsRowTo P p x row) there
      (row_at last e (row_of last v) row le (subst (λ (x : ℕ). AreLeast flows (last + 1) x row) at d))

  -- A source has a position.
  pub source_placed : (last : ℕ) → last ≡ size_of p → (v a : ℕ) → IsSource L P p v a
      → (k : ℕ) × (k ≤ last) × (a ≡ variable_at last k)
  source_placed last e v a h =
      subst (λ (n : ℕ). (k : ℕ) × (k ≤ n) × (a ≡ variable_at n k)) (sym e) (by h.1.0 h.1.1)
    where
      by : (w : List Step) → IsPath (steps_of P p) a w v
          → (k : ℕ) × (k ≤ size_of p) × (a ≡ variable_at (size_of p) k)
      by [] q = absurd (h.0.0 q)
      by (s ∷ rest) q =
          let lt = source_within L laws P p res ds flows are s q.1 in
          let here : a < size_of p = omega (arith, lt, q.0) in
          (a, omega (arith, here), sym (at_place L p res.entries res.limit a here))

  -- A target has a position.
  pub target_placed : (last : ℕ) → last ≡ size_of p → (v b : ℕ) → IsTarget L P p v b
      → (k : ℕ) × (k ≤ last) × (b ≡ variable_at last k)
  target_placed last e v b h =
      subst (λ (n : ℕ). (k : ℕ) × (k ≤ n) × (b ≡ variable_at n k)) (sym e) (by h.1.0 h.1.1)
    where
      by : (w : List Step) → IsPath (steps_of P p) v w b
          → (k : ℕ) × (k ≤ size_of p) × (b ≡ variable_at (size_of p) k)
      by [] q = absurd (h.0.0 (sym q))
      by (s ∷ rest) q = path_place L laws P p res ds flows are v b s rest q

  -- A number that no variable has has no source.
  pub no_source : (v : ℕ) → size_of p ≤ v → (v ≡ sink → ⊥) → (a : ℕ) → IsSource L P p v a → ⊥
  no_source v ge n a h = by h.1.0 h.1.1
    where
      by : (w : List Step) → IsPath (steps_of P p) a w v → ⊥
      by [] q = h.0.0 q
      by (s ∷ rest) q =
          let i = path_place L laws P p res ds flows are a v s rest q in
          elim (cases_lt i.0 (size_of p)) [
            | inl lt ↦ (let e : v ≡ i.0 = i.2 ∙ at_place L p res.entries res.limit i.0 lt in
                omega (arith, e, lt, ge))
            | inr past ↦ (let e : i.0 ≡ size_of p = omega (arith, i.1, past) in
                n (i.2 ∙ ap (λ t. cond t sink i.0) (eq-eqb i.0 (size_of p) e)))
          ]

  -- A number that no variable has has no target.
  pub no_target : (v : ℕ) → size_of p ≤ v → (b : ℕ) → IsTarget L P p v b → ⊥
  no_target v ge b h = by h.1.0 h.1.1
    where
      by : (w : List Step) → IsPath (steps_of P p) v w b → ⊥
      by [] q = h.0.0 (sym q)
      by (s ∷ rest) q =
          let lt = source_within L laws P p res ds flows are s q.1 in
          omega (arith, lt, q.0, ge)
