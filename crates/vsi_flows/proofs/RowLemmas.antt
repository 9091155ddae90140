-- Distances of positions are distances of variables.
use Rattle.std.proofs.Common.{◌≡◌, ◌⊎◌, ℕ, zero, suc, ◌+◌, ◌<◌, ◌≤◌, Bool, true, List, [], ◌∷◌, ◌++◌, map, length, get_or, Some, refl, sym, ap, ◌∙◌, subst, arith, inl, inr}
use Rattle.std.specs.Prelude.{Result, Ok, Err, IfOk}
use Rattle.std.proofs.lemmas.Bool.{cases_lt}
use Rattle.std.proofs.lemmas.List.{get_or_append_left, get_or_at, map-append, length-map}
use Rattle.vsi_lattice.specs.Order.{Lattice, IsLattice}
use Rattle.vsi_types.specs.declared.rules.Profile.{Profile}
use Rattle.vsi_types.specs.declared.rules.Step.{Step}
use Rattle.vsi_types.specs.Security.{Program, IsWellFormed, steps_of}
use Rattle.vsi_types.specs.Walks.{declared_class}
use Rattle.vsi_infer.specs.Distances.{Leads, AreLeast}
use Rattle.vsi_infer.specs.Flowing.{size_of, variable_at, AreFlowsOf}
use Rattle.vsi_infer.specs.Inference.{AreClasses}
use Rattle.vsi_infer.specs.Paths.{IsPath}
use Rattle.vsi_infer.specs.Shortest.{row_of}
use Rattle.vsi_infer.proofs.Bridge.{step_there, at_place}
use Rattle.vsi_infer.proofs.ShortestLemmas.{row_back, step_flow, same_place, source_within}
use Rattle.vsi_flows.specs.Rows.{AreLeastRows, IsRowTo, AreRows, AreRowsOf}

module _ (L : Lattice) (laws : IsLattice L) (P : Profile) (p : Program) (res : IsWellFormed L p)
    (ds : AreClasses L p.declared) (flows : ℕ → ℕ → Bool) (are : AreFlowsOf P p flows) where
  -- The number of variables of the program.
  k : ℕ
  k = size_of p

  -- A walk is a chain of flows.
  path_leads : (a b : ℕ) (w : List Step) → a ≤ size_of p → b ≤ size_of p
      → IsPath (steps_of P p) (variable_at (size_of p) a) w (variable_at (size_of p) b) → Leads flows (length w) a b
  path_leads a b [] la lb e =
      sym (row_back L laws P p res ds flows are a la) ∙ ap (row_of (size_of p)) e
      ∙ row_back L laws P p res ds flows are b lb
  path_leads a b (s ∷ rest) la lb w =
      let f = step_flow L laws P p res ds flows are s w.1 in
      let lt = source_within L laws P p res ds flows are s w.1 in
      let e : a ≡ s.source = same_place L laws P p res ds flows are a s.source la lt (sym w.0) in (
        f.0,
        subst (λ (x : ℕ). flows x f.0 ≡ true) (sym e) f.3,
        path_leads f.0 b rest f.1 lb
            (subst (λ (x : ℕ). IsPath (steps_of P p) x rest (variable_at (size_of p) b)) f.2 w.2),
      )

  -- A chain of flows is a walk.
  leads_path : (n a b : ℕ) → Leads flows n a b
      → (w : List Step) × IsPath (steps_of P p) (variable_at (size_of p) a) w (variable_at (size_of p) b)
      × (length w ≡ n)
  leads_path zero a b e = ([], ap (variable_at (size_of p)) e, refl)
  leads_path (suc n) a b (c, f, r) =
      let fits = are.within a c f in
      let s = step_there (steps_of P p) a (variable_at (size_of p) c) (sym (are.flow a c fits.1) ∙ f) in
      let rest = leads_path n c b r in (
        s.0 ∷ rest.0,
        (
          s.2 ∙ sym (at_place L p res.entries res.limit a fits.0),
          s.1,
          subst (λ (x : ℕ). IsPath (steps_of P p) x rest.0 (variable_at (size_of p) b)) (sym s.3) rest.1,
        ),
        ap suc rest.2,
      )

  -- The row of a position is the row of its variable.
  pub row_is : (b : ℕ) (row : List ℕ) → b ≤ size_of p → AreLeast flows (size_of p + 1) b row
      → IsRowTo P p (variable_at (size_of p) b) row
  row_is b row lb d = record {
    walk = λ a la far. leads_path (get_or row a 0) a b (d.sound a (omega (arith, la)) far);
    fewest = λ a w la q. d.least (length w) a (path_leads a b w la lb q);
  }

  -- The rows of positions are rows of variables.
  pub rows_are : (last : ℕ) (rows : List (List ℕ)) → last ≡ size_of p → AreLeastRows L p flows last rows
      → AreRows L P p rows
  rows_are last rows e h b c le d =
      let lb : b ≤ last = omega (arith, le, e) in
      row_is b (get_or rows b []) le (subst (λ (n : ℕ). AreLeast flows (n + 1) b (get_or rows b [])) e
      (h b c lb (subst (λ (n : ℕ). declared_class L p (variable_at n b) ≡ Some c) (sym e) d)))

-- Flows go between positions.
pub within_last : (P : Profile) (p : Program) (flows : ℕ → ℕ → Bool) → AreFlowsOf P p flows → (last : ℕ)
    → last ≡ size_of p → (a b : ℕ) → flows a b ≡ true → (a < last + 1) × (b < last + 1)
within_last P p flows are last e a b f = let w = are.within a b f in (omega (arith, w.0, e), omega (arith, w.1, e))

-- The rows of the program's flows.
pub rows_of_program : {V E : Type 0} (L : Lattice) (P : Profile) (p : Program) (flows : ℕ → ℕ → Bool)
    → AreFlowsOf P p flows → (last : ℕ) → last ≡ size_of p → (f : V → List (List ℕ)) (o : Result V E)
    → IfOk o (λ v. AreLeastRows L p flows last (f v)) → IfOk o (λ v. AreRowsOf L P p (f v))
rows_of_program L P p flows are last e f (Ok v) h = record {
  flows = flows;
  same = are;
  least = subst (λ (n : ℕ). AreLeastRows L p flows n (f v)) e h;
}
rows_of_program L P p flows are last e f (Err x) h = tt

-- The rows of flows are rows of variables.
pub are_rows : (L : Lattice) → IsLattice L → (P : Profile) (p : Program) → IsWellFormed L p
    → AreClasses L p.declared → (rows : List (List ℕ)) → AreRowsOf L P p rows → AreRows L P p rows
are_rows L laws P p res ds rows are = rows_are L laws P p res ds are.flows are.same (size_of p) rows refl are.least

-- One more row.
pub rows_push : {V : Type 0} (f : V → List ℕ) (rows : List V) (row : V) (Q : ℕ → List ℕ → Type 0)
    → ((b : ℕ) → b < length rows → Q b (get_or (map f rows) b [])) → Q (length rows) (f row)
    → (b : ℕ) → b < length rows + 1 → Q b (get_or (map f (rows ++ row ∷ [])) b [])
rows_push f rows row Q h q b lt =
    subst (λ l. Q b (get_or l b [])) (sym (map-append f rows (row ∷ []))) (by (cases_lt b (length rows)))
  where
    by : (b < length rows) ⊎ (length rows ≤ b) → Q b (get_or (map f rows ++ f row ∷ []) b [])
    by (inl l) = subst (Q b) (sym (get_or_append_left (map f rows) (f row ∷ []) [] b
        (omega (arith, l, length-map rows f)))) (h b l)
    by (inr g) =
        let e : b ≡ length rows = omega (arith, lt, g) in
        subst (Q b) (sym (get_or_at (map f rows) (f row) [] [] b (omega (arith, e, length-map rows f))))
        (subst (λ (x : ℕ). Q x (f row)) (sym e) q)
