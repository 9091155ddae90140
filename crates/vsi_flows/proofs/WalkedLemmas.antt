-- A pair of the table has a walk down the row of its target.
use Rattle.std.proofs.Common.{◌≡◌, ℕ, ◌+◌, Bool, List, [], ◌∷◌, ◌++◌, length, refl, sym, ap, ◌∙◌, subst, arith}
use Rattle.std.proofs.lemmas.List.{map_push}
use Rattle.std.proofs.lemmas.List.Elements.{All-nil, All-push}
use Rattle.vsi_lattice.specs.Order.{Lattice, IsLattice}
use Rattle.vsi_types.specs.declared.rules.Profile.{Profile}
use Rattle.vsi_types.specs.declared.rules.Step.{Step}
use Rattle.vsi_types.specs.Security.{Program, IsWellFormed, steps_of}
use Rattle.vsi_infer.specs.Distances.{AreLeast}
use Rattle.vsi_infer.specs.Flowing.{size_of, variable_at, AreFlowsOf}
use Rattle.vsi_infer.specs.Inference.{AreClasses}
use Rattle.vsi_infer.specs.Paths.{IsPath}
use Rattle.vsi_infer.specs.Shortest.{row_of, FindsWalks}
use Rattle.vsi_infer.specs.declared.shortest.WalksTo.{WalksTo}
use Rattle.vsi_infer.proofs.ShortestLemmas.{row_back, source_within, path_place}
use Rattle.vsi_flows.specs.declared.table.Pair.{Pair}
use Rattle.vsi_flows.specs.Table.{IsTold}
use Rattle.vsi_flows.specs.Text.{IsWalkOf}
use Rattle.vsi_flows.specs.Walks.{FindsPair}
use Rattle.vsi_flows.proofs.WalkLemmas.{found_at}
use Rattle.vsi_flows.specs.declared.walked.WalkedPair.{WalkedPair}
use Rattle.vsi_flows.specs.Refused.{AreWalked}

module _ (L : Lattice) (laws : IsLattice L) (P : Profile) (p : Program) (res : IsWellFormed L p)
    (ds : AreClasses L p.declared) (flows : ℕ → ℕ → Bool) (are : AreFlowsOf P p flows) where
  -- In the row of its target, a pair of the table has its walk.
  pub finds_pair : (r : Pair) → IsTold L P p r → (b : ℕ) → b ≡ row_of (size_of p) r.target → (row : List ℕ)
      → AreLeast flows (size_of p + 1) b row → (w : WalksTo) → FindsWalks (steps_of P p) (size_of p) row w
      → FindsPair (steps_of P p) r w
  finds_pair r told b at row d w f = by told.steps.walk told.steps.path told.steps.count
    where
      by : (u : List Step) → IsPath (steps_of P p) r.source u r.target → length u ≡ r.steps
          → FindsPair (steps_of P p) r w
      by [] q n = absurd (told.apart q)
      by (s ∷ rest) q n =
          let lt = source_within L laws P p res ds flows are s q.1 in
          let i = path_place L laws P p res ds flows are r.source r.target s rest q in
          let same : b ≡ i.0 =
          at ∙ ap (row_of (size_of p)) i.2 ∙ row_back L laws P p res ds flows are i.0 i.1 in
          found_at L laws P p res ds flows are b row d (omega (arith, same, i.1)) r
          (i.2 ∙ ap (variable_at (size_of p)) (sym same))
          (omega (arith, lt, q.0)) told (omega (arith, n)) w f

  -- The same, with the row and its last place given by equations.
  pub finds_row : (r : Pair) → IsTold L P p r → (last : ℕ) → last ≡ size_of p → (b : ℕ) → b ≡ row_of last r.target
      → (items row : List ℕ) → AreLeast flows (last + 1) b items → row ≡ items → (w : WalksTo)
      → FindsWalks (steps_of P p) last row w → FindsPair (steps_of P p) r w
  finds_row r told last e b at items row d same w f =
      finds_pair r told b (at ∙ ap (λ (n : ℕ). row_of n r.target) e) items
      (subst (λ (n : ℕ). AreLeast flows (n + 1) b items) e d) w
      (subst (λ (l : List ℕ). FindsWalks (steps_of P p) (size_of p) l w) same
      (subst (λ (n : ℕ). FindsWalks (steps_of P p) n row w) e f))

-- One more pair has a walk.
pub walked_more : (ss : List Step) (pairs : List Pair) (walked : List WalkedPair) (w : WalkedPair) → AreWalked ss pairs walked
    → IsWalkOf ss w.pair w.steps.items → AreWalked ss (pairs ++ w.pair ∷ []) (walked ++ w ∷ [])
walked_more ss pairs walked w a h = record {
  kept = map_push (λ v. v.pair) walked w ∙ ap (λ l. l ++ w.pair ∷ []) a.kept;
  walks = All-push (λ v. IsWalkOf ss v.pair v.steps.items) walked w a.walks h;
}

-- No pairs have no walks.
pub walked_none : (ss : List Step) (walked : List WalkedPair) → walked ≡ [] → AreWalked ss [] walked
walked_none ss walked e = subst (AreWalked ss []) (sym e) (record {
  kept = refl;
  walks = All-nil (λ v. IsWalkOf ss v.pair v.steps.items);
})
