use Rattle.std.proofs.Common.{◌≡◌, ◌∙◌, ℕ, Bool, ◌+◌, ◌∷◌, ◌++◌, [], List, refl, ap, sym, subst, take}
use Rattle.std.proofs.lemmas.List.{take_more}
use Rattle.std.proofs.lemmas.List.Elements.{All-get_or}
use Rattle.vsi_types.specs.Security.{program, steps_of}
use Rattle.vsi_types.proofs.Tables.{resolved_program}
use Rattle.vsi_infer.specs.Distances.{AreLeast}
use Rattle.vsi_infer.specs.FlowRows.{flow_has}
use Rattle.vsi_infer.specs.Paths.{IsPath}
use Rattle.vsi_infer.specs.Shortest.{row_of}
use Rattle.vsi_flows.specs.declared.table.Pair.{Pair}
use Rattle.vsi_flows.specs.declared.walked.WalkedPair.{WalkedPair}
use Rattle.vsi_flows.specs.Refused.{AreWalked}
use Rattle.vsi_flows.specs.Table.{IsTold}
use Rattle.vsi_flows.specs.Text.{IsWalkOf}
use Rattle.vsi_flows.specs.Walks.{FindsPair}
use Rattle.vsi_flows.proofs.WalkedLemmas.{finds_row, walked_more}
use Rattle.vsi_flows.proofs.walked.walks_of.Given.{Over}
use Rattle.vsi_flows.proofs.walked.walks_of.Goals.{After-walks_to-walks}
use Rattle.vsi_flows.proofs.walked.walks_of.Goals as goal

-- The walks down the row of the target find the walk of the pair.
found : (g : Over) (c : After-walks_to-walks g)
    → FindsPair (steps_of c.args.profile (program c.args.program.now)) c.pair-item.result c.walks_to-walks.result
found g c =
    let L = g.C.Classes.lattice c.args.lattice.now in
    let P = c.args.profile in
    let p = program c.args.program.now in
    let pairs = c.args.pairs.now in
    let pair = c.pair-item.result in
    let last = c.declarations-last.result in
    let fl : ℕ → ℕ → Bool = λ a b. flow_has c.in_ok-flow.flow.rows.items b a in
    let told : IsTold L P p pair =
    subst (IsTold L P p) (sym c.pair-item.is)
    (All-get_or (IsTold L P p) pairs c.loop-pair.pair-index pair c.loop-pair-test.true c.requires.told) in
    finds_row L (g.met.C.Classes.laws c.args.lattice.now) P p
    (resolved_program L c.args.program.now c.requires.globals c.body-body.ensures.resolved) c.requires.declared fl
    c.in_ok-flow.ensures pair told last c.declarations-last.ensures.count (row_of last pair.target) refl
    c.in_ok-row.row.items c.deref-in-loop-pair.result.now
    (subst (λ (n : ℕ). AreLeast fl (n + 1) (row_of n pair.target) c.in_ok-row.row.items)
    (sym c.declarations-last.ensures.count) c.in_ok-row.ensures)
    c.deref-in-loop-pair.ensures.value c.walks_to-walks.result (c.walks_to-walks.ensures (steps_of P p) c.in_ok-known.ensures)

pub walk_from-requires : goal.walk_from-requires
walk_from-requires g c =
    let f = found g (goal.at.walk_from-requires g c).After-walks_to-walks in
    record { known = f.known; down = f.down; at = f.away; small = f.small }

pub loop-pair-preserved : goal.loop-pair-preserved
loop-pair-preserved g c =
    let ss = steps_of c.args.profile (program c.args.program.now) in
    let pairs = c.args.pairs.now in
    let i = c.loop-pair.pair-index in
    let pair = c.pair-item.result in
    let items = c.in_ok-steps.steps.items in
    let one : WalkedPair = record { pair = pair; steps = c.in_ok-steps.steps } in
    let more : take (i + 1) pairs ≡ take i pairs ++ pair ∷ [] =
    take_more pairs i pair c.loop-pair-test.true ∙ ap (λ x. take i pairs ++ x ∷ []) (sym c.pair-item.is) in
    let a = c.in_ok-steps.ensures in
    let walk : IsWalkOf ss pair items =
    record {
      path = subst (IsPath ss pair.source items)
          ((found g (goal.at.loop-pair-preserved g c).After-walks_to-walks).arrives items a.end a.path a.size a.level) a.path;
      count = a.size;
    } in
    subst (λ (ps : List Pair). AreWalked ss ps c.push-in-loop-pair.new.self.items) (sym more)
    (subst (AreWalked ss (take i pairs ++ pair ∷ [])) (sym c.in_ok-push-2.ensures.items)
    (walked_more ss (take i pairs) c.loop-pair.entries.items one c.loop-pair.invariant walk))
