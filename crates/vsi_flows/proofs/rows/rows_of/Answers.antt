use Rattle.std.proofs.Common.{◌≡◌, ◌+◌, ◌<◌, ◌∷◌, ◌++◌, [], ℕ, List, Some, map, length, get_or, sym, ap, subst, arith}
use Rattle.std.proofs.lemmas.List.{length_push}
use Rattle.vsi_types.specs.Security.{program}
use Rattle.vsi_types.specs.Walks.{declared_class}
use Rattle.vsi_infer.specs.Flowing.{variable_at}
use Rattle.vsi_infer.specs.FlowRows.{flow_has}
use Rattle.vsi_infer.specs.Distances.{AreLeast}
use Rattle.vsi_flows.proofs.RowLemmas.{rows_push}
use Rattle.vsi_flows.proofs.rows.rows_of.Goals as goal

pub loop-place-preserved-in_default : goal.loop-place-preserved-in_default
loop-place-preserved-in_default g c =
    let L = g.C.Classes.lattice c.args.lattice.now in
    let p = program c.args.program.now in
    let rows = c.loop-place.rows.items in
    let row = c.new.result in
    let items = c.in_ok-push.ensures.items in
    let Q : ℕ → List ℕ → Type 0 = λ b r. (d : ℕ) → declared_class L p (variable_at c.args.last b) ≡ Some d
    → AreLeast (λ x y. flow_has c.args.flow.now.rows.items y x) (c.args.last + 1) b r in
    let here : Q (length rows) row.items = subst (λ (b : ℕ). Q b row.items) (sym c.loop-place.invariant.count)
    (λ d e. absurd cc) in
    record {
      count = omega (arith, ap length items, length_push rows row, c.loop-place.invariant.count);
      each = λ b lt.
          let less : b < length rows + 1 = omega (arith, lt, ap length items, length_push rows row) in
          subst (λ l. Q b (get_or (map (λ r. r.items) l) b [])) (sym items)
          (rows_push (λ r. r.items) rows row Q c.loop-place.invariant.each here b less);
    }

pub loop-place-preserved : goal.loop-place-preserved
loop-place-preserved g c =
    let L = g.C.Classes.lattice c.args.lattice.now in
    let p = program c.args.program.now in
    let rows = c.loop-place.rows.items in
    let row = c.in_ok-row.row in
    let items = c.in_ok-push-2.ensures.items in
    let Q : ℕ → List ℕ → Type 0 = λ b r. (d : ℕ) → declared_class L p (variable_at c.args.last b) ≡ Some d
    → AreLeast (λ x y. flow_has c.args.flow.now.rows.items y x) (c.args.last + 1) b r in
    let here : Q (length rows) row.items = subst (λ (b : ℕ). Q b row.items) (sym c.loop-place.invariant.count)
    (λ d e. c.in_ok-row.ensures) in
    record {
      count = omega (arith, ap length items, length_push rows row, c.loop-place.invariant.count);
      each = λ b lt.
          let less : b < length rows + 1 = omega (arith, lt, ap length items, length_push rows row) in
          subst (λ l. Q b (get_or (map (λ r. r.items) l) b [])) (sym items)
          (rows_push (λ r. r.items) rows row Q c.loop-place.invariant.each here b less);
    }

pub returns : goal.returns
returns g c = λ b d le e.
    let lt : b < length c.loop-place.rows.items =
    omega (arith, le, c.loop-place.invariant.count, c.loop-place-test.false) in
    c.loop-place.invariant.each b lt d e
