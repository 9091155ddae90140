use Rattle.std.proofs.Common.{◌≡◌, ◌≤◌, ℕ, map, subst, arith}
use Rattle.vsi_lattice.specs.Order.{IsLattice}
use Rattle.vsi_types.specs.Security.{program}
use Rattle.vsi_types.proofs.Tables.{resolved_program}
use Rattle.vsi_infer.specs.Flowing.{size_of}
use Rattle.vsi_flows.specs.Filling.{IsFilled}
use Rattle.vsi_flows.proofs.RowLemmas.{are_rows}
use Rattle.vsi_flows.proofs.FillLemmas.{start}
use Rattle.vsi_flows.proofs.VerdictLemmas.{filled_table}
use Rattle.vsi_flows.proofs.table.pairs_of.Goals as goal

pub loop-source-init : goal.loop-source-init
loop-source-init g c = λ P are.
    let L = g.C.Classes.lattice c.args.lattice.now in
    let p = program c.args.program.now in
    let limit : size_of p ≤ 1024 = omega (arith, c.declarations-last.ensures.count, c.declarations-last.ensures.small)
    in start L P p limit _ c.new-pairs.ensures.items

pub loop-source-preserved : goal.loop-source-preserved
loop-source-preserved g c = λ P are.
    let L = g.C.Classes.lattice c.args.lattice.now in
    let p = program c.args.program.now in
    let laws : IsLattice L = g.met.C.Classes.laws c.args.lattice.now in
    let res = resolved_program L c.args.program.now c.requires.globals c.body-body.ensures.resolved in
    c.in_ok-put_pairs.ensures P (are_rows L laws P p res c.requires.declared (map (λ r. r.items) c.args.rows.now) are)
    (c.loop-source.invariant P are)

pub returns : goal.returns
returns g c = λ P are.
    let L = g.C.Classes.lattice c.args.lattice.now in
    let p = program c.args.program.now in
    let laws : IsLattice L = g.met.C.Classes.laws c.args.lattice.now in
    let res = resolved_program L c.args.program.now c.requires.globals c.body-body.ensures.resolved in
    let e : c.loop-source.source ≡ size_of p =
    omega (arith, c.loop-source-test.false, c.declarations-last.ensures.count) in
    filled_table L laws P p res c.requires.declared are.flows are.same c.loop-source.pairs.items
    (subst (λ (n : ℕ). IsFilled L P p n 0 c.loop-source.pairs.items) e (c.loop-source.invariant P are))
