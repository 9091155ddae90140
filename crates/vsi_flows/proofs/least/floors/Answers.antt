use Rattle.std.proofs.Common.{◌≡◌, ◌∙◌, ℕ, arith}
use Rattle.vsi_lattice.specs.Order.{IsLattice}
use Rattle.vsi_types.specs.Security.{program}
use Rattle.vsi_infer.specs.Flowing.{size_of}
use Rattle.vsi_flows.proofs.RaiseRowLemmas.{floors_start, floors_more}
use Rattle.vsi_flows.proofs.least.floors.Goals as goal

pub loop-v-init : goal.loop-v-init
loop-v-init g c =
    let L = g.C.Classes.lattice c.args.lattice.now in
    let laws : IsLattice L = g.met.C.Classes.laws c.args.lattice.now in
    floors_start L laws (program c.args.program.now) c.requires.globals c.requires.declared _ c.new-floors.ensures.items

pub loop-v-preserved : goal.loop-v-preserved
loop-v-preserved g c =
    let L = g.C.Classes.lattice c.args.lattice.now in
    let laws : IsLattice L = g.met.C.Classes.laws c.args.lattice.now in
    floors_more L laws (program c.args.program.now) c.requires.globals c.requires.declared c.loop-v.v
    c.loop-v.floors.items _ c.floor_of.result c.loop-v.invariant c.floor_of.ensures c.in_ok-push.ensures.items

pub returns-clause-floors : goal.returns-clause-floors
returns-clause-floors g c =
    let e : c.loop-v.v ≡ size_of (program c.args.program.now) =
    omega (arith, c.loop-v-test.false, c.declarations-count.ensures.count) in
    record {
      len = c.loop-v.invariant.len ∙ e;
      each = λ v lt. c.loop-v.invariant.each v (omega (arith, lt, e));
    }
