use Rattle.std.proofs.Common.{◌≡◌, ◌<◌, ◌≤◌, ◌∙◌, ℕ, ap, subst, arith}
use Rattle.vsi_types.specs.Security.{program}
use Rattle.vsi_infer.specs.Flowing.{size_of, variable_at}
use Rattle.vsi_flows.specs.Table.{IsJoined}
use Rattle.vsi_flows.proofs.FillLemmas.{skipped, pushed, row_done}
use Rattle.vsi_flows.proofs.table.put_pairs.Goals as goal

pub loop-target-preserved-in_default : goal.loop-target-preserved-in_default
loop-target-preserved-in_default g c = λ P are f.
    let L = g.C.Classes.lattice c.args.lattice.now in
    let p = program c.args.program.now in
    let limit : size_of p ≤ 1024 = omega (arith, c.requires.small, c.requires.last) in
    skipped L P p limit c.args.source c.loop-target.target c.loop-target.pairs.items
    (subst (λ (n : ℕ). IsJoined L P p c.args.source (variable_at n c.loop-target.target) → ⊥) c.requires.last
    (c.in_default.ensures.none P are)) (c.loop-target.invariant P are f)

pub loop-target-preserved : goal.loop-target-preserved
loop-target-preserved g c = λ P are f.
    let L = g.C.Classes.lattice c.args.lattice.now in
    let p = program c.args.program.now in
    let limit : size_of p ≤ 1024 = omega (arith, c.requires.small, c.requires.last) in
    let le : c.loop-target.target ≤ size_of p = omega (arith, c.loop-target-test.true, c.requires.last) in
    pushed L P p limit c.args.source c.loop-target.target c.loop-target.pairs.items _ c.in-Some.pair le
    c.in_ok-push.ensures.items c.in-Some.ensures.source
    (c.in-Some.ensures.target ∙ ap (λ (n : ℕ). variable_at n c.loop-target.target) c.requires.last)
    (c.in-Some.ensures.told P are) (c.loop-target.invariant P are f)

pub returns : goal.returns
returns g c = λ P are f.
    let L = g.C.Classes.lattice c.args.lattice.now in
    let p = program c.args.program.now in
    let limit : size_of p ≤ 1024 = omega (arith, c.requires.small, c.requires.last) in
    let past : size_of p < c.loop-target.target = omega (arith, c.loop-target-test.false, c.requires.last) in
    row_done L P p limit c.args.source c.loop-target.target c.loop-target.pairs.items past
    (c.loop-target.invariant P are f)
