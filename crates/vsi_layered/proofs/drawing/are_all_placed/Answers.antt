use Rattle.std.proofs.Common.{arith, ◌<◌, length, refl}
use Rattle.vsi_layered.proofs.Sizes.{framed_more, sized_more}
use Rattle.vsi_layered.proofs.drawing.are_all_placed.Goals as goal

pub loop-node-preserved : goal.loop-node-preserved
loop-node-preserved c =
    let nodes = c.args.nodes.now in
    let places = c.args.places.now in
    let there = c.loop-node-test.true in
    let beside : c.loop-node.node < length places = omega (arith, there, c.requires) in (
      sized_more nodes places c.loop-node.node _ _ there beside (c.if-not-has_size.ensures refl)
          c.loop-node.invariant.0,
      framed_more nodes places c.args.groups.now c.loop-node.node _ _ _ there beside
          (omega (arith, c.if-groups-nodes.false)) (c.if-not-is_within.ensures refl) c.loop-node.invariant.1,
    )

pub returns-clause-sized : goal.returns-clause-sized
returns-clause-sized c = λ t k n d lt. c.loop-node.invariant.0 k n d (omega (arith, lt, c.loop-node-test.false))

pub returns-clause-within : goal.returns-clause-within
returns-clause-within c = λ t k n d lt. c.loop-node.invariant.1 k n d (omega (arith, lt, c.loop-node-test.false))
