use Rattle.vsi_lattice.specs.Shape.{pair_of}
use Rattle.vsi_lattice.proofs.ShapeLemmas.{so_far_push}
use Rattle.vsi_lattice.proofs.reader.pairs.Goals as goal

pub loop-value-preserved : goal.loop-value-preserved
loop-value-preserved c =
    so_far_push (λ p. (p.0.now, p.1.now)) pair_of c.args.array.now c.loop-value.found.items c.push.new.self.items
    c.in-Some.both c.loop-value.value-index c.value-item.result c.loop-value-test.true c.value-item.is
    c.in-Some.ensures
    c.in_ok-push.ensures.items c.loop-value.invariant
