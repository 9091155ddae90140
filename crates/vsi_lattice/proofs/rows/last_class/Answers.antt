use Rattle.vsi_lattice.proofs.JoinLemmas.{last_turn}
use Rattle.vsi_lattice.proofs.rows.last_class.Goals as goal

pub unreachable-requires : goal.unreachable-requires
unreachable-requires c = let h =
    c.requires.common c.loop-a.last c.loop-a.a c.loop-a.invariant.within c.loop-a-test.true in
    c.in-None.ensures.none h.0 h.1 h.2

pub loop-a-preserved : goal.loop-a-preserved
loop-a-preserved c = record {
  within = c.in-Some.ensures.some.0;
  above = last_turn _ _ _ _ c.requires.order c.in-Some.ensures.some.0 c.in-Some.ensures.some.1
      c.loop-a.invariant.above;
}
