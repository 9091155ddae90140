use Rattle.std.proofs.Common.{arith, ◌≡◌, length}
use Rattle.vsi_client.proofs.Lining.{line_start_more, line_start_none}
use Rattle.vsi_client.proofs.places.line_start.Goals as goal

pub loop-left-preserved : goal.loop-left-preserved
loop-left-preserved c =
    grind (
      arith,
      line_start_more c.loop-left.left c.loop-left.rest.now (omega (arith, c.loop-left-test.true)),
      c.loop-left.invariant,
      c.line_size-size.ensures.size,
      c.line_size-size.ensures.within,
      c.after-rest.ensures.rest,
      c.after-rest.ensures.left,
    )

pub returns-else-not-is_empty-clause-start : goal.returns-else-not-is_empty-clause-start
returns-else-not-is_empty-clause-start c =
    grind (
      arith,
      c.loop-left.invariant,
      λ (e : length c.loop-left.rest.now ≡ 0). line_start_none c.loop-left.left c.loop-left.rest.now e,
      c.is_empty.ensures,
      c.if-not-is_empty.false,
    )
