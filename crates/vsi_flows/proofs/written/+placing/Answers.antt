use Rattle.std.proofs.Common.{arith}
use Rattle.vsi_syntax.proofs.Canonical.{part_depth}
use Rattle.vsi_flows.proofs.written.+placing.Goals as goal

pub put_all-put_each-requires : goal.put_all-put_each-requires
put_all-put_each-requires t c =
    let d = part_depth c.args.body.now c.loop-statement.statement-index c.statement-item.result
    c.loop-statement-test.true c.statement-item.is in
    omega (arith, d)
