use Rattle.std.proofs.Common.{arith}
use Rattle.vsi_infer.proofs.FlowLemmas.{tested, no_flow_past, no_flow_outside}
use Rattle.vsi_infer.proofs.flows.has_bit.Goals as goal

pub returns-then-bit-ge1024 : goal.returns-then-bit-ge1024
returns-then-bit-ge1024 c = no_flow_past c.args.rows.now c.args.row c.args.bit (omega arith)

pub returns-then-place-rows : goal.returns-then-place-rows
returns-then-place-rows c = tested c.args.rows.now c.args.row c.args.bit (omega arith)

pub returns-else-place-rows : goal.returns-else-place-rows
returns-else-place-rows c = no_flow_outside c.args.rows.now c.args.row c.args.bit (omega arith)
