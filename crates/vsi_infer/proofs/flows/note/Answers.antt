use Rattle.std.proofs.Common.{arith, refl}
use Rattle.vsi_infer.proofs.FlowLemmas.{noted}
use Rattle.vsi_infer.proofs.flows.note.Goals as goal

pub returns-clause-bits : goal.returns-clause-bits
returns-clause-bits c a b = noted c.args.rows.now _ c.args.row c.args.bit c.requires.bit (omega arith) refl b a
