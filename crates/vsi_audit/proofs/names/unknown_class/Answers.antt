use Rattle.std.proofs.Common.{rules}
use Rattle.vsi_lattice.specs.LatticeView.{class_named}
use Rattle.vsi_audit.proofs.Standing.{unknown_at}
use Rattle.vsi_audit.proofs.names.unknown_class.Goals as goal

pub returns-in-None : goal.returns-in-None
returns-in-None c =
    unknown_at (class_named c.args.lattice.now) c.args.globals.now c.loop-i.i c.index-globals-i.result
    c.loop-i-test.true c.index-globals-i.is (search rules)
