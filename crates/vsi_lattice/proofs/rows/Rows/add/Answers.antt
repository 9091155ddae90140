use Rattle.std.proofs.Common.{arith, sym}
use Rattle.vsi_lattice.proofs.RowLemmas.{adds_written}
use Rattle.vsi_lattice.proofs.rows.Rows.add.Goals as goal

pub returns-clause-above : goal.returns-clause-above
returns-clause-above c =
    adds_written c.args.self.now.above.len c.args.self.now.above.items _ c.add_pair.new.rows _ _
    c.deref_mut.ensures.value c.add_pair.ensures (omega arith) (sym c.args.self.now.above.ok.0)

pub returns-clause-below : goal.returns-clause-below
returns-clause-below c =
    adds_written c.args.self.now.below.len c.args.self.now.below.items _ c.add_pair-2.new.rows _ _
    c.deref_mut-2.ensures.value c.add_pair-2.ensures (omega arith) (sym c.args.self.now.below.ok.0)
