use Rattle.vsi_lattice.proofs.TableLemmas.{unjoined_at}
use Rattle.vsi_lattice.proofs.table.PairLatticeClasses.join.Goals as goal

pub unreachable-requires : goal.unreachable-requires
unreachable-requires c =
    c.args.self.now.lawful.joins c.args.a c.args.b c.requires.first c.requires.second
    (unjoined_at c.deref.ensures.value c.index.ensures c.index-2.ensures c.in-None.ensures.none)
