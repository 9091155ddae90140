use Rattle.vsi_lattice.proofs.PairLemmas.{join_from_meet}
use Rattle.vsi_lattice.proofs.TableLemmas.{unjoined_at}
use Rattle.vsi_lattice.proofs.table.PairLatticeClasses.meet.Goals as goal

pub unreachable-requires : goal.unreachable-requires
unreachable-requires c =
    c.args.self.now.lawful.meets c.args.a c.args.b c.requires.first c.requires.second
    (λ m. unjoined_at c.deref.ensures.value c.index.ensures c.index-2.ensures c.in-None.ensures.none
    (join_from_meet c.args.self.now.tables.dual m))
