use Rattle.std.proofs.Common.{rules}
use Rattle.vsi_lattice.specs.LatticeView.{names, order}
use Rattle.vsi_report.proofs.CoveringLemmas.{rows_end}
use Rattle.vsi_report.proofs.NameLemmas.{name_more}
use Rattle.vsi_report.proofs.dot.order_of.Goals as goal

pub loop-number-preserved : goal.loop-number-preserved
loop-number-preserved c =
    name_more c.loop-number.names.items c.push.new.self.items (names c.args.lattice.now) c.loop-number.number
    c.in_ok-to_vec.field-0 c.name.result.now (rw c.at.ensures at c.name.ensures.place) (search rules)
    c.in_ok-push.ensures.items c.loop-number.invariant

pub returns-clause-covers : goal.returns-clause-covers
returns-clause-covers c = rows_end (order c.args.lattice.now) c.loop-low.covers.items (search rules)
