use Rattle.std.proofs.Common.{map}
use Rattle.vsi_types.specs.declared.rules.Profile.{Profile}
use Rattle.vsi_types.specs.Security.{program}
use Rattle.vsi_flows.specs.Rows.{AreRowsOf}
use Rattle.vsi_flows.specs.Filling.{IsFilled}
use Rattle.vsi_flows.proofs.table.pairs_of.Given as goal

abbrev pub invariant-loop-source : goal.invariant-loop-source
invariant-loop-source g l =
    (P : Profile) → AreRowsOf (g.C.Classes.lattice l.lattice) P (program l.program) (map (λ r. r.items) l.rows)
    → IsFilled (g.C.Classes.lattice l.lattice) P (program l.program) l.source 0 l.pairs.items
