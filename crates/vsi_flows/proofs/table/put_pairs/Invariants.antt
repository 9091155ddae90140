use Rattle.std.proofs.Common.{map}
use Rattle.vsi_types.specs.declared.rules.Profile.{Profile}
use Rattle.vsi_types.specs.Security.{program}
use Rattle.vsi_flows.specs.Rows.{AreRows}
use Rattle.vsi_flows.specs.Filling.{IsFilled}
use Rattle.vsi_flows.proofs.table.put_pairs.Given as goal

abbrev pub invariant-loop-target : goal.invariant-loop-target
invariant-loop-target g l =
    (P : Profile) → AreRows (g.C.Classes.lattice l.lattice) P (program l.program) (map (λ r. r.items) l.rows)
    → IsFilled (g.C.Classes.lattice l.lattice) P (program l.program) l.source 0 l.initial.pairs.items
    → IsFilled (g.C.Classes.lattice l.lattice) P (program l.program) l.source l.target l.pairs.items
