use Rattle.std.proofs.Common.{◌≡◌, drop, map}
use Rattle.vsi_conform.specs.Reading.{cycle}
use Rattle.vsi_documents.specs.Roles.{table_of}
use Rattle.vsi_documents.proofs.roles.table_of.Given as goal

-- The table of the class among the remaining ones is that among all.
abbrev pub invariant-loop-cycle : goal.invariant-loop-cycle
invariant-loop-cycle l =
    table_of (map cycle (drop l.cycle-index l.cycles)) l.class ≡ table_of (map cycle l.cycles) l.class
