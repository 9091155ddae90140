use Rattle.std.proofs.Common.{take}
use Rattle.vsi_project.specs.Names as names
use Rattle.vsi_project.proofs.reader.same_in_c.Given as goal

-- No earlier program has the name in C.
abbrev pub invariant-loop-program : goal.invariant-loop-program
invariant-loop-program l = names.AreOthers (names.in_c l.name) (take l.program-index l.programs)
