use Rattle.std.proofs.Common.{take}
use Rattle.vsi_project.specs.Names as names
use Rattle.vsi_project.proofs.reader.same_names.Given as goal

-- No two earlier programs have one name in C.
abbrev pub invariant-loop-i : goal.invariant-loop-i
invariant-loop-i l = names.AreApart (take l.i l.programs)
