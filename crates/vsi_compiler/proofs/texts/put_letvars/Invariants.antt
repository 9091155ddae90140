use Rattle.std.proofs.Common.{◌≡◌, ◌++◌, map, drop}
use Rattle.vsi_lattice.specs.LatticeView.{names}
use Rattle.vsi_scope.specs.Resolving.{variable}
use Rattle.vsi_compiler.specs.Classes.{letvar_lines}
use Rattle.vsi_compiler.proofs.texts.put_letvars.Given as goal

-- The lines so far and the lines of the remaining declarations are all lines.
abbrev pub invariant-loop-i : goal.invariant-loop-i
invariant-loop-i l =
    l.out.items ++ letvar_lines l.text (names l.lattice) (map variable (drop l.i l.letvars)) (drop l.i l.classes)
    ≡ l.fn.out.items ++ letvar_lines l.text (names l.lattice) (map variable l.letvars) l.classes
