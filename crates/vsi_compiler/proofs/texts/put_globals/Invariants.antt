use Rattle.std.proofs.Common.{◌≡◌, ◌++◌, map, drop}
use Rattle.vsi_syntax.specs.CommandView.{declared}
use Rattle.vsi_compiler.specs.Classes.{global_lines}
use Rattle.vsi_compiler.proofs.texts.put_globals.Given as goal

-- The lines so far and the lines of the remaining declarations are all lines.
abbrev pub invariant-loop-global : goal.invariant-loop-global
invariant-loop-global l =
    l.out.items ++ global_lines l.text (map declared (drop l.global-index l.globals))
    ≡ l.fn.out.items ++ global_lines l.text (map declared l.globals)
