use Rattle.std.proofs.Common.{◌≡◌, map, take}
use Rattle.std.specs.List.{flat_map}
use Rattle.vsi_syntax.specs.CommandView.{declared}
use Rattle.vsi_flows.specs.Lines.{raise_line}
use Rattle.vsi_flows.proofs.least.lines_of.Given as goal

abbrev pub invariant-loop-raise : goal.invariant-loop-raise
invariant-loop-raise l =
    l.lines.items ≡ flat_map (raise_line l.lattice l.text (map declared l.globals) l.program)
    (take l.raise-index l.raises)
