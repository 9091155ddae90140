use Rattle.std.proofs.Common.{◌≡◌, map, take}
use Rattle.vsi_syntax.specs.CommandView.{declared}
use Rattle.vsi_syntax.specs.Canon.{canon_globals}
use Rattle.vsi_syntax.proofs.printer.print.Given as goal

abbrev pub invariant-loop-g : goal.invariant-loop-g
invariant-loop-g l = l.out.items ≡ canon_globals (map declared (take l.g-index l.globals))
