use Rattle.std.proofs.Common.{◌≡◌, ◌++◌, take}
use Rattle.std.specs.List.{flat_map}
use Rattle.vsi_image.specs.Fields.{globals}
use Rattle.vsi_image.specs.Listing.{global_line}
use Rattle.vsi_image.proofs.instr.put_globals.Given as goal

abbrev pub invariant-loop-g : goal.invariant-loop-g
invariant-loop-g l = l.out.items ≡ l.fn.out.items ++ flat_map global_line (globals (take l.g-index l.all))
