use Rattle.std.proofs.Common.{◌≡◌, ◌-◌, []}
use Rattle.vsi_image.specs.Fields.{globals}
use Rattle.vsi_image.specs.Reading.{globals_at}
use Rattle.vsi_image.proofs.Loops.{behind}
use Rattle.vsi_image.proofs.decoder.globals_at.Given as goal

abbrev pub invariant-loop : goal.invariant-loop
invariant-loop l =
    behind (globals l.globals.items) (globals_at (l.count - l.counter) (globals l.globals.items) l.whole l.rest)
    ≡ globals_at l.count [] l.whole l.bytes
