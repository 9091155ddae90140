use Rattle.std.proofs.Common.{◌≡◌, ◌-◌}
use Rattle.vsi_image.specs.Reading.{code_at}
use Rattle.vsi_image.proofs.Loops.{behind}
use Rattle.vsi_image.proofs.decoder.code_at.Given as goal

abbrev pub invariant-loop : goal.invariant-loop
invariant-loop l =
    behind l.code.items (code_at (l.count - l.counter) l.version l.whole l.rest)
    ≡ code_at l.count l.version l.whole l.bytes
