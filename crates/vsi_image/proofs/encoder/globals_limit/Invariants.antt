use Rattle.std.proofs.Common.{◌≡◌, take, drop, []}
use Rattle.vsi_image.specs.Fields.{globals}
use Rattle.vsi_image.specs.Limits.{globals_limit}
use Rattle.vsi_image.proofs.encoder.globals_limit.Given as goal

abbrev pub invariant-loop-i : goal.invariant-loop-i
invariant-loop-i l =
    globals_limit l.i (globals (take l.i l.all)) (globals (drop l.i l.all))
    ≡ globals_limit 0 [] (globals l.all)
