use Rattle.std.proofs.Common.{◌≡◌, drop}
use Rattle.vsi_image.specs.Fields.{globals}
use Rattle.vsi_audit.specs.MadeNames.{is_taken}
use Rattle.vsi_audit.proofs.names.is_taken.Given as goal

abbrev pub invariant-loop-global : goal.invariant-loop-global
invariant-loop-global l =
    is_taken l.form (globals (drop l.global-index l.globals)) ≡ is_taken l.form (globals l.globals)
