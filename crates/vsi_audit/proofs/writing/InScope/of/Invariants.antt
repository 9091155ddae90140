use Rattle.std.proofs.Common.{◌≡◌, map, take}
use Rattle.vsi_image.specs.Fields.{globals}
use Rattle.vsi_audit.proofs.writing.InScope.of.Given as goal

abbrev pub invariant-loop-global : goal.invariant-loop-global
invariant-loop-global l =
    map (λ x. x.now) l.names.items ≡ map (λ g. g.0) (globals (take l.global-index l.globals))
