use Rattle.std.proofs.Common.{◌≡◌, map, take}
use Rattle.vsi_image.specs.Fields.{globals}
use Rattle.vsi_conform.specs.Reading.{bytes_of}
use Rattle.vsi_conform.proofs.images.image_reaches.Given as goal

-- The names so far are those of the globals so far.
abbrev pub invariant-loop-global : goal.invariant-loop-global
invariant-loop-global l = bytes_of l.names.items ≡ map (λ g. g.0) (globals (take l.global-index l.globals))
