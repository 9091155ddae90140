use Rattle.std.proofs.Common.{◌≡◌, take}
use Rattle.vsi_image.specs.Fields as image
use Rattle.vsi_code.specs.Names.{all_named}
use Rattle.vsi_code.proofs.generator.copied.Given as goal

abbrev pub invariant-loop-global : goal.invariant-loop-global
invariant-loop-global l = image.globals l.copies.items ≡ all_named (take l.global-index l.globals)
