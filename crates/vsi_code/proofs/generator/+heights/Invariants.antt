use Rattle.std.proofs.Common.{◌≡◌, min, take}
use Rattle.vsi_code.specs.Needs.{height}
use Rattle.vsi_scope.specs.View.{sequence}
use Rattle.vsi_code.proofs.generator.+heights.Given as goal

abbrev pub invariant-height-loop-c : goal.invariant-height-loop-c
invariant-height-loop-c l = l.most ≡ min (height (sequence (take l.c-index l.body))) 65535
