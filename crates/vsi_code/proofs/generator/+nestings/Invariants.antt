use Rattle.std.proofs.Common.{◌≡◌, min, take}
use Rattle.vsi_scope.specs.Language.{nesting}
use Rattle.vsi_scope.specs.View.{sequence}
use Rattle.vsi_code.proofs.generator.+nestings.Given as goal

abbrev pub invariant-letvar_nesting-loop-c : goal.invariant-letvar_nesting-loop-c
invariant-letvar_nesting-loop-c l = l.most ≡ min (nesting (sequence (take l.c-index l.body))) 65535
