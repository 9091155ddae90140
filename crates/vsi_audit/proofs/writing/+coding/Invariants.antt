use Rattle.std.proofs.Common.{take}
use Rattle.vsi_scope.specs.Language.{size}
use Rattle.vsi_scope.specs.View.{sequence}
use Rattle.vsi_code.specs.Layout.{code_at}
use Rattle.vsi_audit.specs.Coding.{StandsAt}
use Rattle.vsi_audit.proofs.writing.+coding.Given as goal

abbrev pub invariant-behind_all-loop-c : goal.invariant-behind_all-loop-c
invariant-behind_all-loop-c l =
    StandsAt l.code (code_at l.start l.scope (sequence (take l.c-index l.body))) l.start
    (size (sequence (take l.c-index l.body))) l.place
