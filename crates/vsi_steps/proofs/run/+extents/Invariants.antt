use Rattle.std.proofs.Common.{List, drop}
use Rattle.vsi_scope.specs.View.{sequence}
use Rattle.vsi_steps.specs.declared.run.Extent.{Extent}
use Rattle.vsi_steps.specs.Extents.{IsFilled}
use Rattle.vsi_steps.proofs.run.+extents.Given as goal

abbrev pub invariant-put_all-loop-c : goal.invariant-put_all-loop-c
invariant-put_all-loop-c l =
    (t : List Extent) → IsFilled (sequence (drop l.c-index l.body)) l.extents.items t →
    IsFilled (sequence l.body) l.initial.extents.items t
