use Rattle.std.proofs.Common.{◌≡◌, drop}
use Rattle.vsi_image.specs.Fields.{globals}
use Rattle.vsi_conform.specs.Points as spec
use Rattle.vsi_conform.proofs.conforming.word_of.Given as goal

-- The word among the remaining globals is the word among all.
abbrev pub invariant-loop-i : goal.invariant-loop-i
invariant-loop-i l =
    spec.word_of (globals (drop l.i l.variables)) (drop l.i l.words) l.name
    ≡ spec.word_of (globals l.variables) l.words l.name
