use Rattle.std.proofs.Common.{◌≡◌, ◌++◌, drop}
use Rattle.vsi_image.specs.Fields.{globals}
use Rattle.vsi_conform.specs.Points as spec
use Rattle.vsi_conform.proofs.conforming.put_words.Given as goal

-- The points so far and those of the remaining words are all points.
abbrev pub invariant-loop-wanted : goal.invariant-loop-wanted
invariant-loop-wanted l =
    l.points.items
    ++ spec.word_points l.trial l.wanted (spec.entries (drop l.wanted l.expect)) (globals l.variables) l.words
    ≡ l.initial.points.items
    ++ spec.word_points l.trial 0 (spec.entries l.expect) (globals l.variables) l.words
