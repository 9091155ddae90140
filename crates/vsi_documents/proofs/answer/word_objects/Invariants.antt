use Rattle.std.proofs.Common.{◌≡◌, ◌++◌, drop, map}
use Rattle.serde_json.specs.View.{view}
use Rattle.vsi_image.specs.Fields.{globals}
use Rattle.vsi_documents.specs.Words as words
use Rattle.vsi_documents.proofs.answer.word_objects.Given as goal

-- The objects so far, and then those of the remaining globals.
abbrev pub invariant-loop-i : goal.invariant-loop-i
invariant-loop-i l =
    map view l.found ++ words.word_objects (globals (drop l.i l.variables)) (drop l.i l.words)
    ≡ words.word_objects (globals l.variables) l.words
