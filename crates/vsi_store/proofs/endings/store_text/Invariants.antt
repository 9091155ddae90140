use Rattle.std.proofs.Common.{◌≡◌, ◌++◌, drop}
use Rattle.vsi_image.specs.Fields.{globals}
use Rattle.vsi_store.specs.Text.{store_text_of}
use Rattle.vsi_store.proofs.endings.store_text.Given as goal

-- The lines so far and the lines of the remaining globals are all lines.
abbrev pub invariant-loop-i : goal.invariant-loop-i
invariant-loop-i l =
    l.text.items ++ store_text_of (globals (drop l.i l.variables)) (drop l.i l.words)
    ≡ store_text_of (globals l.variables) l.words
