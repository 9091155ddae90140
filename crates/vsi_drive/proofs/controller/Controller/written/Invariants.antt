use Rattle.std.proofs.Common.{◌≡◌, ◌++◌, drop}
use Rattle.vsi_image.specs.Fields.{globals}
use Rattle.vsi_drive.specs.Control.{control}
use Rattle.vsi_drive.specs.Views.{globals_written}
use Rattle.vsi_drive.proofs.controller.Controller.written.Given as goal

-- The text so far and the text of the remaining globals are the whole text.
abbrev pub invariant-loop-i : goal.invariant-loop-i
invariant-loop-i l =
    l.text.items ++ globals_written (control l.self) l.end (globals (drop l.i l.variables)) (drop l.i l.words)
    ≡ globals_written (control l.self) l.end (globals l.variables) l.words
