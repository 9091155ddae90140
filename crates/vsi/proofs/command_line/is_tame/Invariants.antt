use Rattle.std.proofs.Common.{◌≡◌, drop}
use Rattle.vsi_subject.specs.Screen.{is_tame, is_tame_after}
use Rattle.vsi.proofs.command_line.is_tame.Given as goal

abbrev pub invariant-loop-at : goal.invariant-loop-at
invariant-loop-at l = is_tame l.bytes ≡ is_tame_after l.left (drop l.at l.bytes)
