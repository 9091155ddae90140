use Rattle.std.proofs.Common.{◌≡◌, take}
use Rattle.vsi_conform.specs.Beside.{folder}
use Rattle.vsi_conform.proofs.reader.folder_length.Given as goal

-- No slash is in the rest of the path.
abbrev pub invariant-loop-i : goal.invariant-loop-i
invariant-loop-i l = folder l.path ≡ folder (take l.i l.path)
