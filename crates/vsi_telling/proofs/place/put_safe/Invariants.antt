use Rattle.std.proofs.Common.{◌≡◌, ◌++◌, take}
use Rattle.vsi_telling.specs.Safe.{shown}
use Rattle.vsi_telling.proofs.place.put_safe.Given as goal

abbrev pub invariant-loop-byte : goal.invariant-loop-byte
invariant-loop-byte l = l.text.items ≡ l.initial.text.items ++ shown (take l.byte-index l.bytes)
