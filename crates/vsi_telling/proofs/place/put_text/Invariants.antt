use Rattle.std.proofs.Common.{◌≡◌, ◌++◌, take}
use Rattle.vsi_telling.specs.Safe.{told}
use Rattle.vsi_telling.proofs.place.put_text.Given as goal

abbrev pub invariant-loop-byte : goal.invariant-loop-byte
invariant-loop-byte l = l.text.items ≡ l.initial.text.items ++ told (take l.byte-index l.bytes)
