use Rattle.std.proofs.Common.{◌≡◌, ◌++◌, drop}
use Rattle.std.specs.List.{flat_map}
use Rattle.vsi_store.specs.Evidence.{escaped_byte}
use Rattle.vsi_store.proofs.reader.put_path.Given as goal

-- The bytes so far are followed by the remaining ones.
abbrev pub invariant-loop-byte : goal.invariant-loop-byte
invariant-loop-byte l =
    l.text.items ++ flat_map escaped_byte (drop l.byte-index l.path)
    ≡ l.initial.text.items ++ flat_map escaped_byte l.path
