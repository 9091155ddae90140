use Rattle.std.proofs.Common.{◌≡◌, drop}
use Rattle.std.specs.List.{list_any}
use Rattle.vsi_store.specs.Evidence.{is_special}
use Rattle.vsi_store.proofs.reader.has_special.Given as goal

-- A remaining byte is special exactly if any is.
abbrev pub invariant-loop-byte : goal.invariant-loop-byte
invariant-loop-byte l = list_any is_special (drop l.byte-index l.path) ≡ list_any is_special l.path
