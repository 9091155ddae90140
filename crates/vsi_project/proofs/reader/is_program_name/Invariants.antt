use Rattle.std.proofs.Common.{◌≡◌, drop}
use Rattle.std.specs.List.{list_all}
use Rattle.vsi_project.specs.Names as names
use Rattle.vsi_project.proofs.reader.is_program_name.Given as goal

-- The remaining bytes are those of a name exactly if all after the first are.
abbrev pub invariant-loop-byte : goal.invariant-loop-byte
invariant-loop-byte l = list_all names.is_name_byte (drop l.byte-index l.rest) ≡ list_all names.is_name_byte l.rest
