use Rattle.std.proofs.Common.{◌≡◌, drop}
use Rattle.vsi_arguments.specs.Numbers.{read_on}
use Rattle.vsi_arguments.proofs.arguments.number_in.Given as goal

abbrev pub invariant-loop-byte : goal.invariant-loop-byte
invariant-loop-byte l = read_on l.number (drop l.byte-index l.word) ≡ read_on 0 l.word
