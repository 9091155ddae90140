use Rattle.std.proofs.Common.{◌≡◌, drop}
use Rattle.vsi_arguments.specs.Words.{is_among, shown}
use Rattle.vsi_arguments.proofs.arguments.is_among.Given as goal

abbrev pub invariant-loop-name : goal.invariant-loop-name
invariant-loop-name l = is_among (shown (drop l.name-index l.names)) l.word ≡ is_among (shown l.names) l.word
