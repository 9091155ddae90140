use Rattle.std.proofs.Common.{◌≡◌, drop}
use Rattle.vsi_arguments.specs.Words.{is_option, shown}
use Rattle.vsi_arguments.proofs.arguments.is_option.Given as goal

abbrev pub invariant-loop-option : goal.invariant-loop-option
invariant-loop-option l = is_option (shown (drop l.option-index l.options)) l.word ≡ is_option (shown l.options) l.word
