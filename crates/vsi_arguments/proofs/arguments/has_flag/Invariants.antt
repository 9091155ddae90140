use Rattle.std.proofs.Common.{◌≡◌, drop}
use Rattle.vsi_arguments.specs.Words.{has_flag, texts}
use Rattle.vsi_arguments.proofs.arguments.has_flag.Given as goal

abbrev pub invariant-loop-word : goal.invariant-loop-word
invariant-loop-word l = has_flag l.flag (texts (drop l.word-index l.words)) ≡ has_flag l.flag (texts l.words)
