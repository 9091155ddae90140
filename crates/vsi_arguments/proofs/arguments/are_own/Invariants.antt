use Rattle.std.proofs.Common.{◌≡◌, drop, false}
use Rattle.std.specs.List.{list_all}
use Rattle.vsi_arguments.specs.Words.{dashed_in, is_own, shown, texts}
use Rattle.vsi_arguments.proofs.arguments.are_own.Given as goal

abbrev pub invariant-loop-word : goal.invariant-loop-word
invariant-loop-word l =
    list_all (is_own (shown l.flags) (shown l.options)) (dashed_in l.is_value (texts (drop l.word-index l.words)))
    ≡ list_all (is_own (shown l.flags) (shown l.options)) (dashed_in false (texts l.words))
