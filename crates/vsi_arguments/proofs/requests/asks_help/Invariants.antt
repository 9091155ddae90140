use Rattle.std.proofs.Common.{◌≡◌, drop, false}
use Rattle.std.specs.List.{list_any}
use Rattle.vsi_arguments.specs.Help.{front_of, is_help}
use Rattle.vsi_arguments.specs.Words.{texts}
use Rattle.vsi_arguments.proofs.requests.asks_help.Given as goal

abbrev pub invariant-loop-word : goal.invariant-loop-word
invariant-loop-word l =
    list_any is_help (front_of l.is_value (texts (drop l.word-index l.words)))
    ≡ list_any is_help (front_of false (texts l.words))
