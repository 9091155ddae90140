use Rattle.std.proofs.Common.{◌≡◌, ◌≤◌, drop, length, false}
use Rattle.vsi_arguments.specs.Words.{values_in, shown, texts}
use Rattle.vsi_arguments.proofs.arguments.has_values.Given as goal

abbrev pub invariant-loop-word : goal.invariant-loop-word
invariant-loop-word l = record {
  within : l.done ≤ length l.values;
  goes_on : values_in l.option l.is_value (texts (drop l.word-index l.words)) ≡ drop l.done (shown l.values) →
      values_in l.option false (texts l.words) ≡ shown l.values;
}
