use Rattle.std.proofs.Common.{◌≡◌, drop}
use Rattle.vsi_conform.specs.Points as spec
use Rattle.vsi_conform.proofs.conforming.given_word.Given as goal

-- The word among the remaining entries is the word among all.
abbrev pub invariant-loop-entry : goal.invariant-loop-entry
invariant-loop-entry l =
    spec.given_word (spec.entries (drop l.entry-index l.entries)) l.name ≡ spec.given_word (spec.entries l.entries) l.name
