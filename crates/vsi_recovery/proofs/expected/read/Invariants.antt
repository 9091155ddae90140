use Rattle.std.proofs.Common.{◌≡◌, map, drop, reverse}
use Rattle.vsi_syntax.specs.View.{lexemes}
use Rattle.vsi_recovery.specs.Sorts.{lexeme_sort}
use Rattle.vsi_recovery.specs.Rules.{run, start}
use Rattle.vsi_recovery.proofs.expected.read.Given as goal

abbrev pub invariant-loop-token : goal.invariant-loop-token
invariant-loop-token l =
    run (reverse l.ahead.items) (map lexeme_sort (lexemes (drop l.token-index l.tokens)))
    ≡ run start (map lexeme_sort (lexemes l.tokens))
