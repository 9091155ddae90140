use Rattle.std.proofs.Common.{◌+◌, ◌-◌, ◌*◌}
use Rattle.vsi_syntax.specs.View.{lexemes, tree, IsMeasured}
use Rattle.vsi_syntax.specs.Parsing.{parse}
use Rattle.vsi_syntax.proofs.Reading.{Left}
use Rattle.vsi_syntax.proofs.parser.command.+expression.Given as goal

abbrev pub decreases-atom : goal.decreases-atom
decreases-atom l = 2 * l.room

abbrev pub decreases-expression : goal.decreases-expression
decreases-expression l = 2 * l.room + 1

-- The result that remains to be read after the expression so far, given enough turns, is the whole result.
abbrev pub invariant-expression-loop-op : goal.invariant-expression-loop-op
invariant-expression-loop-op l = record {
  measured : IsMeasured l.room l.left;
  left_over : Left l.room l.least l.left.depth (tree l.left.expr) (lexemes l.rest)
      (parse l.room l.least (lexemes l.tokens));
}

abbrev pub decreases-expression-loop-op : goal.decreases-expression-loop-op
decreases-expression-loop-op l = l.room - l.left.depth
