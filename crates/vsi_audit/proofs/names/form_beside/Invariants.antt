use Rattle.vsi_image.specs.Fields.{globals}
use Rattle.vsi_audit.specs.MadeNames.{AreTaken, AreLettersTaken}
use Rattle.vsi_audit.proofs.names.form_beside.Given as goal

abbrev pub invariant-loop-letter : goal.invariant-loop-letter
invariant-loop-letter l = AreLettersTaken (globals l.globals) l.letter

abbrev pub invariant-loop-bars : goal.invariant-loop-bars
invariant-loop-bars l = AreTaken (globals l.globals) l.letter l.bars
