use Rattle.std.proofs.Common.{arith}
use Rattle.std.proofs.lemmas.Result.{IfErr-at_err}
use Rattle.vsi_subject.specs.Screen.{tamed}
use Rattle.vsi_subject.proofs.Failed.{told_alone, told_memory, told_with_note}
use Rattle.vsi.proofs.command_line.ended.Goals as goal
use Rattle.vsi.proofs.command_line.ended.Goals.{then-not-wants_memory, else-not-wants_memory}

pub returns-after-not-wants_memory-clause-count : goal.returns-after-not-wants_memory-clause-count
returns-after-not-wants_memory-clause-count g c = elim c.if-not-wants_memory.branch [
  | then-not-wants_memory w ↦ rw w.error-is
      (omega (arith, c.tell_failure.ensures.count, w.tell-then-not-wants_memory.ensures.count))
  | else-not-wants_memory w ↦ rw w.error-is c.tell_failure.ensures.count
]

pub returns-after-not-wants_memory-clause-told : goal.returns-after-not-wants_memory-clause-told
returns-after-not-wants_memory-clause-told g c = rw c.in-Err.is (elim c.if-not-wants_memory.branch [
  | then-not-wants_memory w ↦ rw w.error-is
      (told_with_note g.E.Write.contents c.args.error.now c.tell_failure.new.error
      w.tell-then-not-wants_memory.new.error c.in-Err.failure (tamed c.args.error_text.now.lines.items) c.wants_memory.result
      c.wants_memory.ensures w.if-not-wants_memory.true c.tell_failure.ensures.count
      w.tell-then-not-wants_memory.ensures.count c.tell_failure.ensures.told
      w.tell-then-not-wants_memory.ensures.told)
  | else-not-wants_memory w ↦ rw w.error-is
      (told_alone g.E.Write.contents c.args.error.now c.tell_failure.new.error c.in-Err.failure
      (tamed c.args.error_text.now.lines.items) c.wants_memory.result c.wants_memory.ensures w.if-not-wants_memory.false
      c.tell_failure.ensures.told)
])

pub returns-after-not-wants_memory-clause-memory : goal.returns-after-not-wants_memory-clause-memory
returns-after-not-wants_memory-clause-memory g c = λ five.
    told_memory g.E.Write.contents c.args.error.now c.if-not-wants_memory.error c.in-Err.failure
    (tamed c.args.error_text.now.lines.items) c.status.result c.status.ensures.status five
    (IfErr-at_err _ c.in-Err.is (returns-after-not-wants_memory-clause-told g c))
