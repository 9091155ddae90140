use Rattle.std.proofs.Common.{reverse, ap, ◌∙◌, arith}
use Rattle.std.specs.Prelude.{is_some}
use Rattle.vsi_recovery.specs.declared.sort.TheConstants.{SORTS}
use Rattle.vsi_recovery.specs.Rules.{step}
use Rattle.vsi_recovery.specs.Told.{told}
use Rattle.vsi_recovery.proofs.Lists.{told_push, told_skip}
use Rattle.vsi_recovery.proofs.Standing.{reached_stands}
use Rattle.vsi_recovery.proofs.expected.sorts_of.Goals as goal
use Rattle.vsi_recovery.proofs.expected.sorts_of.Goals.{then-branch+in_ok-push, else-branch}

pub loop-sort-preserved : goal.loop-sort-preserved
loop-sort-preserved c = λ a.
    let stands = ap is_some (rw c.in_ok-rest.ensures.items at c.in_ok-step.ensures) ∙ reached_stands _ _ in
    elim c.if-branch.branch [
      | then-branch+in_ok-push w ↦
          ap (λ ts. told ts.items a) w.sorts-is ∙ ap (λ ts. told ts a) w.in_ok-push.ensures.items
          ∙ told_push SORTS c.loop-sort.sorts.items (λ x. is_some (step (reverse c.args.ahead.now) x))
          c.loop-sort.sort-index (omega arith) c.loop-sort.invariant
          (stands ∙ w.if-branch.true) a
      | else-branch w ↦
          ap (λ ts. told ts.items a) w.sorts-is
          ∙ told_skip SORTS c.loop-sort.sorts.items (λ x. is_some (step (reverse c.args.ahead.now) x))
          c.loop-sort.sort-index (omega arith) c.loop-sort.invariant
          (stands ∙ w.if-branch.false) a
    ]
