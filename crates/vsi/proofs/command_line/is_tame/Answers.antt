use Rattle.std.proofs.Common.{◌∙◌, ◌-◌, ap}
use Rattle.vsi_subject.proofs.ScreenLemmas.{begun, passed, plain_passed}
use Rattle.vsi.proofs.command_line.is_tame.Goals as goal
use Rattle.vsi.proofs.command_line.is_tame.Goals.{then-left-eq0+else-left-eq0-2, else-left-eq0-2-via-then-left-eq0-2+else-not-is_plain, else-left-eq0-2-via-else-left-eq0-2, else-left-eq0}

pub loop-at-preserved : goal.loop-at-preserved
loop-at-preserved c = c.loop-at.invariant ∙ elim c.if-left-eq0.branch [
  | then-left-eq0+else-left-eq0-2 w ↦ elim w.else-left-eq0-2.branch [
    | else-left-eq0-2-via-then-left-eq0-2+else-not-is_plain v ↦ rw w.if-left-eq0.true
        (plain_passed c.args.bytes.now c.loop-at.at _ w.colour_length-left.result c.saturating_sub-left.result
        c.loop-at-test.true w.colour_length-left.ensures v.if-left-eq0-2.true v.is_plain.result v.is_plain.ensures
        v.if-not-is_plain.false
        (c.saturating_sub-left.ensures ∙ ap (λ k. k - 1) w.left-is))
    | else-left-eq0-2-via-else-left-eq0-2 v ↦ rw w.if-left-eq0.true
        (begun c.args.bytes.now c.loop-at.at w.colour_length-left.result c.saturating_sub-left.result
        c.loop-at-test.true w.colour_length-left.ensures v.if-left-eq0-2.false
        (c.saturating_sub-left.ensures ∙ ap (λ k. k - 1) w.left-is))
  ]
  | else-left-eq0 w ↦
      passed c.args.bytes.now c.loop-at.at c.loop-at.left c.saturating_sub-left.result c.loop-at-test.true
      w.if-left-eq0.false (c.saturating_sub-left.ensures ∙ ap (λ k. k - 1) w.left-is)
]
