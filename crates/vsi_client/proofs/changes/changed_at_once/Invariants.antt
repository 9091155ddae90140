use Rattle.std.proofs.Common.{◌≡◌, ◌≤◌, drop, length}
use Rattle.vsi_client.specs.Places.{line_start}
use Rattle.vsi_client.proofs.Applying.{Done}
use Rattle.vsi_client.proofs.changes.changed_at_once.Given as goal

-- The changes passed give what is written.
abbrev pub invariant-loop-left : goal.invariant-loop-left
invariant-loop-left l = record {
  done : Done l.encoding l.text (drop l.left l.changes) l.out.items l.at;
  at_within : l.at ≤ length l.text;
  left_within : l.left ≤ length l.changes;
  line_starts : l.line.start ≡ line_start l.line.number l.text;
  line_within : l.line.start ≤ length l.text;
}

abbrev pub decreases-loop-left : goal.decreases-loop-left
decreases-loop-left l = l.left
