use Rattle.std.proofs.Common.{◌≡◌, None, All, length}
use Rattle.vsi_audit.proofs.audit.entries.Given as goal

abbrev pub invariant-loop-place : goal.invariant-loop-place
invariant-loop-place l = record {
  classes : All (λ e. e.class ≡ None) l.entries.items;
  count : length l.entries.items ≡ l.place-index;
}
