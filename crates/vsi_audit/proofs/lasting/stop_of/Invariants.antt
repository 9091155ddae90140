use Rattle.std.proofs.Common.{◌≡◌, ℕ, ◌-◌, ◌≤◌, ◌<◌, length, slice_get, true}
use Rattle.vsi_audit.specs.Reading.{is_operand}
use Rattle.vsi_audit.proofs.lasting.stop_of.Given as goal

abbrev pub invariant-loop-stop : goal.invariant-loop-stop
invariant-loop-stop l = record {
  from : l.place ≤ l.stop;
  before : (k : ℕ) → l.place ≤ k → k < l.stop → is_operand (slice_get l.code k) ≡ true;
}

abbrev pub decreases-loop-stop : goal.decreases-loop-stop
decreases-loop-stop l = length l.code - l.stop
