use Rattle.std.proofs.Common.{◌-◌, ◌≡◌, ◌≤◌, Some, false}
use Rattle.vsi_image.specs.Meaning.{after}
use Rattle.vsi_machine.proofs.counting.slices.Given as goal

abbrev pub invariant-loop-done : goal.invariant-loop-done
invariant-loop-done l = record {
  within : l.done ≤ l.budget;
  image : l.machine.image ≡ l.fn.machine.image;
  state : after l.fn.machine.image.code.items l.done l.fn.machine.state ≡ Some l.machine.state;
  going : l.machine.state.halted ≡ false;
  same : l.mark.image ≡ l.fn.mark.image;
}

abbrev pub decreases-loop-done : goal.decreases-loop-done
decreases-loop-done l = l.budget - l.done
