use Rattle.std.proofs.Common.{◌≡◌, ℕ, ◌<◌, Some}
use Rattle.vsi_image.specs.Meaning.{after}
use Rattle.vsi_machine.specs.Counting.{GoesOn}
use Rattle.vsi_machine.proofs.counting.singly.Given as goal

abbrev pub invariant-loop-done : goal.invariant-loop-done
invariant-loop-done l = record {
  image : l.machine.image ≡ l.fn.machine.image;
  state : after l.fn.machine.image.code.items l.done l.fn.machine.state ≡ Some l.machine.state;
  each : (n : ℕ) → n < l.done → GoesOn (after l.fn.machine.image.code.items n l.fn.machine.state);
}
