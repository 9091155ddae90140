use Rattle.std.proofs.Common.{◌≡◌, Some}
use Rattle.std.specs.Io.KnownBytes.{Appends}
use Rattle.vsi_image.specs.Meaning.{after}
use Rattle.vsi_drive.specs.Counted.{device_of, faults_of}
use Rattle.vsi_drive.specs.Running.{trace_text}
use Rattle.vsi_drive.proofs.running.run_traced.Given as goal

-- This many steps are done, and their lines are written.
abbrev pub invariant-loop-step : goal.invariant-loop-step
invariant-loop-step g l =
    let contents = g.W.Write.contents in
    let code = l.fn.machine.image.code.items in
    record {
      written :
          Appends (contents (device_of l.fn.writer)) (contents (device_of l.writer))
          (trace_text code l._step l.fn.machine.state);
      reached : after code l._step l.fn.machine.state ≡ Some l.machine.state;
      image : l.machine.image ≡ l.fn.machine.image;
      count : faults_of l.writer ≡ faults_of l.fn.writer;
    }
