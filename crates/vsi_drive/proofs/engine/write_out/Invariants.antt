use Rattle.std.proofs.Common.{◌≡◌, ◌≤◌, ◌-◌, length, take}
use Rattle.std.specs.Io.KnownBytes.{Appends}
use Rattle.vsi_drive.specs.Counted.{device_of, faults_of}
use Rattle.vsi_drive.proofs.engine.write_out.Given as goal

abbrev pub invariant-loop-done : goal.invariant-loop-done
invariant-loop-done g l =
    let contents = g.W.Write.contents in
    record {
      written : Appends (contents (device_of l.fn.writer)) (contents (device_of l.writer)) (take l.done l.text);
      room : l.done ≤ length l.text;
      count : faults_of l.writer ≡ faults_of l.fn.writer;
    }

abbrev pub decreases-loop-done : goal.decreases-loop-done
decreases-loop-done g l = length l.text - l.done
