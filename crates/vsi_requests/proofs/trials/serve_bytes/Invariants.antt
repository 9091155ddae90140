use Rattle.std.proofs.Common.{◌≤◌}
use Rattle.vsi_subject.specs.Served.{Serves}
use Rattle.vsi_drive.specs.Counted.{device_of, faults_of}
use Rattle.vsi_requests.proofs.trials.serve_bytes.Given as goal

-- Only messages have been written, and no write has failed.
abbrev pub invariant-loop-message : goal.invariant-loop-message
invariant-loop-message g l =
    record {
      output : faults_of l.output ≤ faults_of l.initial.output;
      served :
          Serves (g.W.Write.contents (device_of l.initial.output)) (g.W.Write.contents (device_of l.output));
    }
