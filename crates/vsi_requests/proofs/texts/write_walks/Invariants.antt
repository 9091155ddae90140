use Rattle.std.proofs.Common.{◌≤◌}
use Rattle.vsi_drive.specs.Counted.{device_of, faults_of}
use Rattle.vsi_requests.proofs.Walked.{HasMade}
use Rattle.vsi_requests.proofs.texts.write_walks.Given as goal

-- The lines of the pairs so far have been made, those collected are yet to be written, and no write has failed.
abbrev pub invariant-loop-number : goal.invariant-loop-number
invariant-loop-number g l =
    record {
      output : faults_of l.output ≤ faults_of l.initial.output;
      made :
          HasMade l.walks l.number l.total l.lines.items (g.W.Write.contents (device_of l.initial.output))
          (g.W.Write.contents (device_of l.output));
    }
