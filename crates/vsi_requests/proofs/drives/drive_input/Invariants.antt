use Rattle.std.proofs.Common.{◌≡◌, ◌≤◌, length}
use Rattle.vsi_drive.specs.Counted.{device_of, faults_of}
use Rattle.vsi_drive.specs.Control.{control}
use Rattle.vsi_subject.specs.State.{Touches}
use Rattle.vsi_subject.proofs.Cut.{DrivesBytes}
use Rattle.vsi_requests.proofs.drives.drive_input.Given as goal

-- The part of the input that was read has been driven, and no read and no write has failed.
abbrev pub invariant-loop-call : goal.invariant-loop-call
invariant-loop-call g l =
    let contents = g.W.Write.contents in
    let remaining = g.R.Read.remaining in
    let holds = g.F.Files.holds in
    let drives = control l.drive.controller.now in
    record {
      input : faults_of l.input ≤ faults_of l.initial.input;
      output : faults_of l.output ≤ faults_of l.initial.output;
      words : length l.store ≡ length drives.image.globals.items;
      few : l.unsaved ≤ l.drive.most;
      touched : Touches l.drive.save (holds l.initial.files) (holds l.files);
      read :
          DrivesBytes l.drive.save l.drive.verified.now drives l.initial.store l.store l.line.items l.unsaved
          (remaining (device_of l.initial.input)) (remaining (device_of l.input))
          (contents (device_of l.initial.output)) (contents (device_of l.output))
          (holds l.initial.files) (holds l.files);
    }
