use Rattle.std.proofs.Common.{◌≡◌, ◌≤◌, length, take}
use Rattle.vsi_drive.specs.Counted.{device_of, faults_of}
use Rattle.vsi_drive.specs.Control.{control}
use Rattle.vsi_subject.specs.Driven.{Drives, whole_lines, begun}
use Rattle.vsi_subject.specs.Saved.{Advances}
use Rattle.vsi_subject.specs.State.{Touches}
use Rattle.vsi_requests.proofs.drives.drive_bytes.Given as goal

-- The lines that end so far have been driven and saved or counted, and no write has failed.
abbrev pub invariant-loop-byte : goal.invariant-loop-byte
invariant-loop-byte g l =
    let contents = g.W.Write.contents in
    let holds = g.F.Files.holds in
    let drives = control l.drive.controller.now in
    let done = take l.byte-index l.bytes in
    record {
      output : faults_of l.output ≤ faults_of l.initial.output;
      words : length l.store ≡ length drives.image.globals.items;
      few : l.unsaved ≤ l.drive.most;
      line : l.line.items ≡ begun l.initial.line.items done;
      driven :
          Drives drives l.initial.store l.store (whole_lines l.initial.line.items done)
          (contents (device_of l.initial.output)) (contents (device_of l.output));
      touched : Touches l.drive.save (holds l.initial.files) (holds l.files);
      saved :
          Advances l.drive.save l.drive.verified.now drives l.initial.store (whole_lines l.initial.line.items done)
          l.initial.unsaved l.unsaved (holds l.initial.files) (holds l.files);
    }
