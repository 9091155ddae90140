use Rattle.std.proofs.Common.{refl}
use Rattle.vsi_drive.specs.Counted.{device_of}
use Rattle.vsi_drive.specs.Control.{control}
use Rattle.vsi_subject.specs.Driven.{last_line}
use Rattle.vsi_subject.proofs.Cut.{StaysAt-same, none_cut}
use Rattle.vsi_requests.proofs.drives.drive_rest.Goals as goal

pub returns-then-is_empty-clause-cut : goal.returns-then-is_empty-clause-cut
returns-then-is_empty-clause-cut g c =
    let holds = g.F.Files.holds c.args.files.now in
    let drive = c.args.drive.now in
    none_cut drive.save drive.verified.now (control drive.controller.now) c.args.store.now drive.most
    (last_line c.args.line.now) c.args.unsaved.now (g.W.Write.contents (device_of c.args.output.now))
    holds holds c.requires.few (StaysAt-same drive.save holds holds refl)
