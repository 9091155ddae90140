use Rattle.std.proofs.Common.{arith, refl, subst, sym}
use Rattle.vsi_drive.specs.Counted.{device_of}
use Rattle.vsi_drive.specs.Control.{control}
use Rattle.vsi_subject.proofs.Cut.{DrivesBytes, Touches-same, Touches-trans, bytes_none, bytes_on, end_cut, input_cut, piece_cut}
use Rattle.vsi_subject.proofs.Driven.{driven_whole}
use Rattle.vsi_requests.proofs.drives.drive_input.Goals as goal

pub returns-then-count-eq0-clause-driven : goal.returns-then-count-eq0-clause-driven
returns-then-count-eq0-clause-driven g c =
    let read = g.R.Read.remaining in
    let contents = g.W.Write.contents in
    let so_far = c.loop-call.invariant.read in
    let none = rw c.if-count-eq0.true at c.in-Ok.ensures.bytes in
    driven_whole (control c.args.drive.now.controller.now) c.args.store.now c.loop-call.store c.drive_rest.new.store
    so_far.bytes
    c.loop-call.line.items c.deref.result.now (read (device_of c.args.input.now)) (read (device_of c.loop-call.input))
    (read (device_of c.read.new.self)) (contents (device_of c.args.output.now)) (contents (device_of
    c.loop-call.output))
    (contents (device_of c.drive_rest.new.output)) c.drive_rest.result so_far.read none.0 (none.1 refl (omega (
      arith,
      c.read.auto.buf,
    ))) so_far.begins
    so_far.drives c.deref.ensures.value c.drive_rest.ensures.driven

pub loop-call-init : goal.loop-call-init
loop-call-init g c =
    let holds = g.F.Files.holds c.args.files.now in
    let drive = c.args.drive.now in
    let drives = control drive.controller.now in
    record {
      input = omega arith;
      output = omega arith;
      words = c.requires.words;
      few = omega arith;
      touched = Touches-same drive.save holds holds refl;
      read = subst
          (λ line. DrivesBytes drive.save drive.verified.now drives c.args.store.now c.args.store.now line 0
          (g.R.Read.remaining (device_of c.args.input.now)) (g.R.Read.remaining (device_of c.args.input.now))
          (g.W.Write.contents (device_of c.args.output.now)) (g.W.Write.contents (device_of c.args.output.now))
          holds holds)
          (sym c.new-line.ensures.items)
          (bytes_none drive.save drive.verified.now drives c.args.store.now
          (g.R.Read.remaining (device_of c.args.input.now)) (g.W.Write.contents (device_of c.args.output.now)) holds);
    }

pub loop-call-preserved : goal.loop-call-preserved
loop-call-preserved g c =
    let read = g.R.Read.remaining in
    let contents = g.W.Write.contents in
    let holds = g.F.Files.holds in
    let drive = c.args.drive.now in
    let so_far = c.loop-call.invariant.read in
    record {
      input = omega (arith, c.in-Ok.ensures.counts, c.loop-call.invariant.input);
      output = omega (arith, c.in_ok-drive_bytes.ensures.fault, c.loop-call.invariant.output);
      words = omega (arith, c.drive_bytes.auto.store, c.loop-call.invariant.words);
      few = c.in_ok-drive_bytes.ensures.few;
      touched = Touches-trans drive.save (holds c.args.files.now) (holds c.loop-call.files)
          (holds c.drive_bytes.new.files) c.loop-call.invariant.touched c.in_ok-drive_bytes.ensures.touched;
      read = bytes_on drive.save drive.verified.now (control drive.controller.now) c.args.store.now c.loop-call.store
          c.drive_bytes.new.store _
          c.loop-call.line.items c.drive_bytes.new.line.items c.loop-call.unsaved c.drive_bytes.new.unsaved
          (read (device_of c.args.input.now))
          (read (device_of c.loop-call.input)) (read (device_of c.read.new.self))
          (contents (device_of c.args.output.now)) (contents (device_of c.loop-call.output))
          (contents (device_of c.drive_bytes.new.output)) (holds c.args.files.now) (holds c.loop-call.files)
          (holds c.drive_bytes.new.files) so_far c.in-Ok.ensures.bytes.0
          c.in_ok-drive_bytes.ensures.line
          c.in_ok-drive_bytes.ensures.driven c.in_ok-drive_bytes.ensures.saved;
    }

pub returns-in_default-clause-cut : goal.returns-in_default-clause-cut
returns-in_default-clause-cut g c =
    let drive = c.args.drive.now in
    let holds = g.F.Files.holds in
    input_cut drive.save drive.verified.now (control drive.controller.now) c.args.store.now c.loop-call.store
    drive.most c.loop-call.line.items c.loop-call.unsaved
    (g.R.Read.remaining (device_of c.args.input.now)) (g.R.Read.remaining (device_of c.loop-call.input))
    (g.W.Write.contents (device_of c.args.output.now)) (g.W.Write.contents (device_of c.loop-call.output))
    (holds c.args.files.now) (holds c.loop-call.files) c.loop-call.invariant.few c.loop-call.invariant.read

pub returns-clause-cut : goal.returns-clause-cut
returns-clause-cut g c =
    let drive = c.args.drive.now in
    let holds = g.F.Files.holds in
    input_cut drive.save drive.verified.now (control drive.controller.now) c.args.store.now c.loop-call.store
    drive.most c.loop-call.line.items c.loop-call.unsaved
    (g.R.Read.remaining (device_of c.args.input.now)) (g.R.Read.remaining (device_of c.loop-call.input))
    (g.W.Write.contents (device_of c.args.output.now)) (g.W.Write.contents (device_of c.loop-call.output))
    (holds c.args.files.now) (holds c.loop-call.files) c.loop-call.invariant.few c.loop-call.invariant.read

pub returns-then-count-eq0-clause-touched : goal.returns-then-count-eq0-clause-touched
returns-then-count-eq0-clause-touched g c =
    let holds = g.F.Files.holds in
    Touches-trans c.args.drive.now.save (holds c.args.files.now) (holds c.loop-call.files)
    (holds c.drive_rest.new.files) c.loop-call.invariant.touched c.drive_rest.ensures.touched

pub returns-then-count-eq0-clause-cut : goal.returns-then-count-eq0-clause-cut
returns-then-count-eq0-clause-cut g c =
    let read = g.R.Read.remaining in
    let contents = g.W.Write.contents in
    let holds = g.F.Files.holds in
    let drive = c.args.drive.now in
    let so_far = c.loop-call.invariant.read in
    let none = rw c.if-count-eq0.true at c.in-Ok.ensures.bytes in
    end_cut drive.save drive.verified.now (control drive.controller.now) c.args.store.now c.loop-call.store drive.most
    c.loop-call.line.items
    c.deref.result.now c.loop-call.unsaved (read (device_of c.args.input.now)) (read (device_of c.loop-call.input))
    (read (device_of c.read.new.self)) (contents (device_of c.args.output.now))
    (contents (device_of c.loop-call.output)) (contents (device_of c.drive_rest.new.output))
    (holds c.args.files.now) (holds c.loop-call.files) (holds c.drive_rest.new.files) so_far none.0
    (none.1 refl (omega (arith, c.read.auto.buf))) c.deref.ensures.value c.drive_rest.ensures.cut

pub returns-in_err-drive_bytes-clause-touched : goal.returns-in_err-drive_bytes-clause-touched
returns-in_err-drive_bytes-clause-touched g c =
    let holds = g.F.Files.holds in
    Touches-trans c.args.drive.now.save (holds c.args.files.now) (holds c.loop-call.files)
    (holds c.drive_bytes.new.files) c.loop-call.invariant.touched c.in_err-drive_bytes.ensures.touched

pub returns-in_err-drive_bytes-clause-cut : goal.returns-in_err-drive_bytes-clause-cut
returns-in_err-drive_bytes-clause-cut g c =
    let read = g.R.Read.remaining in
    let contents = g.W.Write.contents in
    let holds = g.F.Files.holds in
    let drive = c.args.drive.now in
    let so_far = c.loop-call.invariant.read in
    piece_cut drive.save drive.verified.now (control drive.controller.now) c.args.store.now c.loop-call.store drive.most
    _ c.loop-call.line.items c.loop-call.unsaved
    (read (device_of c.args.input.now)) (read (device_of c.loop-call.input)) (read (device_of c.read.new.self))
    (contents (device_of c.args.output.now)) (contents (device_of c.loop-call.output))
    (contents (device_of c.drive_bytes.new.output)) (holds c.args.files.now) (holds c.loop-call.files)
    (holds c.drive_bytes.new.files) so_far c.in-Ok.ensures.bytes.0
    c.in_err-drive_bytes.ensures.cut
