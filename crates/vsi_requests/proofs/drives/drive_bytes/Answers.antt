use Rattle.std.proofs.Common.{◌≡◌, ◌+◌, ◌∙◌, ◌++◌, ◌∷◌, [], get_or, take, drop, refl, sym, ap, subst, arith, take-append-drop}
use Rattle.std.proofs.lemmas.List.{take_more}
use Rattle.std.specs.Io.KnownBytes.{Appends}
use Rattle.vsi_drive.specs.Counted.{device_of}
use Rattle.vsi_drive.specs.Control.{control}
use Rattle.vsi_drive.specs.Cycles.{cycle}
use Rattle.vsi_subject.specs.Saved.{Advances, CutsLines}
use Rattle.vsi_subject.proofs.Cut.{StaysAt-same, Touches-same, Touches-trans, at_byte, cut_line, cut_lines, drives_none, ended_advances, same_advances, stays_advances}
use Rattle.vsi_subject.proofs.Driven.{ended_begun, grown_begun, grown_long, grown_short, line_ended, line_goes_on}
use Rattle.vsi_subject.proofs.Partly.{any_failure}
use Rattle.vsi_requests.proofs.drives.drive_bytes.Goals as goal
use Rattle.vsi_requests.proofs.drives.drive_bytes.Goals.{then-byte-eq10+in_ok-drive_line, else-byte-eq10+then-len-le-LINE_LIMIT+in_ok-push, else-byte-eq10+else-len-le-LINE_LIMIT}

pub loop-byte-init : goal.loop-byte-init
loop-byte-init g c =
    let holds = g.F.Files.holds c.args.files.now in
    let drive = c.args.drive.now in
    let drives = control drive.controller.now in
    record {
      output = omega arith;
      words = c.requires.words;
      few = c.requires.few;
      line = refl;
      driven = drives_none drives c.args.store.now (g.W.Write.contents (device_of c.args.output.now));
      touched = Touches-same drive.save holds holds refl;
      saved = stays_advances drive.save drive.verified.now drives c.args.store.now c.args.unsaved.now holds holds
          (StaysAt-same drive.save holds holds refl);
    }

pub loop-byte-preserved : goal.loop-byte-preserved
loop-byte-preserved g c =
    let contents = g.W.Write.contents in
    let holds = g.F.Files.holds in
    let drive = c.args.drive.now in
    let drives = control drive.controller.now in
    let line = c.args.line.now.items in
    let done = take c.loop-byte.byte-index c.args.bytes.now in
    let byte = get_or c.args.bytes.now c.loop-byte.byte-index 0 in
    let old = contents (device_of c.args.output.now) in
    let between = contents (device_of c.loop-byte.output) in
    let more : take (c.loop-byte.byte-index + 1) c.args.bytes.now ≡ done ++ byte ∷ [] =
    take_more c.args.bytes.now c.loop-byte.byte-index 0 c.loop-byte-test.true in
    elim c.if-byte-eq10.branch [
      | then-byte-eq10+in_ok-drive_line w ↦ rw (w.output-is, w.store-is, w.line-is, w.unsaved-is, w.files-is, more) (record {
        output = omega (arith, w.in_ok-drive_line.ensures.fault, c.loop-byte.invariant.output);
        words = omega (arith, w.drive_line.auto.store, c.loop-byte.invariant.words);
        few = w.in_ok-drive_line.ensures.few;
        line = w.clear.ensures.items ∙ sym (ended_begun line done byte w.if-byte-eq10.true);
        driven = line_ended drives c.args.store.now c.loop-byte.store w.drive_line.new.store line done
            c.loop-byte.line.items byte old between (contents (device_of w.drive_line.new.output))
            c.loop-byte.invariant.driven c.loop-byte.invariant.line w.if-byte-eq10.true
            (subst
            (λ l. Appends between (contents (device_of w.drive_line.new.output)) (cycle drives c.loop-byte.store
            l).line)
            w.deref.ensures.value w.in_ok-drive_line.ensures.written)
            (w.in_ok-drive_line.ensures.store ∙ ap (λ l. (cycle drives c.loop-byte.store l).store)
            w.deref.ensures.value);
        touched = Touches-trans drive.save (holds c.args.files.now) (holds c.loop-byte.files)
            (holds w.drive_line.new.files) c.loop-byte.invariant.touched w.in_ok-drive_line.ensures.touched;
        saved = ended_advances drive.save drive.verified.now drives c.args.store.now c.loop-byte.store line done
            c.loop-byte.line.items byte c.args.unsaved.now c.loop-byte.unsaved w.drive_line.new.unsaved old between
            (holds c.args.files.now) (holds c.loop-byte.files) (holds w.drive_line.new.files)
            c.loop-byte.invariant.driven c.loop-byte.invariant.saved c.loop-byte.invariant.line w.if-byte-eq10.true
            (subst
            (λ l. Advances drive.save drive.verified.now drives c.loop-byte.store (l ∷ []) c.loop-byte.unsaved
            w.drive_line.new.unsaved (holds c.loop-byte.files) (holds w.drive_line.new.files))
            w.deref.ensures.value w.in_ok-drive_line.ensures.saved);
      })
      | else-byte-eq10+then-len-le-LINE_LIMIT+in_ok-push w ↦ rw (w.output-is, w.store-is, w.line-is, w.unsaved-is, w.files-is, more) (record {
        output = c.loop-byte.invariant.output;
        words = c.loop-byte.invariant.words;
        few = c.loop-byte.invariant.few;
        line = w.in_ok-push.ensures.items
            ∙ sym (grown_short c.loop-byte.line.items byte (omega (arith, w.len.ensures, w.if-len-le-LINE_LIMIT.true)))
            ∙ grown_begun line done c.loop-byte.line.items byte c.loop-byte.invariant.line w.if-byte-eq10.false;
        driven = line_goes_on drives c.args.store.now c.loop-byte.store line done byte old between
            c.loop-byte.invariant.driven w.if-byte-eq10.false;
        touched = c.loop-byte.invariant.touched;
        saved = same_advances drive.save drive.verified.now drives c.args.store.now line done byte c.args.unsaved.now
            c.loop-byte.unsaved (holds c.args.files.now) (holds c.loop-byte.files) c.loop-byte.invariant.saved
            w.if-byte-eq10.false;
      })
      | else-byte-eq10+else-len-le-LINE_LIMIT w ↦ rw (w.output-is, w.store-is, w.line-is, w.unsaved-is, w.files-is, more) (record {
        output = c.loop-byte.invariant.output;
        words = c.loop-byte.invariant.words;
        few = c.loop-byte.invariant.few;
        line = sym (grown_long c.loop-byte.line.items byte (omega (arith, w.len.ensures, w.if-len-le-LINE_LIMIT.false)))
            ∙ grown_begun line done c.loop-byte.line.items byte c.loop-byte.invariant.line w.if-byte-eq10.false;
        driven = line_goes_on drives c.args.store.now c.loop-byte.store line done byte old between
            c.loop-byte.invariant.driven w.if-byte-eq10.false;
        touched = c.loop-byte.invariant.touched;
        saved = same_advances drive.save drive.verified.now drives c.args.store.now line done byte c.args.unsaved.now
            c.loop-byte.unsaved (holds c.args.files.now) (holds c.loop-byte.files) c.loop-byte.invariant.saved
            w.if-byte-eq10.false;
      })
    ]

pub returns-in_err-drive_line-clause-touched : goal.returns-in_err-drive_line-clause-touched
returns-in_err-drive_line-clause-touched g c =
    let holds = g.F.Files.holds in
    Touches-trans c.args.drive.now.save (holds c.args.files.now) (holds c.loop-byte.files)
    (holds c.drive_line.new.files) c.loop-byte.invariant.touched c.in_err-drive_line.ensures.touched

pub returns-in_err-drive_line-clause-cut : goal.returns-in_err-drive_line-clause-cut
returns-in_err-drive_line-clause-cut g c =
    let contents = g.W.Write.contents in
    let holds = g.F.Files.holds in
    let drive = c.args.drive.now in
    let drives = control drive.controller.now in
    let bytes = c.args.bytes.now in
    let i = c.loop-byte.byte-index in
    let between = contents (device_of c.loop-byte.output) in
    let new = contents (device_of c.drive_line.new.output) in
    any_failure _ c.from_residual.result
    (cut_line drive.save drive.verified.now drives c.args.store.now c.loop-byte.store drive.most
    c.args.line.now.items (take i bytes) (drop (i + 1) bytes) bytes
    c.loop-byte.line.items (get_or bytes i 0) c.args.unsaved.now c.loop-byte.unsaved
    (contents (device_of c.args.output.now)) between new (holds c.args.files.now) (holds c.loop-byte.files)
    (holds c.drive_line.new.files)
    c.loop-byte.invariant.driven c.loop-byte.invariant.saved c.loop-byte.invariant.line c.if-byte-eq10.true
    (at_byte bytes i c.loop-byte-test.true)
    (subst
    (λ l. CutsLines drive.save drive.verified.now drives c.loop-byte.store drive.most (l ∷ []) c.loop-byte.unsaved
    between new (holds c.loop-byte.files) (holds c.drive_line.new.files))
    c.deref.ensures.value c.in_err-drive_line.ensures.cut))

pub returns-in_err-push-clause-cut : goal.returns-in_err-push-clause-cut
returns-in_err-push-clause-cut g c =
    let contents = g.W.Write.contents in
    let holds = g.F.Files.holds in
    let drive = c.args.drive.now in
    let bytes = c.args.bytes.now in
    let i = c.loop-byte.byte-index in
    any_failure _ c.from_residual-in_err-push.result
    (cut_lines drive.save drive.verified.now (control drive.controller.now) c.args.store.now c.loop-byte.store
    drive.most c.args.line.now.items (take i bytes)
    (drop i bytes) bytes c.args.unsaved.now c.loop-byte.unsaved
    (contents (device_of c.args.output.now)) (contents (device_of c.loop-byte.output))
    (holds c.args.files.now) (holds c.loop-byte.files) c.loop-byte.invariant.few
    c.loop-byte.invariant.driven c.loop-byte.invariant.saved (sym (take-append-drop i bytes)))
