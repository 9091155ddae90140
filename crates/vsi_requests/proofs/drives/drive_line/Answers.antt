use Rattle.std.proofs.Common.{[], ◌∷◌, ◌∙◌, refl, subst}
use Rattle.vsi_drive.specs.Counted.{device_of}
use Rattle.vsi_drive.specs.Control.{control}
use Rattle.vsi_subject.specs.Partly.{WritesPart}
use Rattle.vsi_subject.specs.Saved.{SavesLine}
use Rattle.vsi_subject.specs.State.{state_text}
use Rattle.vsi_subject.proofs.Cut.{StaysAt-same, line_advances, line_cut, none_cut}
use Rattle.vsi_subject.proofs.Partly.{on_ok_of}
use Rattle.vsi_requests.proofs.drives.drive_line.Goals as goal

pub returns-in_ok-save_line-in-Ok-clause-saved : goal.returns-in_ok-save_line-in-Ok-clause-saved
returns-in_ok-save_line-in-Ok-clause-saved g c =
    let holds = g.F.Files.holds in
    let drive = c.args.drive.now in
    let im = drive.verified.now in
    on_ok_of c.write.result
    (line_advances drive.save im (control drive.controller.now) c.args.store.now c.args.line.now c.args.unsaved.now
    c.save_line.new.unsaved (holds c.args.files.now) (holds c.save_line.new.files)
    (subst (λ w. SavesLine drive.save (state_text im w) c.args.unsaved.now c.save_line.new.unsaved
    (holds c.args.files.now) (holds c.save_line.new.files)) c.in-Ok.ensures.store
    c.in_ok-save_line-in-Ok.ensures.saved))

pub returns-in_ok-save_line-in-Ok-clause-cut : goal.returns-in_ok-save_line-in-Ok-clause-cut
returns-in_ok-save_line-in-Ok-clause-cut g c =
    let holds = g.F.Files.holds in
    let drive = c.args.drive.now in
    let im = drive.verified.now in
    let old = g.W.Write.contents (device_of c.args.output.now) in
    let new = g.W.Write.contents (device_of c.write.new.output) in
    line_cut drive.save im (control drive.controller.now) c.args.store.now drive.most c.args.line.now
    c.args.unsaved.now c.save_line.new.unsaved old new (holds c.args.files.now) (holds c.save_line.new.files)
    c.in_ok-save_line-in-Ok.ensures.few
    (subst (λ w. SavesLine drive.save (state_text im w) c.args.unsaved.now c.save_line.new.unsaved
    (holds c.args.files.now) (holds c.save_line.new.files)) c.in-Ok.ensures.store
    c.in_ok-save_line-in-Ok.ensures.saved)
    (subst (λ t. WritesPart t old new) (c.as_slice.ensures.value ∙ c.in-Ok.ensures.line) c.write.ensures.part)

pub returns-in_err-save_line-in-Ok-clause-cut : goal.returns-in_err-save_line-in-Ok-clause-cut
returns-in_err-save_line-in-Ok-clause-cut g c =
    let holds = g.F.Files.holds in
    let drive = c.args.drive.now in
    none_cut drive.save drive.verified.now (control drive.controller.now) c.args.store.now drive.most
    (c.args.line.now ∷ []) c.args.unsaved.now (g.W.Write.contents (device_of c.args.output.now))
    (holds c.args.files.now) (holds c.save_line.new.files) c.requires.few c.in_err-save_line-in-Ok.ensures.stays.1

pub returns-in-Err-clause-cut : goal.returns-in-Err-clause-cut
returns-in-Err-clause-cut g c =
    let holds = g.F.Files.holds c.args.files.now in
    let drive = c.args.drive.now in
    none_cut drive.save drive.verified.now (control drive.controller.now) c.args.store.now drive.most
    (c.args.line.now ∷ []) c.args.unsaved.now (g.W.Write.contents (device_of c.args.output.now))
    holds holds c.requires.few (StaysAt-same drive.save holds holds refl)
