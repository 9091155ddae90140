use Rattle.std.proofs.Common.{◌≡◌, ◌∙◌, Some, false, subst}
use Rattle.vsi_image.specs.declared.instr.Image.{Image}
use Rattle.vsi_image.specs.Meaning.{stepped}
use Rattle.vsi_machine.proofs.Counts.{did_one, one_more, each_more, goes_on}
use Rattle.vsi_machine.proofs.counting.singly.Goals as goal

pub loop-done-preserved : goal.loop-done-preserved
loop-done-preserved c =
    let code = c.args.machine.now.image.code.items in
    let s = c.args.machine.now.state in
    let i = c.loop-done.invariant in
    let u = c.loop-done.machine.state in
    let v = c.step.new.self.state in
    let going : u.halted ≡ false = did_one u.halted c.step.result c.step.ensures.did c.if-not-step.false in
    let one : stepped code u ≡ Some v =
    subst (λ (im : Image). stepped im.code.items u ≡ Some v) i.image c.step.ensures.state in
    record {
      image = c.step.ensures.image ∙ i.image;
      state = one_more code c.loop-done.done s u v i.state one;
      each = each_more code c.loop-done.done s i.each (goes_on _ u i.state going);
    }
