use Rattle.std.proofs.Common.{◌≡◌, ◌∙◌, ap, sym, arith, ◌<◌, ◌≤◌, subst, get_or, length, ◌==◌}
use Rattle.std.specs.Prelude.{pos}
use Rattle.vsi_image.specs.declared.instr.Instr.TheVariants.{Push}
use Rattle.vsi_image.specs.Effects.{depth_after}
use Rattle.vsi_image.specs.Marks.{marked}
use Rattle.vsi_image.specs.Faults.{fault_at, own_fault}
use Rattle.vsi_image.proofs.FirstLemmas.{first_from-passes}
use Rattle.vsi_image.proofs.VerifyLemmas.{depth_at-more, fault_at-none, marks-more, depth_after-small}
use Rattle.vsi_image.proofs.verifier.check_each.Goals as goal

pub loop-pc-preserved : goal.loop-pc-preserved
loop-pc-preserved c =
    let image = c.args.image.now in
    let pc = c.loop-pc.pc in
    let depth = c.loop-pc.depth in
    let zero = Push (pos 0) in
    let i = get_or c.deref-instr-items.result.now pc zero in
    let e : get_or image.code.items pc zero ≡ i =
    ap (λ l. get_or l pc zero) (sym c.deref-instr-items.ensures.value) in
    let within : pc < length image.code.items = omega arith in
    let f = sym c.fault_at.ensures ∙ c.in_default.is in
    let own = ap (λ d. fault_at image pc d i) (sym c.loop-pc.invariant.depth) ∙ f in
    let on = c.depth_after-depth.ensures in
    let same = c.loop-pc.invariant.depth in
    let none = fault_at-none image pc depth i f in
    record {
      rest =
          sym (first_from-passes (own_fault image) image.code.items pc i zero within e own)
          ∙ c.loop-pc.invariant.rest;
      depth = on ∙ ap (λ d. depth_after d i) same ∙ sym (depth_at-more image.code.items pc i zero within e);
      small = subst (λ d. d ≤ 256) (sym on) (depth_after-small image depth i c.requires.stack none);
      passed = marks-more image.code.items pc (marked c.loop-pc.marks) (marked c.mark_if.new.words)
          c.loop-pc.invariant.passed c.mark_if.ensures.others (c.mark_if.ensures.here ∙ ap (λ d. d == 0) same);
      ahead = λ k h. c.mark_if.ensures.others k (omega arith) ∙ c.loop-pc.invariant.ahead k (omega arith);
    }
