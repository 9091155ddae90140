use Rattle.std.proofs.Common.{◌∙◌, sym, refl}
use Rattle.std.specs.Prelude.{pos}
use Rattle.std.proofs.lemmas.Option.{slice_get-get_or}
use Rattle.vsi_image.specs.declared.instr.Instr.TheVariants.{Push}
use Rattle.vsi_image.specs.Faults.{target_fault}
use Rattle.vsi_image.specs.Marks.{marked}
use Rattle.vsi_image.proofs.FirstLemmas.{first_from-passes, first_from-stops}
use Rattle.vsi_image.proofs.VerifyLemmas.{target_fault-by_mark}
use Rattle.vsi_image.proofs.verifier.check_targets.Goals as goal

pub is_target_fine-requires : goal.is_target_fine-requires
is_target_fine-requires c =
    let here = slice_get-get_or c.args.code.now c.loop-pc.pc (Push (pos 0)) c.loop-pc-test.true in
    λ t h. (c.requires c.loop-pc.pc t _ here h).0

pub returns-then-not-is_target_fine : goal.returns-then-not-is_target_fine
returns-then-not-is_target_fine c =
    let code = c.args.code.now in
    let pc = c.loop-pc.pc in
    let here = slice_get-get_or code pc (Push (pos 0)) c.loop-pc-test.true in
    let fault = target_fault-by_mark code pc _ (marked c.args.marks.now) _ (λ t h. (c.requires pc t _ here h).1)
    (sym c.is_target_fine.ensures ∙ c.if-not-is_target_fine.true) in
    sym (first_from-stops (target_fault code) code pc _ (Push (pos 0)) _ c.loop-pc-test.true refl fault)
    ∙ c.loop-pc.invariant

pub loop-pc-preserved : goal.loop-pc-preserved
loop-pc-preserved c =
    let code = c.args.code.now in
    let pc = c.loop-pc.pc in
    let here = slice_get-get_or code pc (Push (pos 0)) c.loop-pc-test.true in
    let fault = target_fault-by_mark code pc _ (marked c.args.marks.now) _ (λ t h. (c.requires pc t _ here h).1)
    (sym c.is_target_fine.ensures ∙ c.if-not-is_target_fine.false) in
    sym (first_from-passes (target_fault code) code pc _ (Push (pos 0)) c.loop-pc-test.true refl fault)
    ∙ c.loop-pc.invariant
