use Rattle.std.proofs.Common.{List, subst, sym, arith}
use Rattle.std.proofs.lemmas.List.{take_more}
use Rattle.vsi_image.specs.declared.instr.Instr.{Instr}
use Rattle.vsi_machine.specs.Loops.{IsEntry}
use Rattle.vsi_machine.proofs.loops.forget_stored.Goals as goal

pub loop-instr-preserved : goal.loop-instr-preserved
loop-instr-preserved c = λ facts e.
    subst (λ (b : List Instr). IsEntry b facts c.forget_by.new.entry)
    (sym (take_more c.args.code.now c.loop-instr.instr-index _ (omega arith)))
    (c.forget_by.ensures _ facts (c.loop-instr.invariant facts e))
