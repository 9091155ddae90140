use Rattle.vsi_infer.proofs.Begun.{begins_longer}
use Rattle.vsi_infer.proofs.explanation.put_lines.Goals as goal

pub returns-in_err-put_step-clause-begins : goal.returns-in_err-put_step-clause-begins
returns-in_err-put_step-clause-begins c =
    begins_longer c.args.text.now.items c.loop-step.text.items c.put_step.new.text.items _ c.loop-step.invariant
    c.in_err-put_step.ensures.begins
