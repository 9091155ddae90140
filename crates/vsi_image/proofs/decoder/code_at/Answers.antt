use Rattle.std.proofs.Common.{◌∙◌, sym}
use Rattle.std.proofs.lemmas.Result.{err_from_is_err_and}
use Rattle.vsi_image.proofs.Loops.{code-goes_on, code-fails, code-ends}
use Rattle.vsi_image.proofs.decoder.code_at.Goals as goal

pub returns-in_err-instr : goal.returns-in_err-instr
returns-in_err-instr c =
    let p = err_from_is_err_and c.from_residual.result c.from_residual.ensures.1 in
    let fails = code-fails c.args.count c.loop.counter c.args.version c.args.whole c.loop.code.items c.loop.rest.now
    c.in_err-instr.field-0.0 c.loop-test.true in
    rw (p.1, p.2) (λ m. sym c.loop.invariant ∙ fails (c.in_err-instr.ensures m))

pub loop-preserved : goal.loop-preserved
loop-preserved c =
    let on = code-goes_on c.args.count c.loop.counter c.args.version c.args.whole c.loop.code.items c.loop.rest.now
    c.in_ok-instr.instr c.in_ok-instr.after.now c.loop-test.true c.in_ok-instr.ensures in
    rw c.in_ok-push.ensures.items (sym on ∙ c.loop.invariant)

pub returns : goal.returns
returns c =
    sym c.loop.invariant
    ∙ code-ends c.args.count c.loop.counter c.args.version c.args.whole c.loop.code.items c.loop.rest.now
    c.loop-test.false
