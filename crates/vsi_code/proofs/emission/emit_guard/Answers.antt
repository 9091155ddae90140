use Rattle.std.proofs.Common.{◌∙◌, ap, arith, length, length-append}
use Rattle.vsi_scope.specs.View.{expression}
use Rattle.vsi_code.specs.Layout.{expression_code}
use Rattle.vsi_code.proofs.Placed.{expression_long}
use Rattle.vsi_code.proofs.emission.emit_guard.Goals as goal

pub returns-clause-place : goal.returns-clause-place
returns-clause-place c =
    let e = expression c.args.guard.now in
    let n = ap length c.in_ok-emit_expression.ensures ∙ length-append c.args.code.now.items (expression_code e) in
    omega (arith, n, expression_long e, c.len-place.ensures, c.emit_expression.new.code.ok.0)
