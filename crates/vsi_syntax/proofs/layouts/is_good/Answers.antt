use Rattle.std.proofs.Common.{rules}
use Rattle.vsi_syntax.specs.Cut.{pieces}
use Rattle.vsi_syntax.proofs.Laid.{bad_again, bad_same}
use Rattle.vsi_syntax.proofs.layouts.is_good.Goals as goal

pub returns-then-same-clause-not_good : goal.returns-then-same-clause-not_good
returns-then-same-clause-not_good c = λ e g.
    bad_again c.args.text.now c.args.out.now (pieces c.args.tokens.now) c.in-Ok.again.items
    c.deref-then-same.result.now c.eq.result c.deref-then-same.ensures.value c.in-Ok.ensures.cut.1
    (search rules) e g

pub returns-clause-not_good : goal.returns-clause-not_good
returns-clause-not_good c = λ e g.
    bad_same c.args.text.now c.args.out.now (pieces c.args.tokens.now) c.in-Ok.again.items c.deref.result.now
    c.in_ok-same.same c.deref.ensures.value c.in-Ok.ensures.cut.1 c.in_ok-same.ensures c.if-same.false g

pub returns-in_default-clause-not_good : goal.returns-in_default-clause-not_good
returns-in_default-clause-not_good c = λ e g. c.in_default.not-Memory (c.in-Err.ensures.exact g.others g.short g.cut)
