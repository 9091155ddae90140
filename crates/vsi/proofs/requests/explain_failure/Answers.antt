use Rattle.vsi.proofs.Hushed.{objected}
use Rattle.vsi.proofs.requests.explain_failure.Goals as goal

pub returns-in_default-clause-objects : goal.returns-in_default-clause-objects
returns-in_default-clause-objects g c = λ unasked.
    objected c.args.failure c.objection-lines.result c.args.error_text.now.lines.items c.put.new.self.lines.items
    c.objection-lines.ensures c.put.ensures.put

pub returns-clause-objects : goal.returns-clause-objects
returns-clause-objects g c = λ unasked. absurd (cc c.in-Some.is)
