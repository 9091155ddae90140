use Rattle.std.proofs.Common.{rules, arith}
use Rattle.vsi_machine.specs.Search.{StopsAt}
use Rattle.vsi_machine.proofs.Ending.{ends_as}
use Rattle.vsi_machine.proofs.Searching.{passed, stops_at}
use Rattle.vsi_machine.proofs.bound.cost_of.Goals as goal

pub returns-clause-ends : goal.returns-clause-ends
returns-clause-ends c =
    ends_as _ _ _ _ _ _ _ c.in_ok-cost.cost c.in_ok-whole.whole c.in_ok-facts.ensures c.in_ok-cost.ensures.leads
    (c.is_at.ensures (search rules)) (search rules) (search rules) (search rules) (search rules)

pub returns-in_err-cost-clause-stops : goal.returns-in_err-cost-clause-stops
returns-in_err-cost-clause-stops c =
    passed c.from_residual-in_err-cost.result c.in_err-cost.field-0.0 (StopsAt c.args.image.now)
    c.from_residual-in_err-cost.ensures.1
    (stops_at c.args.image.now c.as_slice-code.result.now _ c.deref_mut.result.now c.in-Some.halt
    c.in_err-cost.field-0.0 c.in_ok-facts.ensures (c.is_at.ensures (search rules))
    (first_of (omega (arith, c.in-Some.ensures), search rules)) c.in_err-cost.ensures.stuck (search rules)
    (search rules))
