use Rattle.std.proofs.Common.{subst}
use Rattle.std.specs.Prelude.{IfOk}
use Rattle.vsi_report.specs.FlowsGraph.{IsFlowsGraph, IsPolicyGraph}
use Rattle.vsi_requests.proofs.documents.graph_of.Goals as goal

pub returns-then-is_alone-clause-graph : goal.returns-then-is_alone-clause-graph
returns-then-is_alone-clause-graph c = rw c.if-is_alone.true
    (subst
    (λ P. IfOk c.flows_dot.result (λ graph. IsFlowsGraph c.args.classes.now P c.args.text.now graph.items))
    c.profile-judged.ensures c.flows_dot.ensures.graph)

pub returns-else-is_alone-clause-graph : goal.returns-else-is_alone-clause-graph
returns-else-is_alone-clause-graph c = rw c.if-is_alone.false
    (subst
    (λ P. IfOk c.policy_dot.result (λ graph. IsPolicyGraph c.args.classes.now P c.args.text.now graph.items))
    c.profile-judged.ensures c.policy_dot.ensures.graph)
