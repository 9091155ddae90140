use Rattle.std.proofs.Common.{sym, ◌∙◌, arith}
use Rattle.vsi_scope.proofs.Scoping.{found_at, not_at}
use Rattle.vsi_scope.proofs.resolution.whole.innermost.Goals as goal

pub returns-then-eq-clause-place : goal.returns-then-eq-clause-place
returns-then-eq-clause-place c =
    sym (c.loop-at.invariant.1 ∙ found_at c.args.names.now c.loop-at.at _ c.args.name.now c.loop-at-test.true
    c.loop-at.invariant.0 (sym c.eq.ensures ∙ c.if-eq.true))

pub loop-at-preserved : goal.loop-at-preserved
loop-at-preserved c = (
  omega (arith, c.loop-at.invariant.0),
  c.loop-at.invariant.1
      ∙ not_at c.args.names.now c.loop-at.at _ c.args.name.now c.loop-at-test.true c.loop-at.invariant.0
      (sym c.eq.ensures ∙ c.if-eq.false),
)
