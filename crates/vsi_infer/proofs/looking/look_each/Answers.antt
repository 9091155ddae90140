use Rattle.std.proofs.Common.{◌≤◌, ◌∷◌, [], take, length, arith, sym, subst}
use Rattle.std.proofs.lemmas.List.{take_all}
use Rattle.vsi_types.specs.Steps.{flow, flows}
use Rattle.vsi_infer.specs.FirstSteps.{IsFrom, kept_of}
use Rattle.vsi_infer.proofs.KeptLemmas.{from_none, from_then, flows_more}
use Rattle.vsi_infer.proofs.looking.look_each.Goals as goal

pub loop-g-init : goal.loop-g-init
loop-g-init g c = from_none (g.W.Wanted.wants c.args.wanted.now) (kept_of c.args.log.now)

pub loop-g-preserved : goal.loop-g-preserved
loop-g-preserved g c =
    let W = g.W.Wanted.wants c.args.wanted.now in
    let old = kept_of c.args.log.now in
    let mid = kept_of c.loop-g.log in
    let new = kept_of c.look.new.log in
    let gs = c.args.guards.now in
    let s = flow c.args.target c.args.written c.g-item.result in
    subst (λ l. IsFrom W l old new) (sym (flows_more c.args.target c.args.written gs c.loop-g.g-index c.g-item.result
    c.loop-g-test.true c.g-item.is))
    (from_then W (flows c.args.target c.args.written (take c.loop-g.g-index gs)) (s ∷ []) old mid new
    c.loop-g.invariant (subst (λ x. IsFrom W (x ∷ []) mid new) c.flow_of.ensures c.in_ok-look.ensures))

pub returns : goal.returns
returns g c =
    let gs = c.args.guards.now in
    let le : length gs ≤ c.loop-g.g-index = omega arith in
    subst (λ l. IsFrom (g.W.Wanted.wants c.args.wanted.now) (flows c.args.target c.args.written l)
    (kept_of c.args.log.now) (kept_of c.loop-g.log)) (take_all c.loop-g.g-index gs le) c.loop-g.invariant
