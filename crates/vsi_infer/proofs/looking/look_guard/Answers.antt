use Rattle.std.proofs.Common.{rules, [], ◌∷◌, subst}
use Rattle.std.specs.List.{Contains}
use Rattle.vsi_types.specs.Steps.{flow, flows}
use Rattle.vsi_infer.specs.FirstSteps.{IsFrom, kept_of}
use Rattle.vsi_infer.proofs.KeptLemmas.{among_none, among_some, guard_there}
use Rattle.vsi_infer.proofs.looking.look_guard.Goals as goal

pub returns-in-None : goal.returns-in-None
returns-in-None g c = among_none (g.W.Wanted.wants c.args.wanted.now)
    (flows c.args.target c.args.written c.args.guards.now) (kept_of c.args.log.now)

pub returns-in_default : goal.returns-in_default
returns-in_default g c = among_none (g.W.Wanted.wants c.args.wanted.now)
    (flows c.args.target c.args.written c.args.guards.now) (kept_of c.args.log.now)

pub returns : goal.returns
returns g c =
    let W = g.W.Wanted.wants c.args.wanted.now in
    let gs = c.args.guards.now in
    let e = c.in-Some-get.g.now in
    let h : Contains gs e = search rules in
    let old = kept_of c.args.log.now in
    let new = kept_of c.look.new.log in
    let f = subst (λ s. IsFrom W (s ∷ []) old new) c.flow_of.ensures c.in_ok-look.ensures in
    among_some W (flow c.args.target c.args.written e ∷ []) (flows c.args.target c.args.written gs) old new
    (guard_there c.args.target c.args.written gs e h) f.among
