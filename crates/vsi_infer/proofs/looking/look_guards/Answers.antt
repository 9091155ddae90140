use Rattle.vsi_types.specs.Steps.{flows}
use Rattle.vsi_infer.specs.FirstSteps.{kept_of}
use Rattle.vsi_infer.proofs.KeptLemmas.{among_none, among_again, from_quick}
use Rattle.vsi_infer.proofs.looking.look_guards.Goals as goal

pub loop-word-init : goal.loop-word-init
loop-word-init g c = among_none (g.W.Wanted.wants c.args.wanted.now)
    (flows c.args.target c.args.written c.args.guards.now) (kept_of c.args.log.now)

pub loop-word-preserved : goal.loop-word-preserved
loop-word-preserved g c =
    among_again (g.W.Wanted.wants c.args.wanted.now) (flows c.args.target c.args.written c.args.guards.now)
    (kept_of c.args.log.now) (kept_of c.loop-word.log) (kept_of c.look_word.new.log) c.loop-word.invariant
    c.in_ok-look_word.ensures

pub returns : goal.returns
returns g c =
    from_quick (g.W.Wanted.wants c.args.wanted.now) (flows c.args.target c.args.written c.args.guards.now)
    (kept_of c.args.log.now) (kept_of c.loop-word.log) c.if-log.false c.loop-word.invariant
