use Rattle.vsi_types.specs.Steps.{flows}
use Rattle.vsi_infer.specs.FirstSteps.{kept_of}
use Rattle.vsi_infer.proofs.KeptLemmas.{among_none, among_again}
use Rattle.vsi_infer.proofs.looking.look_word.Goals as goal

pub returns-then-bits-eq0 : goal.returns-then-bits-eq0
returns-then-bits-eq0 g c = among_none (g.W.Wanted.wants c.args.wanted.now)
    (flows c.args.target c.args.written c.args.guards.now) (kept_of c.args.log.now)

pub loop-bit-init : goal.loop-bit-init
loop-bit-init g c = among_none (g.W.Wanted.wants c.args.wanted.now)
    (flows c.args.target c.args.written c.args.guards.now) (kept_of c.args.log.now)

pub loop-bit-preserved : goal.loop-bit-preserved
loop-bit-preserved g c =
    among_again (g.W.Wanted.wants c.args.wanted.now) (flows c.args.target c.args.written c.args.guards.now)
    (kept_of c.args.log.now) (kept_of c.loop-bit.log) (kept_of c.look_guard.new.log) c.loop-bit.invariant
    c.in_ok-look_guard.ensures
