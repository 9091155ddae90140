use Rattle.std.proofs.Common.{sym, subst}
use Rattle.vsi_scope.specs.View.{expression}
use Rattle.vsi_types.specs.Steps.{reads}
use Rattle.vsi_infer.specs.FirstSteps.{IsFrom, kept_of}
use Rattle.vsi_infer.proofs.KeptLemmas.{from_none, endings_asked, endings_unasked}
use Rattle.vsi_infer.proofs.looking.look_ending.Goals as goal

pub returns-then-not-observes_ending : goal.returns-then-not-observes_ending
returns-then-not-observes_ending g c =
    let W = g.W.Wanted.wants c.args.wanted.now in
    let old = kept_of c.args.log.now in
    subst (λ l. IsFrom W l old old)
    (sym (endings_unasked c.args.profile c.args.looping (reads c.args.scope.now (expression c.args.guard.now))
    (sym c.if-not-observes_ending.ensures))) (from_none W old)

pub returns : goal.returns
returns g c =
    subst (λ l. IsFrom (g.W.Wanted.wants c.args.wanted.now) l (kept_of c.args.log.now) (kept_of c.look_endings.new.log))
    (endings_asked c.args.profile c.args.looping (reads c.args.scope.now (expression c.args.guard.now))
    (sym c.if-not-observes_ending.ensures)) c.in_ok-look_endings.ensures
