use Rattle.std.proofs.Common.{◌∷◌, [], subst}
use Rattle.vsi_infer.specs.FirstSteps.{IsFrom, kept_of}
use Rattle.vsi_infer.proofs.KeptLemmas.{from_left_out}
use Rattle.vsi_infer.proofs.looking.look.Goals as goal

pub returns-then-is_left_out : goal.returns-then-is_left_out
returns-then-is_left_out g c =
    from_left_out (g.W.Wanted.wants c.args.wanted.now) (c.args.step ∷ []) (kept_of c.args.log.now)
    (kept_of c.is_left_out.new.log) c.is_left_out.result c.is_left_out.ensures.kept c.is_left_out.ensures.every
    c.if-is_left_out.true

pub returns : goal.returns
returns g c =
    subst (λ k. IsFrom (g.W.Wanted.wants c.args.wanted.now) (c.args.step ∷ []) k (kept_of c.keep_wanted.new.log))
    c.is_left_out.ensures.kept c.in_ok-keep_wanted.ensures
