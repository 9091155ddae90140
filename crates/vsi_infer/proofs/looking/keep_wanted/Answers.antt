use Rattle.std.proofs.Common.{◌∙◌, refl, sym}
use Rattle.std.proofs.lemmas.Bool.{false≢true}
use Rattle.vsi_infer.specs.FirstSteps.{kept_of}
use Rattle.vsi_infer.proofs.KeptLemmas.{from_unwanted, from_kept}
use Rattle.vsi_infer.proofs.looking.keep_wanted.Goals as goal

pub returns-then-not-is_wanted : goal.returns-then-not-is_wanted
returns-then-not-is_wanted g c =
    from_unwanted (g.W.Wanted.wants c.args.wanted.now) c.args.step (kept_of c.args.log.now)
    (sym c.if-not-is_wanted.ensures)

pub returns-then-log : goal.returns-then-log
returns-then-log g c =
    from_kept (g.W.Wanted.wants c.args.wanted.now) c.args.step (kept_of c.args.log.now) _
    (sym c.if-not-is_wanted.ensures) refl c.in_ok-keep_one.ensures.kept
    (λ e. c.in_ok-keep_one.ensures.one)

pub returns : goal.returns
returns g c =
    from_kept (g.W.Wanted.wants c.args.wanted.now) c.args.step (kept_of c.args.log.now) _
    (sym c.if-not-is_wanted.ensures) refl c.in_ok-keep.ensures
    (λ e. absurd (false≢true (sym c.if-log.false ∙ e)))
