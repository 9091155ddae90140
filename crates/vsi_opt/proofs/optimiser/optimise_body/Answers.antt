use Rattle.std.proofs.Common.{sym, ap, ◌∙◌, subst}
use Rattle.vsi_scope.specs.View.{sequence}
use Rattle.vsi_opt.specs.Folding.{append, fold}
use Rattle.vsi_opt.specs.Ranges.{Fits}
use Rattle.vsi_opt.proofs.Kept.{fold_fits}
use Rattle.vsi_opt.proofs.optimiser.optimise_body.Goals as goal

pub kept_live_all-requires : goal.kept_live_all-requires
kept_live_all-requires c =
    let body = sequence c.args.body.now in
    subst (Fits c.args.globals)
    (sym (ap sequence c.deref.ensures.value ∙ c.in_ok-fold_all.ensures
    ∙ ap (λ l. append (sequence l) (fold body)) c.new-folded.ensures.items))
    (fold_fits body c.args.globals c.requires.places c.requires.limit)
