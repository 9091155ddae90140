use Rattle.std.proofs.Common.{[], ◌∷◌, map, sym, ap, subst, ◌∙◌}
use Rattle.std.proofs.lemmas.List.{map-append}
use Rattle.std.proofs.lemmas.List.Elements.{All-push}
use Rattle.std.specs.List.{All}
use Rattle.vsi_image.specs.Fields.{globals}
use Rattle.vsi_lattice.proofs.ShapeLemmas.{so_far_push}
use Rattle.vsi_conform.specs.Reading.{NamesGlobals, run, run_of}
use Rattle.vsi_conform.proofs.keys.trials_in.Goals as goal

pub loop-i-preserved : goal.loop-i-preserved
loop-i-preserved c =
    let P = NamesGlobals (globals c.args.globals.now) in
    let all = ap (map run) c.in_ok-push.ensures.items ∙ map-append run c.loop-i.trials.items (c.in_ok-trial.trial ∷ [])
    in
    record {
      so_far =
          so_far_push run run_of c.in_ok-array.array.now c.loop-i.trials.items c.push.new.self.items
          c.in_ok-trial.trial c.loop-i.i c.index-array-i.result c.loop-i-test.true c.index-array-i.is
          (sym c.in_ok-trial.ensures.run) c.in_ok-push.ensures.items c.loop-i.invariant.so_far;
      named =
          subst (All P) (sym all)
          (All-push P (map run c.loop-i.trials.items) (run c.in_ok-trial.trial) c.loop-i.invariant.named
          c.in_ok-trial.ensures.named);
    }
