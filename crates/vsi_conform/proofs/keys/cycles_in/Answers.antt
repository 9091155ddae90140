use Rattle.std.proofs.Common.{[], ◌∷◌, map, sym, ap, subst, ◌∙◌}
use Rattle.std.proofs.lemmas.List.{map-append}
use Rattle.std.proofs.lemmas.List.Elements.{All-push}
use Rattle.std.specs.List.{All}
use Rattle.vsi_image.specs.Fields.{globals}
use Rattle.vsi_lattice.proofs.ShapeLemmas.{so_far_push}
use Rattle.vsi_conform.specs.Reading.{BoundsGlobals, cycle, cycle_of}
use Rattle.vsi_conform.proofs.keys.cycles_in.Goals as goal

pub loop-i-preserved : goal.loop-i-preserved
loop-i-preserved c =
    let P = BoundsGlobals (globals c.args.globals.now) in
    let all =
    ap (map cycle) c.in_ok-push.ensures.items ∙ map-append cycle c.loop-i.cycles.items (c.in_ok-cycle.cycle ∷ [])
    in
    record {
      so_far =
          so_far_push cycle cycle_of c.in_ok-array.array.now c.loop-i.cycles.items c.push.new.self.items
          c.in_ok-cycle.cycle c.loop-i.i c.index-array-i.result c.loop-i-test.true c.index-array-i.is
          (sym c.in_ok-cycle.ensures.cycle) c.in_ok-push.ensures.items c.loop-i.invariant.so_far;
      named =
          subst (All P) (sym all)
          (All-push P (map cycle c.loop-i.cycles.items) (cycle c.in_ok-cycle.cycle) c.loop-i.invariant.named
          c.in_ok-cycle.ensures.named);
    }
