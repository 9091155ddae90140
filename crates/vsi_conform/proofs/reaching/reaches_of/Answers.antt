use Rattle.std.proofs.Common.{◌≤◌, arith, length, map}
use Rattle.std.proofs.lemmas.Grind.{common_steps}
use Rattle.vsi_conform.specs.Reading.{cycle}
use Rattle.vsi_conform.specs.Reaching.{flowing, released}
use Rattle.vsi_conform.proofs.Released.{all_there, more_released}
use Rattle.vsi_conform.proofs.reaching.reaches_of.Goals as goal

pub loop-cycle-preserved : goal.loop-cycle-preserved
loop-cycle-preserved c =
    let flows = flowing c.args.flows.now in
    let item = c.cycle-item.result in
    let done : length item.released.items ≤ c.loop-output.output-index =
    grind (arith, common_steps, c.loop-output-test.false, c.deref-output-items.ensures.value) in
    more_released flows c.args.cycles.now c.loop-cycle.cycle-index item (map released c.loop-cycle.reaches.items)
    (map released c.loop-output.reaches.items) _ c.loop-cycle-test.true c.cycle-item.is c.loop-cycle.invariant
    (all_there flows (cycle item) item.released.items c.loop-output.output-index
    (map released c.loop-cycle.reaches.items) (map released c.loop-output.reaches.items) done c.loop-output.invariant)
