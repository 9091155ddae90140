use Rattle.std.proofs.Common.{◌≡◌, Some, rules}
use Rattle.toml.specs.View.{view}
use Rattle.vsi_lattice.specs.Shape.{pair_of}
use Rattle.vsi_lattice.proofs.ShapeLemmas.{so_far_push}
use Rattle.vsi_image.specs.Fields.{global}
use Rattle.vsi_conform.proofs.reader.globals_in.Goals as goal

pub loop-value-preserved : goal.loop-value-preserved
loop-value-preserved c =
    let global_is : Some (global (c.in_ok-name.name, c.in_ok-class.class)) ≡ pair_of (view c.value-item.result) =
    search rules in
    so_far_push global pair_of c.as_slice-array.result.now c.loop-value.found.items c.push.new.self.items
    (c.in_ok-name.name, c.in_ok-class.class) c.loop-value.value-index c.value-item.result c.loop-value-test.true c.value-item.is
    global_is c.in_ok-push.ensures.items c.loop-value.invariant
