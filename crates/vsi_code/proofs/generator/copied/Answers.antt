use Rattle.std.proofs.Common.{rules, ◌≡◌, ◌∙◌, ap}
use Rattle.vsi_image.specs.Fields as image
use Rattle.vsi_code.proofs.Names.{copied_more}
use Rattle.vsi_code.proofs.generator.copied.Goals as goal

pub loop-global-preserved : goal.loop-global-preserved
loop-global-preserved c =
    let g = c.global-item.result in
    let name : c.in_ok-name.name.items ≡ g.name.now = search rules in
    let class : c.in_ok-class_name.class_name.items ≡ g.class_name.now = search rules in
    let more = copied_more c.loop-global.copies.items c.args.globals.now c.loop-global.global-index g in
    ap image.globals c.in_ok-push.ensures.items
    ∙ more c.loop-global-test.true c.global-item.is c.loop-global.invariant _ _ name class
