use Rattle.std.proofs.Common.{◌==◌, ◌∙◌, [], ap, map, rules, tests}
use Rattle.std.proofs.lemmas.Iterator.{items_from_drains}
use Rattle.std.proofs.lemmas.Iterator.Splits.{YieldsList-from_slice_split}
use Rattle.vsi_lsp.specs.Ways.{led_on}
use Rattle.vsi_lsp.proofs.projects.way_to.Goals as goal

pub loop-part-init : goal.loop-part-init
loop-part-init c =
    let ran = c.in_ok-parts.ensures.ran in
    rw (c.new-names.ensures.items)
    (ap (led_on [])
    (ap (map (λ n. n.now)) (c.deref-part-items.ensures.value ∙ ran.2.0)
    ∙ items_from_drains ran.0 ran.1
    (YieldsList-from_slice_split _ (λ b. b == 47) c.args.path.now c.split.ensures.rest c.split.ensures.done
    c.split.ensures.closure (λ x b q h. search (rules, tests)))))
