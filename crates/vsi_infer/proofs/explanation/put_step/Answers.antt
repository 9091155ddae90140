use Rattle.vsi_infer.proofs.Begun.{begins, begins_on}
use Rattle.vsi_infer.proofs.explanation.put_step.Goals as goal

pub returns-clause-begins : goal.returns-clause-begins
returns-clause-begins c =
    let old = c.args.text.now.items in
    let read = begins old _ _ c.in_ok-put_place.ensures in
    let blank = begins_on old _ _ _ read c.in_ok-extend_from_slice.ensures.items in
    let source = begins_on old _ _ _ blank c.in_ok-put_name.ensures in
    let flows = begins_on old _ _ _ source c.in_ok-extend_from_slice-2.ensures.items in
    let target = begins_on old _ _ _ flows c.in_ok-put_name-2.ensures in
    let by = begins_on old _ _ _ target c.in_ok-extend_from_slice-3.ensures.items in
    let rule = begins_on old _ _ _ by c.in_ok-extend_from_slice-4.ensures.items in
    let at = begins_on old _ _ _ rule c.in_ok-extend_from_slice-5.ensures.items in
    let written = begins_on old _ _ _ at c.in_ok-put_place-2.ensures in
    begins_on old _ _ _ written c.in_ok-extend_from_slice-6.ensures.items
