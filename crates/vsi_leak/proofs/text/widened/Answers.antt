use Rattle.std.proofs.Common.{rules, ◌≡◌, ◌+◌, max, drop, length, refl}
use Rattle.std.proofs.lemmas.Option.{slice_get_read}
use Rattle.vsi_image.specs.Fields.{globals}
use Rattle.vsi_lattice.specs.LatticeView.{class_named, order}
use Rattle.vsi_leak.specs.Texts.{is_shown, shown_cell, left_cells, longest}
use Rattle.vsi_leak.proofs.Rows as rows
use Rattle.vsi_leak.proofs.text.widened.Goals as goal

pub loop-i-preserved : goal.loop-i-preserved
loop-i-preserved c =
    let known = class_named c.args.lattice.now in
    let L = order c.args.lattice.now in
    let to = c.args.to.now in
    let g = c.index-variables-i.result in
    let w = c.in-Some-Some.word.now in
    let v = c.in-Some-Some.field-0-1.now in
    let vs = c.args.variables.now in
    let ws = c.args.words.0.now in
    let us = c.args.words.1.now in
    let i = c.loop-i.i in
    let step = rows.cells_step known L to vs ws us i g w v
    (slice_get_read vs (length vs) i g refl (search rules) c.index-variables-i.is)
    (slice_get_read ws (length ws) i w refl c.in-Some-Some.ensures.lookup.3.0 c.in-Some-Some.ensures.lookup.1)
    (slice_get_read us (length us) i v refl c.in-Some-Some.ensures'.lookup.3.0 c.in-Some-Some.ensures'.lookup.1) in
    let cell = shown_cell (is_shown known L to g.1.items) g.0.items w in
    let rest = left_cells known L to (globals (drop (i + 1) vs)) (drop (i + 1) ws) (drop (i + 1) us) in
    let here : c.in_ok-widest.widest ≡ max c.loop-i.widest (longest cell) = search rules in
    rows.widened c.loop-i.widest c.in_ok-widest.widest
    (max c.args.width (longest (left_cells known L to (globals vs) ws us))) cell rest
    (left_cells known L to (globals (drop i vs)) (drop i ws) (drop i us)) here step c.loop-i.invariant
