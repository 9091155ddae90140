use Rattle.std.proofs.Common.{rules, ◌≡◌, ◌++◌, ◌+◌, drop, length, refl, ap, sym, ◌∙◌}
use Rattle.std.proofs.lemmas.List.{append_assoc}
use Rattle.std.proofs.lemmas.Option.{slice_get_read}
use Rattle.vsi_image.specs.Fields.{globals}
use Rattle.vsi_lattice.specs.LatticeView.{class_named, order}
use Rattle.vsi_leak.specs.Texts.{is_shown, shown_row, word_rows}
use Rattle.vsi_leak.proofs.Rows.{rows_step}
use Rattle.vsi_leak.proofs.text.put_rows.Goals as goal

pub loop-i-preserved : goal.loop-i-preserved
loop-i-preserved c =
    let known = class_named c.args.lattice.now in
    let L = order c.args.lattice.now in
    let g = c.index-variables-i.result in
    let w = c.in-Some-Some.one.now in
    let v = c.in-Some-Some.other.now in
    let ws = c.args.words.0.now in
    let vs = c.args.words.1.now in
    let step = rows_step known L c.args.to.now c.args.width c.args.variables.now c.args.words.0.now
    c.args.words.1.now c.loop-i.i g w v
    (slice_get_read c.args.variables.now (length c.args.variables.now) c.loop-i.i g refl (search rules)
    c.index-variables-i.is) (slice_get_read ws (length ws) c.loop-i.i w refl c.in-Some-Some.ensures.lookup.3.0
    c.in-Some-Some.ensures.lookup.1) (slice_get_read vs (length vs) c.loop-i.i v refl
    c.in-Some-Some.ensures'.lookup.3.0 c.in-Some-Some.ensures'.lookup.1) in
    let text = c.loop-i.text.items in
    let row = shown_row (is_shown known L c.args.to.now g.1.items) c.args.width g.0.items w v in
    let rest = word_rows known L c.args.to.now c.args.width (globals (drop (c.loop-i.i + 1) c.args.variables.now))
    (drop (c.loop-i.i + 1) c.args.words.0.now) (drop (c.loop-i.i + 1) c.args.words.1.now) in
    let one : c.put_word_row.new.text.items ≡ text ++ row = search rules in
    ap (λ t. t ++ rest) one ∙ append_assoc text row rest ∙ ap (λ r. text ++ r) (sym step) ∙ c.loop-i.invariant
