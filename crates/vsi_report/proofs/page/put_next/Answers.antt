use Rattle.std.proofs.Common.{◌∙◌, ap, sym, append-nil}
use Rattle.vsi_report.specs.Filled.{text_at}
use Rattle.vsi_report.specs.Parts.{texts_of}
use Rattle.vsi_report.proofs.FilledLemmas.{hole_filled, part_stated, part_words, no_words}
use Rattle.vsi_report.proofs.page.put_next.Goals as goal

pub returns-in_ok-put_part-in-Some : goal.returns-in_ok-put_part-in-Some
returns-in_ok-put_part-in-Some c = λ h rest.
    let ps = c.args.parts.now in
    let p = c.in-Some.part.now in
    let k = c.saturating_sub.result in
    let found = c.in-Some.ensures.lookup.3 in
    hole_filled (texts_of ps) c.args.is_hole c.args.byte _ _ _ rest c.if-is_hole.true
    (c.in_ok-put_part-in-Some.ensures (part_stated ps k p p found.0 (found.1 p) h))
    (part_words ps k p p found.0 (found.1 p) ∙ ap (text_at (texts_of ps)) c.saturating_sub.ensures)

pub returns-in-None : goal.returns-in-None
returns-in-None c = λ h rest.
    let ps = c.args.parts.now in
    hole_filled (texts_of ps) c.args.is_hole c.args.byte _ _ _ rest c.if-is_hole.true
    (sym (append-nil c.args.page.now.items))
    (sym (no_words ps c.saturating_sub.result c.in-None.ensures.lookup.3)
    ∙ ap (text_at (texts_of ps)) c.saturating_sub.ensures)
