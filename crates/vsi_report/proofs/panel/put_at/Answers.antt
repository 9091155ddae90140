use Rattle.std.proofs.Common.{[], ◌∷◌, ◌++◌, ap, sym, subst, ◌∙◌, append_assoc}
use Rattle.std.specs.Prelude.{codes, slice_index}
use Rattle.vsi_report.specs.Escape.{escape}
use Rattle.vsi_report.specs.Reading.{Shows}
use Rattle.vsi_report.specs.Panel.{line_tag, next_tag}
use Rattle.vsi_report.proofs.EscapeLemmas.{byte_shows, next_shows, both_show, more_shows}
use Rattle.vsi_report.proofs.panel.put_at.Goals as goal

pub returns-then-source-at-ne10 : goal.returns-then-source-at-ne10
returns-then-source-at-ne10 c = λ t h.
    let q = c.put_begin.new.page.items in
    let b = slice_index c.args.source.now c.args.at in
    subst (λ x. Shows x (t ++ b ∷ [])) (sym c.in_ok-put_byte.ensures)
    (both_show q (escape b) t (b ∷ []) (c.in_ok-put_begin.ensures t (c.in_ok-part.ensures t h)) (byte_shows b))

pub returns : goal.returns
returns c = λ t h.
    let q = c.put_begin.new.page.items in
    let b = slice_index c.args.source.now c.args.at in
    let n = c.saturating_add-line.result in
    subst (λ x. Shows x (t ++ b ∷ []))
    (sym (c.in_ok-put_line.ensures ∙ ap (λ x. x ++ line_tag n) (c.in_ok-extend_from_slice.ensures.items
    ∙ ap (λ x. x ++ codes "</span>") c.in_ok-put_byte.ensures) ∙ append_assoc (q ++ escape b) (codes "</span>")
    (line_tag n)))
    (more_shows (q ++ escape b) (next_tag n) (t ++ b ∷ [])
    (both_show q (escape b) t (b ∷ []) (c.in_ok-put_begin.ensures t (c.in_ok-part.ensures t h)) (byte_shows b))
    (next_shows n))
