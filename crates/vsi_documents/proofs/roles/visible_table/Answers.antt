use Rattle.std.proofs.Common.{◌≡◌, ◌++◌, ◌∙◌, subst, sym}
use Rattle.vsi_documents.specs.Roles.{Boundaries, view}
use Rattle.vsi_documents.specs.Rows.{class_rows, name_at, numbered_rows}
use Rattle.vsi_documents.proofs.Below.{more_below, three_rows}
use Rattle.vsi_documents.proofs.roles.visible_table.Goals as goal

pub loop-class-preserved : goal.loop-class-preserved
loop-class-preserved c =
    let b = view c.side_of-side.result in
    let start = c.put_seen.new.text.items in
    let last = c.put_row-in-loop-class-2.new.text.items in
    more_below start c.loop-class.text.items last (numbered_rows b) c.loop-class.class
    c.loop-class.invariant
    (subst (λ (x : Boundaries). last ≡ c.loop-class.text.items ++ class_rows b (name_at x.lattice c.loop-class.class))
    (sym c.side_of-side.ensures)
    (subst (λ name. last ≡ c.loop-class.text.items ++ class_rows b name) c.name_of-name.ensures
    (three_rows b c.name_of-name.result.now c.loop-class.text.items c.put_row.new.text.items
    c.put_row-in-loop-class.new.text.items last (sym c.has_table.ensures ∙ c.if-not-has_table.false)
    c.in_ok-put_row.ensures c.in_ok-put_row-2.ensures c.in_ok-put_row-3.ensures)))
