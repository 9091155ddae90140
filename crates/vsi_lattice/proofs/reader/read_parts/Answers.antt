use Rattle.std.proofs.Common.{sym, ◌∙◌}
use Rattle.vsi_lattice.proofs.ShapeLemmas.{member_count-view, file_from, not_file}
use Rattle.vsi_lattice.proofs.reader.read_parts.Goals as goal

pub returns-then-len-ne2 : goal.returns-then-len-ne2
returns-then-len-ne2 c =
    let e = member_count-view c.args.table.now.entries in
    not_file _ (λ q. c.if-len-ne2.true (c.len.ensures.len ∙ (sym e ∙ q)))

pub returns : goal.returns
returns c =
    let e = member_count-view c.args.table.now.entries in
    file_from _ _ _ (e ∙ (sym c.len.ensures.len ∙ c.if-len-ne2.false)) (rw c.in-Some.is at c.in_ok-names.ensures)
    (rw c.in-Some-2.is at c.in_ok-pairs.ensures)
