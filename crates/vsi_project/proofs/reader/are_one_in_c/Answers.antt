use Rattle.std.proofs.Common.{◌∙◌, sym, ap, get_or, arith, ◌<◌, length}
use Rattle.std.proofs.lemmas.List.{get_or-map}
use Rattle.vsi_project.specs.Names as names
use Rattle.vsi_project.proofs.reader.are_one_in_c.Goals as goal

pub returns-then-byte_in_c : goal.returns-then-byte_in_c
returns-then-byte_in_c c = λ _ same.
    let less : c.loop-i.i < length c.args.right.now = omega arith in
    c.if-byte_in_c.true
    (c.byte_in_c.ensures
    ∙ sym (get_or-map names.byte_in_c c.args.left.now c.loop-i.i 0 0 c.loop-i-test.true)
    ∙ ap (λ name. get_or name c.loop-i.i 0) same
    ∙ get_or-map names.byte_in_c c.args.right.now c.loop-i.i 0 0 less
    ∙ sym c.byte_in_c-in-loop-i.ensures)
