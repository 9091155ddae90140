use Rattle.std.proofs.Common.{rules, arith, ◌≡◌, ap, ◌∙◌, pos}
use Rattle.std.proofs.lemmas.Int.{ints}
use Rattle.vsi_syntax.specs.declared.tree.Op.TheVariants as o
use Rattle.vsi_syntax.specs.Tree as tree
use Rattle.vsi_syntax.specs.View as view
use Rattle.vsi_audit.proofs.TreeParts.{number_written, least_written, below_written, same_word, same_opposite}
use Rattle.vsi_audit.proofs.writing.writes_number.Goals as goal

pub returns-then-n-ge0 : goal.returns-then-n-ge0
returns-then-n-ge0 c = λ names holds.
    number_written names c.args.number.now (view.tree c.args.written.now) (omega (arith, ints))
    (c.is_number.ensures holds ∙ ap tree.Number (same_word c.args.number.now (search rules)))

pub returns-else-not-is_number : goal.returns-else-not-is_number
returns-else-not-is_number c = λ names holds.
    let whole : view.tree c.args.written.now ≡ tree.Binary o.Add (view.tree c.deref.result.now)
    (view.tree c.deref-in-Add.result.now) = search rules in
    let left : view.tree c.deref.result.now ≡ tree.Number (pos 9223372036854775807) = search rules in
    least_written names c.args.number.now (view.tree c.args.written.now) _ _ whole (omega (arith, ints)) left
    (c.is_number-in-Add-2.ensures holds)

pub returns-else-not-is_number-2 : goal.returns-else-not-is_number-2
returns-else-not-is_number-2 c = λ names holds.
    let whole : view.tree c.args.written.now ≡ tree.Binary o.Sub (view.tree c.deref-in-Sub.result.now)
    (view.tree c.deref-in-Sub-2.result.now) = search rules in
    let left : view.tree c.deref-in-Sub.result.now ≡ tree.Number (pos 0) = search rules in
    below_written names c.args.number.now (view.tree c.args.written.now) _ (view.tree c.deref-in-Sub-2.result.now) whole
    (omega (arith, ints)) (omega (arith, ints)) left
    (c.is_number-in-Sub-2.ensures holds
    ∙ ap tree.Number (same_opposite c.args.number.now (search rules) (omega (arith, ints))))
