use Rattle.std.proofs.Common.{rules, ◌≡◌}
use Rattle.vsi_syntax.specs.declared.tree.Stmt.{the_lemmas}
use Rattle.vsi_syntax.specs.Tree.{Assign}
use Rattle.vsi_syntax.specs.View as view
use Rattle.vsi_syntax.specs.CommandView.{command}
use Rattle.vsi_hints.proofs.offers.is_assignment.Goals as goal

pub returns : goal.returns
returns c = λ _.
    let whole : command c.args.written.now ≡ Assign (view.named c.in-Assign._name) (view.tree c.in-Assign._value) =
    search (rules, the_lemmas) in
    (view.named c.in-Assign._name, (view.tree c.in-Assign._value, whole))
