use Rattle.std.proofs.Common.{rules, ◌≡◌, ap, sym, subst}
use Rattle.vsi_syntax.specs.Tree as tree
use Rattle.vsi_syntax.specs.View as view
use Rattle.vsi_scope.specs.Language.{Expression, Operator}
use Rattle.vsi_scope.specs.View.{expression}
use Rattle.vsi_audit.specs.Written.{names_of}
use Rattle.vsi_audit.specs.Writing.{WritesExpression, bracket}
use Rattle.vsi_audit.proofs.TreeParts.{operator_written}
use Rattle.vsi_audit.proofs.writing.+writes_expression.Goals as goal

pub returns-in-Bracket : goal.returns-in-Bracket
returns-in-Bracket t c = λ holds.
    let same : view.tree c.args.written.now ≡ tree.Bracket (view.tree c.deref.result.now) = search rules in
    subst (WritesExpression (names_of c.args.names.now) (expression c.args.e.now)) (sym same)
    (bracket (c.writes_expression.ensures holds))

pub returns-in-Num : goal.returns-in-Num
returns-in-Num t c = λ holds.
    subst (λ (e : Expression). WritesExpression (names_of c.args.names.now) e (view.tree c.args.written.now))
    (sym (ap expression c.in-Num.is)) (c.writes_number.ensures (names_of c.args.names.now) holds)

pub returns-else-not-writes_expression : goal.returns-else-not-writes_expression
returns-else-not-writes_expression t c = λ holds.
    let e : expression c.args.e.now ≡ Operator c.in-Op.op (expression c.deref-in-Op-2.result.now)
    (expression c.deref-in-Op-4.result.now) = search rules in
    let written : view.tree c.args.written.now ≡ tree.Binary c.in-Binary.other (view.tree c.deref-in-Op.result.now)
    (view.tree c.deref-in-Op-3.result.now) = search rules in
    operator_written (names_of c.args.names.now) (expression c.args.e.now) _ _ (view.tree c.args.written.now) _ _
    c.in-Op.op c.in-Binary.other e written (search rules) (search rules) (c.writes_expression-in-Op-2.ensures holds)
