use Rattle.std.proofs.Common.{ap, sym, subst}
use Rattle.vsi_syntax.specs.View as view
use Rattle.vsi_scope.specs.Language.{Location}
use Rattle.vsi_audit.specs.Written.{names_of}
use Rattle.vsi_audit.specs.Writing.{WritesExpression, name}
use Rattle.vsi_audit.proofs.writing.writes_location.Goals as goal

pub returns : goal.returns
returns c = λ span holds.
    subst (WritesExpression (names_of c.args.names.now) (Location c.args.location span))
    (sym (ap view.tree c.in-Name.is)) (name (c.stands_for.ensures holds))
