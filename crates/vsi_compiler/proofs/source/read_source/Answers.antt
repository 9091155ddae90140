use Rattle.std.proofs.Common.{sym, ap, subst}
use Rattle.std.proofs.lemmas.Result.{err_from_is_err_and}
use Rattle.vsi_lattice.specs.LatticeView.{class_named}
use Rattle.vsi_scope.specs.Resolving.{IsResolution}
use Rattle.vsi_compiler.specs.Errors.{scoping}
use Rattle.vsi_compiler.proofs.Compiled.{known_below}
use Rattle.vsi_compiler.proofs.source.read_source.Goals as goal

pub returns-in_err-tree-clause-exact : goal.returns-in_err-tree-clause-exact
returns-in_err-tree-clause-exact c = λ tree commands reads _.
    let p = err_from_is_err_and c.from_residual.result c.from_residual.ensures.1 in
    rw (p.1, p.2) (c.in_err-tree.ensures.exact tree reads)

pub returns-in_err-resolved-clause-exact : goal.returns-in_err-resolved-clause-exact
returns-in_err-resolved-clause-exact c = λ tree commands reads resolution.
    let p = err_from_is_err_and c.from_residual-in_err-resolved.result c.from_residual-in_err-resolved.ensures.1 in
    let known = class_named c.args.lattice.now in
    let same = c.in_ok-tree.ensures.exact tree reads in
    rw (p.1, p.2) (ap scoping (c.in_err-resolved.ensures.exact commands
    (subst (λ t. IsResolution known t commands) (sym same) resolution)))

pub new-requires-clause-classes : goal.new-requires-clause-classes
new-requires-clause-classes c = c.in_ok-resolved.ensures.classes _ (known_below c.args.lattice.now)

pub new-requires-clause-only : goal.new-requires-clause-only
new-requires-clause-only c = c.in_ok-tree.ensures.exact
