use Rattle.std.proofs.lemmas.Result.{err_from_is_err_and}
use Rattle.vsi_syntax.specs.View.{tree}
use Rattle.vsi_scope.specs.Faults.{uses}
use Rattle.vsi_scope.specs.Resolver.{names_of}
use Rattle.vsi_scope.proofs.Faulty.{refuses_first, refuses_behind, none_in_both}
use Rattle.vsi_scope.proofs.resolution.command.+expression.Goals as goal

pub returns-in_err-left-in-Binary-clause-fault : goal.returns-in_err-left-in-Binary-clause-fault
returns-in_err-left-in-Binary-clause-fault t c classes =
    let p = err_from_is_err_and c.from_residual.result c.from_residual.ensures.1 in
    let names = names_of c.args.names.now in
    rw (p.1, p.2, c.in-Binary.is) (refuses_first c.in_err-left-in-Binary.field-0.0 classes
    (uses names (tree c.in-Binary.a.value)) (uses names (tree c.in-Binary.b.value))
    (rw (c.deref-in-Binary.ensures) at c.in_err-left-in-Binary.ensures.fault classes))

pub returns-in_err-right-in-Binary-clause-fault : goal.returns-in_err-right-in-Binary-clause-fault
returns-in_err-right-in-Binary-clause-fault t c classes =
    let p = err_from_is_err_and c.from_residual-in_err-right-in-Binary.result
    c.from_residual-in_err-right-in-Binary.ensures.1 in
    let names = names_of c.args.names.now in
    rw (p.1, p.2, c.in-Binary.is) (refuses_behind c.in_err-right-in-Binary.field-0.0 classes
    (uses names (tree c.in-Binary.a.value)) (uses names (tree c.in-Binary.b.value))
    (rw (c.deref-in-Binary.ensures) at c.in_ok-left-in-Binary.ensures.fault classes)
    (rw (c.deref-in-Binary-2.ensures) at c.in_err-right-in-Binary.ensures.fault classes))

pub returns-in_ok-new-in-Binary-2-clause-fault : goal.returns-in_ok-new-in-Binary-2-clause-fault
returns-in_ok-new-in-Binary-2-clause-fault t c classes =
    let names = names_of c.args.names.now in
    rw (c.in-Binary.is) (none_in_both classes (uses names (tree c.in-Binary.a.value))
    (uses names (tree c.in-Binary.b.value))
    (rw (c.deref-in-Binary.ensures) at c.in_ok-left-in-Binary.ensures.fault classes)
    (rw (c.deref-in-Binary-2.ensures) at c.in_ok-right-in-Binary.ensures.fault classes))
