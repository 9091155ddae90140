use Rattle.std.proofs.lemmas.Result.{err_from_is_err_and}
use Rattle.vsi_compiler.proofs.texts.format_text.Goals as goal

pub returns-in_err-program-clause-exact : goal.returns-in_err-program-clause-exact
returns-in_err-program-clause-exact c = λ tree reads.
    let p = err_from_is_err_and c.from_residual.result c.from_residual.ensures.1 in
    rw (p.1, p.2) (c.in_err-program.ensures.exact tree reads)
