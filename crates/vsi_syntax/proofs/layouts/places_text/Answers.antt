use Rattle.std.proofs.lemmas.Result.{err_from_is_err_and}
use Rattle.vsi_syntax.proofs.Laid.{lexical_memory}
use Rattle.vsi_syntax.proofs.layouts.places_text.Goals as goal

pub returns-in_err-tokens-clause-exact : goal.returns-in_err-tokens-clause-exact
returns-in_err-tokens-clause-exact c = λ h i.
    let p = err_from_is_err_and c.from_residual.result c.from_residual.ensures.1 in
    rw (p.1, p.2)
    (lexical_memory c.in_err-tokens.field-0.0 (c.in_err-tokens.ensures.exact h.tokens h.short h.cut))

pub returns-in_err-others-clause-exact : goal.returns-in_err-others-clause-exact
returns-in_err-others-clause-exact c = λ h i.
    let p = err_from_is_err_and c.from_residual-in_err-others.result c.from_residual-in_err-others.ensures.1 in
    rw (p.1, p.2)
    (lexical_memory c.in_err-others.field-0.0 (c.in_err-others.ensures.exact i.tokens i.short i.cut))
