use Rattle.std.proofs.lemmas.Result.{err_from_is_err_and}
use Rattle.vsi_compiler.proofs.Sources.{reads_from, reads_tokens, words_refused, lexical_memory, tree_refused, syntactic_memory, found_is}
use Rattle.vsi_compiler.proofs.source.read_program.Goals as goal

pub returns-in_err-tokens-clause-refused : goal.returns-in_err-tokens-clause-refused
returns-in_err-tokens-clause-refused c =
    let p = err_from_is_err_and c.from_residual.result c.from_residual.ensures.1 in
    rw (p.1, p.2) (words_refused c.args.text.now c.in_err-tokens.field-0.0 c.in_err-tokens.ensures.refused)

pub returns-in_err-tokens-clause-exact : goal.returns-in_err-tokens-clause-exact
returns-in_err-tokens-clause-exact c = λ tree r.
    let p = err_from_is_err_and c.from_residual.result c.from_residual.ensures.1 in
    rw (p.1, p.2) (lexical_memory c.in_err-tokens.field-0.0 (c.in_err-tokens.ensures.exact r.tokens r.short r.cut))

pub returns-in_err-program-clause-refused : goal.returns-in_err-program-clause-refused
returns-in_err-program-clause-refused c =
    let p = err_from_is_err_and c.from_residual-in_err-program.result c.from_residual-in_err-program.ensures.1 in
    let cut = c.in_ok-tokens.ensures.cut in
    rw (p.1, p.2) (tree_refused c.args.text.now c.in_ok-tokens.tokens.items c.in_err-program.field-0.0 cut.0 cut.1
    (rw (c.deref.ensures.value) at c.in_err-program.ensures.only))

pub returns-in_err-program-clause-exact : goal.returns-in_err-program-clause-exact
returns-in_err-program-clause-exact c = λ tree r.
    let p = err_from_is_err_and c.from_residual-in_err-program.result c.from_residual-in_err-program.ensures.1 in
    let written = reads_tokens c.args.text.now c.in_ok-tokens.tokens.items tree c.in_ok-tokens.ensures.cut.1 r in
    let only = rw (c.deref.ensures.value) at c.in_err-program.ensures.only in
    rw (p.1, p.2) (syntactic_memory c.in_err-program.field-0.0 tree (only tree r.program written))

pub returns-clause-reads : goal.returns-clause-reads
returns-clause-reads c =
    let cut = c.in_ok-tokens.ensures.cut in
    reads_from _ _ _ cut.0 cut.1 c.in_ok-program.program.keeps
    (rw (c.deref.ensures.value) at c.in_ok-program.ensures.found)

pub returns-clause-exact : goal.returns-clause-exact
returns-clause-exact c = λ tree r.
    let written = reads_tokens c.args.text.now c.in_ok-tokens.tokens.items tree c.in_ok-tokens.ensures.cut.1 r in
    let only = rw (c.deref.ensures.value) at c.in_ok-program.ensures.only in
    found_is tree _ (only tree r.program written)
