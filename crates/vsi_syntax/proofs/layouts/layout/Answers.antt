use Rattle.std.proofs.lemmas.Result.{err_from_is_err_and}
use Rattle.vsi_syntax.proofs.Laid.{layout_good, layout_kept, lexical_memory, read_from, read_tokens, syntactic_memory}
use Rattle.vsi_syntax.proofs.layouts.layout.Goals as goal

pub returns-in_err-tokens-clause-exact : goal.returns-in_err-tokens-clause-exact
returns-in_err-tokens-clause-exact c = λ h.
    let p = err_from_is_err_and c.from_residual.result c.from_residual.ensures.1 in
    rw (p.1, p.2)
    (lexical_memory c.in_err-tokens.field-0.0 (c.in_err-tokens.ensures.exact h.tokens h.read.short h.read.cut))

pub returns-in_err-_program-clause-exact : goal.returns-in_err-_program-clause-exact
returns-in_err-_program-clause-exact c = λ h.
    let p = err_from_is_err_and c.from_residual-in_err-_program.result c.from_residual-in_err-_program.ensures.1 in
    let written = read_tokens c.args.text.now c.in_ok-tokens.tokens.items h c.in_ok-tokens.ensures.cut.1 in
    let only = rw (c.deref.ensures.value) at c.in_err-_program.ensures.only in
    rw (p.1, p.2) (syntactic_memory c.in_err-_program.field-0.0 h.tree (only h.tree h.read.program written))

pub returns-then-branch-clause-laid : goal.returns-then-branch-clause-laid
returns-then-branch-clause-laid c =
    let cut = c.in_ok-tokens.ensures.cut in
    layout_good c.args.text.now c.in_ok-tokens.tokens.items c.deref-3.result.now c.in_ok-out.out.items
    c.deref-4.result.now _ c.deref-3.ensures.value c.deref-4.ensures.value
    (read_from _ _ _ cut.0 cut.1 c.in_ok-_program._program.keeps
    (rw (c.deref.ensures.value) at c.in_ok-_program.ensures.found)) (c.in_ok-is_good.ensures.good c.if-branch.true)

pub returns-clause-laid : goal.returns-clause-laid
returns-clause-laid c =
    let cut = c.in_ok-tokens.ensures.cut in
    layout_kept c.args.text.now c.in_ok-tokens.tokens.items c.deref-3.result.now c.in_ok-out.out.items
    c.deref-4.result.now _ _ c.deref-3.ensures.value c.deref-4.ensures.value
    (rw (c.deref-2.ensures.value) at c.in_ok-out.ensures) c.in_ok-from_slice.ensures.items
    (read_from _ _ _ cut.0 cut.1 c.in_ok-_program._program.keeps
    (rw (c.deref.ensures.value) at c.in_ok-_program.ensures.found)) (c.in_ok-is_good.ensures.not_good c.if-branch.false)
