use Rattle.vsi_compiler.proofs.Held.{globals_at, declared_at}
use Rattle.vsi_lsp.proofs.reading.put_line.Goals as goal

pub put_variable-requires-clause-globals : goal.put_variable-requires-clause-globals
put_variable-requires-clause-globals c =
    globals_at _ c.resolved.ensures.kept _ _ c.lattice.ensures c.resolved.ensures.value

pub put_variable-requires-clause-declared : goal.put_variable-requires-clause-declared
put_variable-requires-clause-declared c =
    declared_at _ c.resolved.ensures.kept _ _ c.lattice.ensures c.resolved.ensures.value
