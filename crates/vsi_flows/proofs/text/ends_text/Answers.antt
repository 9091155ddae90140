use Rattle.vsi_compiler.proofs.Held.{globals_at, declared_at}
use Rattle.vsi_flows.proofs.text.ends_text.Goals as goal

pub put_variable-requires-clause-globals : goal.put_variable-requires-clause-globals
put_variable-requires-clause-globals c =
    globals_at _ c.resolved-program.ensures.kept _ _ c.lattice-lattice.ensures c.resolved-program.ensures.value

pub put_variable-requires-clause-declared : goal.put_variable-requires-clause-declared
put_variable-requires-clause-declared c =
    declared_at _ c.resolved-program.ensures.kept _ _ c.lattice-lattice.ensures c.resolved-program.ensures.value

pub put_variable-requires-2-clause-globals : goal.put_variable-requires-2-clause-globals
put_variable-requires-2-clause-globals c =
    globals_at _ c.resolved-program.ensures.kept _ _ c.lattice-lattice.ensures c.resolved-program.ensures.value

pub put_variable-requires-2-clause-declared : goal.put_variable-requires-2-clause-declared
put_variable-requires-2-clause-declared c =
    declared_at _ c.resolved-program.ensures.kept _ _ c.lattice-lattice.ensures c.resolved-program.ensures.value
