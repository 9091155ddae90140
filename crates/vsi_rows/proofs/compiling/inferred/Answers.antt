use Rattle.vsi_compiler.proofs.Held.{globals_at, declared_at}
use Rattle.vsi_rows.proofs.compiling.inferred.Goals as goal

pub infer-requires-clause-globals : goal.infer-requires-clause-globals
infer-requires-clause-globals c = globals_at _ c.resolved-program.ensures.kept _ _ c.lattice-lattice.ensures
    c.resolved-program.ensures.value

pub infer-requires-clause-declared : goal.infer-requires-clause-declared
infer-requires-clause-declared c = declared_at _ c.resolved-program.ensures.kept _ _ c.lattice-lattice.ensures
    c.resolved-program.ensures.value

pub infer_in-requires-clause-globals : goal.infer_in-requires-clause-globals
infer_in-requires-clause-globals c = globals_at _ c.resolved-program.ensures.kept _ _ c.lattice-lattice.ensures
    c.resolved-program.ensures.value

pub infer_in-requires-clause-declared : goal.infer_in-requires-clause-declared
infer_in-requires-clause-declared c = declared_at _ c.resolved-program.ensures.kept _ _ c.lattice-lattice.ensures
    c.resolved-program.ensures.value
