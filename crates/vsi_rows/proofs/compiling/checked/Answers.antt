use Rattle.vsi_compiler.proofs.Held.{globals_at}
use Rattle.vsi_rows.proofs.compiling.checked.Goals as goal

pub check-requires-clause-globals : goal.check-requires-clause-globals
check-requires-clause-globals c = globals_at _ c.resolved-program.ensures.kept _ _ c.lattice-lattice.ensures
    c.resolved-program.ensures.value

pub check_in-requires-clause-globals : goal.check_in-requires-clause-globals
check_in-requires-clause-globals c = globals_at _ c.resolved-program.ensures.kept _ _ c.lattice-lattice.ensures
    c.resolved-program.ensures.value
