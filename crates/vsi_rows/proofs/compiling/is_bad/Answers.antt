use Rattle.vsi_compiler.proofs.Held.{globals_at, declared_at}
use Rattle.vsi_rows.proofs.compiling.is_bad.Goals as goal

pub check_walk-is_bad-requires-clause-globals : goal.check_walk-is_bad-requires-clause-globals
check_walk-is_bad-requires-clause-globals c = globals_at _ c.resolved-program.ensures.kept _ _ c.lattice-lattice.ensures
    c.resolved-program.ensures.value

pub check_walk-is_bad-requires-clause-declared : goal.check_walk-is_bad-requires-clause-declared
check_walk-is_bad-requires-clause-declared c = declared_at _ c.resolved-program.ensures.kept _ _ c.lattice-lattice.ensures
    c.resolved-program.ensures.value

pub check_walk_in-is_bad-requires-clause-globals : goal.check_walk_in-is_bad-requires-clause-globals
check_walk_in-is_bad-requires-clause-globals c = globals_at _ c.resolved-program.ensures.kept _ _ c.lattice-lattice.ensures
    c.resolved-program.ensures.value

pub check_walk_in-is_bad-requires-clause-declared : goal.check_walk_in-is_bad-requires-clause-declared
check_walk_in-is_bad-requires-clause-declared c = declared_at _ c.resolved-program.ensures.kept _ _ c.lattice-lattice.ensures
    c.resolved-program.ensures.value

pub check_walk_once-requires-clause-globals : goal.check_walk_once-requires-clause-globals
check_walk_once-requires-clause-globals c = globals_at _ c.resolved-program.ensures.kept _ _ c.lattice-lattice.ensures
    c.resolved-program.ensures.value

pub check_walk_once-requires-clause-declared : goal.check_walk_once-requires-clause-declared
check_walk_once-requires-clause-declared c = declared_at _ c.resolved-program.ensures.kept _ _ c.lattice-lattice.ensures
    c.resolved-program.ensures.value
