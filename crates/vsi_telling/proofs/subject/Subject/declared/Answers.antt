use Rattle.vsi_compiler.proofs.Held.{globals_at, declared_at}
use Rattle.vsi_telling.proofs.subject.Subject.declared.Goals as goal

pub class_in-requires-clause-globals : goal.class_in-requires-clause-globals
class_in-requires-clause-globals c =
    globals_at _ c.resolved-resolved.ensures.kept _ _ c.lattice-lattice.ensures
    c.resolved-resolved.ensures.value

pub class_in-requires-clause-declared : goal.class_in-requires-clause-declared
class_in-requires-clause-declared c =
    declared_at _ c.resolved-resolved.ensures.kept _ _ c.lattice-lattice.ensures
    c.resolved-resolved.ensures.value
