use Rattle.vsi_compiler.proofs.Held.{globals_at, declared_at}
use Rattle.vsi_telling.proofs.subject.Subject.raised.Goals as goal

pub raised_in-requires-clause-globals : goal.raised_in-requires-clause-globals
raised_in-requires-clause-globals c =
    globals_at _ c.resolved-resolved.ensures.kept _ _ c.lattice-lattice.ensures
    c.resolved-resolved.ensures.value

pub raised_in-requires-clause-declared : goal.raised_in-requires-clause-declared
raised_in-requires-clause-declared c =
    declared_at _ c.resolved-resolved.ensures.kept _ _ c.lattice-lattice.ensures
    c.resolved-resolved.ensures.value
