use Rattle.std.proofs.Common.{refl}
use Rattle.vsi_compiler.proofs.Held.{of_parts, globals_at, declared_at}
use Rattle.vsi_conform.proofs.reaching.flows_of.Goals as goal

pub flows_in-requires-clause-globals : goal.flows_in-requires-clause-globals
flows_in-requires-clause-globals c =
    globals_at _ c.resolved-resolved.ensures.kept _ _ c.lattice-lattice.ensures c.resolved-resolved.ensures.value

pub flows_in-requires-clause-declared : goal.flows_in-requires-clause-declared
flows_in-requires-clause-declared c =
    declared_at _ c.resolved-resolved.ensures.kept _ _ c.lattice-lattice.ensures c.resolved-resolved.ensures.value
