use Rattle.vsi_compiler.proofs.Held.{globals_at, declared_at}
use Rattle.vsi_flows.proofs.least.raises_of.Goals as goal

pub raises_in-requires-clause-globals : goal.raises_in-requires-clause-globals
raises_in-requires-clause-globals c = globals_at _ c.resolved.ensures.kept _ _ c.lattice.ensures c.resolved.ensures.value

pub raises_in-requires-clause-declared : goal.raises_in-requires-clause-declared
raises_in-requires-clause-declared c =
    declared_at _ c.resolved.ensures.kept _ _ c.lattice.ensures c.resolved.ensures.value
