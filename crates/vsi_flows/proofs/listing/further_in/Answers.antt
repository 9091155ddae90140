use Rattle.vsi_compiler.proofs.Held.{globals_at, declared_at}
use Rattle.vsi_flows.proofs.FurtherLemmas.{further_made}
use Rattle.vsi_flows.proofs.listing.further_in.Goals as goal

pub flows_in-requires-clause-globals : goal.flows_in-requires-clause-globals
flows_in-requires-clause-globals c =
    globals_at _ c.resolved-resolved.ensures.kept _ _ c.lattice-lattice.ensures
    c.resolved-resolved.ensures.value

pub flows_in-requires-clause-declared : goal.flows_in-requires-clause-declared
flows_in-requires-clause-declared c =
    declared_at _ c.resolved-resolved.ensures.kept _ _ c.lattice-lattice.ensures
    c.resolved-resolved.ensures.value

pub returns-in-Ok : goal.returns-in-Ok
returns-in-Ok c =
    further_made c.args.source.now c.args.profile c.args.from c.args.to c.lattice-lattice.result.now
    c.resolved-resolved.result.now c.lattice-lattice.ensures c.resolved-resolved.ensures.value _ c.deref.result.now
    c.deref.ensures.value c.in-Ok.ensures.table (λ v. v.items) c.further_pairs.result c.further_pairs.ensures
