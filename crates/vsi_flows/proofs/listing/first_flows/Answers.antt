use Rattle.vsi_lattice.specs.LatticeView.{order}
use Rattle.vsi_types.specs.Security.{program}
use Rattle.vsi_compiler.proofs.Held.{globals_at, declared_at}
use Rattle.vsi_flows.specs.Table.{IsTold}
use Rattle.vsi_flows.proofs.FurtherLemmas.{further_told, first_told, first_walks}
use Rattle.vsi_flows.proofs.listing.first_flows.Goals as goal

pub walks_of-requires-clause-globals : goal.walks_of-requires-clause-globals
walks_of-requires-clause-globals c =
    globals_at _ c.resolved-resolved.ensures.kept _ _ c.lattice-lattice.ensures
    c.resolved-resolved.ensures.value

pub walks_of-requires-clause-declared : goal.walks_of-requires-clause-declared
walks_of-requires-clause-declared c =
    declared_at _ c.resolved-resolved.ensures.kept _ _ c.lattice-lattice.ensures
    c.resolved-resolved.ensures.value

pub walks_of-requires-clause-told : goal.walks_of-requires-clause-told
walks_of-requires-clause-told c =
    let s = c.args.source.now in
    rw (c.lattice-lattice.ensures, c.resolved-resolved.ensures.value)
    (first_told (IsTold (order s.lattice) c.args.profile (program s.resolved)) _ _ c.deref.result.now
    c.first_of-first.result.now c.deref.ensures.value c.first_of-first.ensures
    (further_told s c.args.profile c.args.from c.args.to _ c.in_ok-pairs.ensures))

pub returns : goal.returns
returns c =
    first_walks c.args.source.now c.args.profile c.args.from c.args.to c.resolved-resolved.result.now
    c.resolved-resolved.ensures.value c.text.result.now c.text.ensures _ c.deref.result.now
    c.first_of-first.result.now c.deref.ensures.value
    c.first_of-first.ensures c.in_ok-pairs.ensures (λ v. v.items) c.walks_of.result c.walks_of.ensures
