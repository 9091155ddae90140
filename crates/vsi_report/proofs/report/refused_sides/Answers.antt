use Rattle.std.proofs.Common.{sym, subst}
use Rattle.std.specs.List.{All}
use Rattle.std.proofs.lemmas.List.Elements.{All-take}
use Rattle.vsi_lattice.specs.LatticeView.{order}
use Rattle.vsi_types.specs.Security.{program}
use Rattle.vsi_compiler.proofs.Held.{globals_at, declared_at}
use Rattle.vsi_flows.specs.Table.{IsTold}
use Rattle.vsi_report.proofs.report.refused_sides.Goals as goal

pub refused_pairs-requires-clause-globals : goal.refused_pairs-requires-clause-globals
refused_pairs-requires-clause-globals c =
    globals_at _ c.resolved-resolved.ensures.kept _ _ c.lattice-lattice.ensures
    c.resolved-resolved.ensures.value

pub refused_pairs-requires-clause-declared : goal.refused_pairs-requires-clause-declared
refused_pairs-requires-clause-declared c =
    declared_at _ c.resolved-resolved.ensures.kept _ _ c.lattice-lattice.ensures
    c.resolved-resolved.ensures.value

pub walks_of-requires-clause-globals : goal.walks_of-requires-clause-globals
walks_of-requires-clause-globals c =
    globals_at _ c.resolved-resolved.ensures.kept _ _ c.lattice-lattice.ensures
    c.resolved-resolved.ensures.value

pub walks_of-requires-clause-declared : goal.walks_of-requires-clause-declared
walks_of-requires-clause-declared c =
    declared_at _ c.resolved-resolved.ensures.kept _ _ c.lattice-lattice.ensures
    c.resolved-resolved.ensures.value

pub walks_of-requires-clause-told : goal.walks_of-requires-clause-told
walks_of-requires-clause-told c =
    let told = IsTold (order c.lattice-lattice.result.now) c.args.view.now.profile
    (program c.resolved-resolved.result.now) in
    All-take told c.min.result c.deref.result.now
    (subst (All told) (sym c.deref.ensures.value) c.in_ok-pairs.ensures.told)
