use Rattle.std.proofs.Common.{rules, sym, subst}
use Rattle.vsi_lattice.specs.LatticeView.{order}
use Rattle.vsi_lattice.specs.declared.lattice.Lattice.{Lattice}
use Rattle.vsi_compiler.proofs.Held.{globals_at, declared_at}
use Rattle.vsi_flows.specs.Answers.{HasClassesIn}
use Rattle.vsi_documents.proofs.texts.raise_objects.Goals as goal

pub with_variable-requires-clause-globals : goal.with_variable-requires-clause-globals
with_variable-requires-clause-globals c =
    globals_at _ c.resolved-program.ensures.kept _ _ c.lattice-lattice.ensures c.resolved-program.ensures.value

pub with_variable-requires-clause-declared : goal.with_variable-requires-clause-declared
with_variable-requires-clause-declared c =
    declared_at _ c.resolved-program.ensures.kept _ _ c.lattice-lattice.ensures c.resolved-program.ensures.value

pub name-requires : goal.name-requires
name-requires c =
    let within : HasClassesIn (order c.lattice-lattice.result.now) c.args.raises.now =
    subst (λ (l : Lattice). HasClassesIn (order l) c.args.raises.now) (sym c.lattice-lattice.ensures) c.requires in
    search (rules, within)
