use Rattle.std.proofs.Common.{◌⊎◌, All, map, sym, subst}
use Rattle.std.specs.List.{Contains}
use Rattle.vsi_lattice.specs.LatticeView.{order}
use Rattle.vsi_types.specs.Security.{program, steps_of}
use Rattle.vsi_compiler.proofs.Compiled.{lawful}
use Rattle.vsi_compiler.proofs.Held.{globals_at, declared_at, ready}
use Rattle.vsi_compiler.proofs.Programs.{declared_classes, global_classes}
use Rattle.vsi_flows.specs.Rows.{AreRowsOf}
use Rattle.vsi_flows.specs.Table.{HasBadWalk, HasChoice, IsTable}
use Rattle.vsi_flows.proofs.VerdictLemmas.{declared_within, verdict}
use Rattle.vsi_flows.proofs.text.walk_table.Goals as goal

pub program_rows-requires : goal.program_rows-requires
program_rows-requires c =
    declared_at _ c.resolved-resolved.ensures.kept _ _ c.lattice-lattice.ensures
    c.resolved-resolved.ensures.value

pub pairs_of-requires-clause-globals : goal.pairs_of-requires-clause-globals
pairs_of-requires-clause-globals c =
    globals_at _ c.resolved-resolved.ensures.kept _ _ c.lattice-lattice.ensures
    c.resolved-resolved.ensures.value

pub pairs_of-requires-clause-declared : goal.pairs_of-requires-clause-declared
pairs_of-requires-clause-declared c =
    declared_at _ c.resolved-resolved.ensures.kept _ _ c.lattice-lattice.ensures
    c.resolved-resolved.ensures.value

pub decide-requires-clause-globals : goal.decide-requires-clause-globals
decide-requires-clause-globals c =
    globals_at _ c.resolved-resolved.ensures.kept _ _ c.lattice-lattice.ensures
    c.resolved-resolved.ensures.value

pub decide-requires-clause-declared : goal.decide-requires-clause-declared
decide-requires-clause-declared c =
    declared_at _ c.resolved-resolved.ensures.kept _ _ c.lattice-lattice.ensures
    c.resolved-resolved.ensures.value

pub returns-clause-table : goal.returns-clause-table
returns-clause-table c =
    let P = c.args.profile in
    let L = order c.lattice-lattice.result.now in
    let rows = map (λ v. v.items) c.in_ok-rows.rows.items in
    let pairs = c.in_ok-pairs.pairs.items in
    let s = c.args.source.now in
    let is = c.resolved-resolved.ensures.kept in
    let p = program s.resolved in
    let table : IsTable (order s.lattice) P p pairs =
    subst (λ l. IsTable (order l) P p pairs) c.lattice-lattice.ensures
    (subst (λ r. IsTable L P (program r) pairs) c.resolved-resolved.ensures.value
    (c.in_ok-pairs.ensures P
    (subst (λ v. AreRowsOf L P (program c.resolved-resolved.result.now) (map (λ x. x.items) v))
    (sym c.deref.ensures.value) c.in_ok-rows.ensures))) in
    let decided : HasChoice (order s.lattice) P p ⊎ HasBadWalk (order s.lattice) P p =
    subst (λ l. HasChoice (order l) P p ⊎ HasBadWalk (order l) P p) c.lattice-lattice.ensures
    (subst (λ r. HasChoice L P (program r) ⊎ HasBadWalk L P (program r)) c.resolved-resolved.ensures.value
    c.in_ok-decide.ensures) in
    record {
      source = is;
      distances = subst (λ l. AreRowsOf (order l) P (program c.args.source.now.resolved) rows)
          c.lattice-lattice.ensures
          (subst (λ r. AreRowsOf L P (program r) rows) c.resolved-resolved.ensures.value c.in_ok-rows.ensures);
      table = table;
      verdict = verdict (order s.lattice) (lawful s.lattice) P p (ready s is)
          (declared_within (order s.lattice) (lawful s.lattice) p
          (global_classes (order s.lattice) s.resolved is.classes)
          (declared_classes (order s.lattice) s.resolved is.classes)) pairs table decided;
      known = subst (λ r. All (Contains (steps_of P (program r))) c.in_ok-known.known.steps.items)
          c.resolved-resolved.ensures.value c.in_ok-known.ensures;
    }
