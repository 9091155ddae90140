use Rattle.std.proofs.Common.{All, ℕ, map, sym, subst}
use Rattle.std.specs.List.{Contains}
use Rattle.vsi_lattice.specs.LatticeView.{order}
use Rattle.vsi_types.specs.Security.{program, steps_of}
use Rattle.vsi_infer.specs.Flowing.{size_of}
use Rattle.vsi_infer.specs.Lines.{IsMarkOf}
use Rattle.vsi_compiler.proofs.Compiled.{lawful}
use Rattle.vsi_compiler.proofs.Programs.{declared_classes}
use Rattle.vsi_compiler.proofs.Held.{ready}
use Rattle.vsi_flows.specs.Walks.{FindWalks}
use Rattle.vsi_flows.proofs.WalkLemmas.{found_all}
use Rattle.vsi_flows.proofs.text.table_walks.Goals as goal

pub returns-clause-walks : goal.returns-clause-walks
returns-clause-walks c =
    let t = c.args.table.now in
    let s = t.source.now in
    let is = c.resolved-resolved.ensures.kept in
    let L = order s.lattice in
    let P = t.profile in
    let p = program s.resolved in
    let rows = map (λ v. v.items) t.rows.items in
    let found = c.in_ok-found.found.items in
    let known : All (Contains (steps_of P (program c.resolved-resolved.result.now))) t.known.steps.items =
    subst (λ r. All (Contains (steps_of P (program r))) t.known.steps.items) (sym c.resolved-resolved.ensures.value)
    c.requires.known in
    let find : FindWalks (steps_of P p) (size_of p) rows found =
    subst (λ r. FindWalks (steps_of P (program r)) (size_of (program r)) rows found) c.resolved-resolved.ensures.value
    (subst (λ (n : ℕ). FindWalks (steps_of P (program c.resolved-resolved.result.now)) n rows found)
    c.declarations-last.ensures.count
    (subst (λ v. FindWalks (steps_of P (program c.resolved-resolved.result.now)) c.declarations-last.result
    (map (λ x. x.items) v) found) c.deref.ensures.value
    (c.in_ok-found.ensures (steps_of P (program c.resolved-resolved.result.now)) known))) in
    record {
      table = c.requires;
      finds = found_all L (lawful s.lattice) P p (ready s is) (declared_classes L s.resolved is.classes) rows
          c.requires.distances found find t.pairs.items c.requires.table;
      marked = subst (λ text. All (IsMarkOf text) c.in_ok-marks.marks.items) c.text-text.ensures c.in_ok-marks.ensures;
    }
