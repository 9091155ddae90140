use Rattle.std.proofs.Common.{map, sym, subst}
use Rattle.vsi_lattice.specs.Order.{IsLattice}
use Rattle.vsi_types.specs.Security.{program}
use Rattle.vsi_types.proofs.Tables.{resolved_program}
use Rattle.vsi_flows.specs.Rows.{AreRowsOf}
use Rattle.vsi_flows.proofs.VerdictLemmas.{verdict, declared_within}
use Rattle.vsi_flows.proofs.table.flows_in.Goals as goal

pub returns-clause-table : goal.returns-clause-table
returns-clause-table g c =
    let L = g.C.Classes.lattice c.args.lattice.now in
    let p = program c.args.program.now in
    c.in_ok-pairs.ensures c.args.profile
    (subst (λ l. AreRowsOf L c.args.profile p (map (λ r. r.items) l)) (sym c.deref.ensures.value) c.in_ok-rows.ensures)

pub returns-clause-verdict : goal.returns-clause-verdict
returns-clause-verdict g c =
    let L = g.C.Classes.lattice c.args.lattice.now in
    let p = program c.args.program.now in
    let laws : IsLattice L = g.met.C.Classes.laws c.args.lattice.now in
    let res = resolved_program L c.args.program.now c.requires.globals c.body-body.ensures.resolved in
    verdict L laws c.args.profile p res (declared_within L laws p c.requires.globals c.requires.declared)
    c.in_ok-pairs.pairs.items
    (c.in_ok-pairs.ensures c.args.profile
    (subst (λ l. AreRowsOf L c.args.profile p (map (λ r. r.items) l)) (sym c.deref.ensures.value) c.in_ok-rows.ensures))
    c.in_ok-decide.ensures
