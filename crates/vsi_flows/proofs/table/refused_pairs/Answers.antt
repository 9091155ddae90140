use Rattle.std.proofs.Common.{subst, sym}
use Rattle.vsi_types.specs.Security.{program}
use Rattle.vsi_flows.specs.Table.{IsTable}
use Rattle.vsi_flows.proofs.RefusedLemmas.{refused_table}
use Rattle.vsi_flows.proofs.table.refused_pairs.Goals as goal

pub returns-in-Ok : goal.returns-in-Ok
returns-in-Ok g c =
    let L = g.C.Classes.lattice c.args.lattice.now in
    let P = c.args.profile in
    let p = program c.args.program.now in
    refused_table L P p c.deref.result.now (subst (IsTable L P p) (sym c.deref.ensures.value) c.in-Ok.ensures.table)
    (λ v. v.items) c.without_allowed.result c.without_allowed.ensures
