use Rattle.std.proofs.Common.{All, rules, sym, subst}
use Rattle.vsi_lattice.specs.Order.{IsClass}
use Rattle.vsi_lattice.specs.LatticeView.{order}
use Rattle.vsi_lattice.specs.declared.lattice.Lattice.{Lattice}
use Rattle.vsi_lsp.proofs.reading.Reading.of.Goals as goal

pub name-requires : goal.name-requires
name-requires c =
    let within : All (IsClass (order c.lattice-lattice.result.now)) c.in-Ok.least.items =
    subst (λ (x : Lattice). All (IsClass (order x)) c.in-Ok.least.items) (sym c.lattice-lattice.ensures)
    c.in-Ok.ensures.least.0.1 in
    search (rules, within)
