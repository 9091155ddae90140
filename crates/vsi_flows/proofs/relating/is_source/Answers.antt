use Rattle.std.proofs.Common.{◌≡◌, ◌↔◌, ℕ, true, subst}
use Rattle.vsi_lattice.specs.LatticeView.{order}
use Rattle.vsi_types.specs.Security.{program}
use Rattle.vsi_flows.specs.Related.{IsOther}
use Rattle.vsi_flows.proofs.RelatedReach.{decided, undecided, near_source}
use Rattle.vsi_flows.proofs.relating.is_source.Goals as goal

pub returns-then-not-is_other : goal.returns-then-not-is_other
returns-then-not-is_other c = λ P row.
    let s = c.args.source.now in
    undecided c.is_other.result c.if-not-is_other.true
    (subst (λ (x : ℕ). c.is_other.result ≡ true ↔ IsOther (order s.lattice) (program s.resolved) c.args.variable x)
    c.variable_at.ensures c.is_other.ensures)

pub returns : goal.returns
returns c = λ P row.
    let s = c.args.source.now in
    let p = program s.resolved in
    decided c.is_near.result c.is_near.ensures (subst (λ (x : ℕ). IsOther (order s.lattice) p c.args.variable x) c.variable_at.ensures
    (c.is_other.ensures.0 c.if-not-is_other.false))
    (near_source P p c.args.last c.requires.last c.args.variable c.args.place c.args.row.now c.requires.place row)
