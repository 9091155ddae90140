use Rattle.std.proofs.Common.{◌≡◌, ◌<◌, ◌↔◌, ℕ, Bool, true, List, get_or, refl, subst}
use Rattle.vsi_lattice.specs.LatticeView.{order}
use Rattle.vsi_types.specs.Security.{program}
use Rattle.vsi_infer.specs.Flowing.{variable_at}
use Rattle.vsi_infer.specs.FlowRows.{flow_has}
use Rattle.vsi_infer.specs.Shortest.{row_of}
use Rattle.vsi_flows.specs.Rows.{IsRowTo}
use Rattle.vsi_compiler.proofs.Compiled.{lawful}
use Rattle.vsi_compiler.proofs.Held.{declared_at, ready}
use Rattle.vsi_flows.specs.Related.{IsOther, LeadsTo}
use Rattle.vsi_flows.proofs.RelatedReach.{decided, undecided, near_source, row_at}
use Rattle.vsi_flows.proofs.relating.is_target.Goals as goal

pub returns-then-not-is_other : goal.returns-then-not-is_other
returns-then-not-is_other c =
    let s = c.args.source.now in
    undecided c.is_other.result c.if-not-is_other.true
    (subst (λ (x : ℕ). c.is_other.result ≡ true ↔ IsOther (order s.lattice) (program s.resolved) c.args.variable x)
    c.variable_at.ensures c.is_other.ensures)

pub returns : goal.returns
returns c =
    let s = c.args.source.now in
    let p = program s.resolved in
    let P = c.args.profile in
    let is = c.resolved-program.ensures.kept in
    let flows : ℕ → ℕ → Bool = λ a b. flow_has c.args.flow.now.rows.items b a in
    let row : IsRowTo P p (variable_at c.args.last c.args.place) c.in_ok-row.row.items =
    row_at (order s.lattice) (lawful s.lattice) P p (ready s is)
    (declared_at s is s.lattice s.resolved refl refl) flows c.requires.flows c.args.last c.requires.last
    c.args.place c.in_ok-row.row.items c.requires.place c.in_ok-row.ensures in
    let h = row_of c.args.last c.args.variable in
    let near : (get_or c.in_ok-row.row.items h 0 < 65535)
    ↔ LeadsTo P p c.args.variable (variable_at c.args.last c.args.place) =
    subst (λ (x : ℕ). (get_or c.in_ok-row.row.items h 0 < 65535)
    ↔ LeadsTo P p x (variable_at c.args.last c.args.place)) c.requires.there
    (near_source P p c.args.last c.requires.last (variable_at c.args.last c.args.place) h c.in_ok-row.row.items
    c.requires.here row) in
    let r = c.is_near.result in
    let test : r ≡ true ↔ (get_or c.in_ok-row.row.items h 0 < 65535) =
    subst (λ (i : ℕ). r ≡ true ↔ (get_or c.in_ok-row.row.items i 0 < 65535)) c.row_of.ensures
    (subst (λ (l : List ℕ). r ≡ true ↔ (get_or l c.row_of.result 0 < 65535)) c.deref.ensures.value
    c.is_near.ensures) in
    decided r test (subst (λ (x : ℕ). IsOther (order s.lattice) p c.args.variable x) c.variable_at.ensures
    (c.is_other.ensures.0 c.if-not-is_other.false)) near
