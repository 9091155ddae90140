use Rattle.std.proofs.Common.{◌≡◌, ◌<◌, ◌≤◌, ℕ, length, get_or, inl, inr, sym, ap, subst, arith, ◌∙◌}
use Rattle.std.proofs.lemmas.List.{get_or_default}
use Rattle.std.proofs.lemmas.Bool.{cases_lt, false≢true}
use Rattle.std.proofs.lemmas.Option.{none-some}
use Rattle.vsi_flows.proofs.rows.nearest_over.Goals as goal

pub loop-a-preserved : goal.loop-a-preserved
loop-a-preserved g c =
    let L = g.C.Classes.lattice c.args.lattice.now in
    let row = c.args.row.now in
    let less : get_or row c.loop-a.a 0 < c.loop-a.distance = omega (arith, c.if-row-a.false) in
    record {
      some = record {
        within = omega (arith, c.loop-a-test.true);
        near = omega (arith, less, c.loop-a.invariant.small);
        high = λ below. false≢true (sym c.if-leq.false ∙ c.leq.ensures
            ∙ ap (λ (x : ℕ). L.leq x c.args.class) (c.index-floors-a.is
            ∙ get_or_default c.args.floors.now c.loop-a.a c.index-floors-a.result 0 c.loop-a-test.true) ∙ below);
      };
      none = λ e. absurd (none-some c.loop-a.a (sym e));
      small = omega (arith, less, c.loop-a.invariant.small);
      before = λ v lt near. elim (cases_lt v c.loop-a.a) [
        | inl l ↦ c.loop-a.invariant.before v l (omega (arith, near, less))
        | inr ge ↦ absurd (let e : v ≡ c.loop-a.a = omega (arith, lt, ge) in
            omega (arith, near, ap (λ (x : ℕ). get_or row x 0) e))
      ];
    }
