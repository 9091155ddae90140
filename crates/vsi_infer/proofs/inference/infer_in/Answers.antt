use Rattle.std.proofs.Common.{◌≡◌, arith, ap, ◌∙◌, sym, subst, take, drop, length, ℕ, Bool, MatchOption}
use Rattle.std.proofs.lemmas.List.{length-map}
use Rattle.vsi_lattice.specs.Order.{IsLattice}
use Rattle.vsi_types.specs.Security.{program}
use Rattle.vsi_types.proofs.Tables.{resolved_program}
use Rattle.vsi_infer.specs.Choices.{IsProgram, IsLeastOrderedChoice, HasPlacedBadWalk}
use Rattle.vsi_infer.specs.Inference.{IsLeast}
use Rattle.vsi_infer.specs.FlowRows.{flow_has}
use Rattle.vsi_infer.proofs.Bridge.{is_program, is_least_choice}
use Rattle.vsi_infer.proofs.inference.infer_in.Goals as goal

pub least_choice-requires : goal.least_choice-requires
least_choice-requires g c =
    let L = g.C.Classes.lattice c.args.lattice.now in
    let p = program c.args.program.now in
    let laws : IsLattice L = g.met.C.Classes.laws c.args.lattice.now in
    let res = resolved_program L c.args.program.now c.requires.globals c.body-body.ensures.resolved in
    let t = c.deref.ensures.value ∙ c.in_ok-declared.ensures in
    record {
      program = subst (IsProgram L.count L.leq _) (sym t)
          (is_program L laws c.args.profile p res c.requires.declared _ c.in_ok-flow.ensures);
    }

pub shortest_walk-requires-clause-bad : goal.shortest_walk-requires-clause-bad
shortest_walk-requires-clause-bad g c =
    let L = g.C.Classes.lattice c.args.lattice.now in
    let t = c.deref.ensures.value ∙ c.in_ok-declared.ensures in
    let fl : ℕ → ℕ → Bool = λ x y. flow_has c.in_ok-flow.flow.rows.items y x in
    let bad = subst (λ o. MatchOption o (HasPlacedBadWalk L.count L.leq fl c.deref.result.now)
    (λ v. IsLeastOrderedChoice L.count L.leq fl c.deref.result.now v.items)) c.in_default.is c.in_ok-choice.ensures in
    subst (HasPlacedBadWalk L.count L.leq fl) t bad

pub returns-clause-ok : goal.returns-clause-ok
returns-clause-ok g c =
    let L = g.C.Classes.lattice c.args.lattice.now in
    let p = program c.args.program.now in
    let laws : IsLattice L = g.met.C.Classes.laws c.args.lattice.now in
    let res = resolved_program L c.args.program.now c.requires.globals c.body-body.ensures.resolved in
    let t = c.deref.ensures.value ∙ c.in_ok-declared.ensures in
    let fl : ℕ → ℕ → Bool = λ x y. flow_has c.in_ok-flow.flow.rows.items y x in
    let least = subst (λ o. MatchOption o (HasPlacedBadWalk L.count L.leq fl c.deref.result.now)
    (λ v. IsLeastOrderedChoice L.count L.leq fl c.deref.result.now v.items)) c.in-Some.is c.in_ok-choice.ensures in
    let n : length c.args.program.now.globals ≡ length p.globals =
    sym (length-map c.args.program.now.globals (λ g. g.class)) in
    let m : length c.args.program.now.letvars ≡ length p.declared =
    sym (length-map c.args.program.now.letvars (λ g. g.class)) in
    let one = is_least_choice L laws c.args.profile p res c.requires.declared fl c.in_ok-flow.ensures
    c.in-Some.choice.items (subst (λ d. IsLeastOrderedChoice L.count L.leq fl d c.in-Some.choice.items) t least) in
    let e : c.in_ok-to_vec.field-0.items ≡ take (length p.declared)
    (drop (length p.globals) c.in-Some.choice.items) = c.in_ok-to_vec.ensures.items_if_clones_equal (λ x y h. h)
    ∙ ap (λ (k : ℕ). take k (drop (length c.globals-first.result.now) c.deref-2.result.now))
    (omega (arith, m, ap length c.letvars-count.ensures))
    ∙ ap (λ (k : ℕ). take (length p.declared) (drop k c.deref-2.result.now)) (ap length c.globals-first.ensures ∙ n)
    ∙ ap (λ l. take (length p.declared) (drop (length p.globals) l)) c.deref-2.ensures.value in
    subst (IsLeast L c.args.profile p) (sym e) one
