use Rattle.std.proofs.Common.{◌≡◌, ◌<◌, ◌+◌, ◌⊎◌, ◌∙◌, [], ℕ, List, Some, map, length, get_or, set, slice_get, inl, sym, ap, subst, arith}
use Rattle.std.proofs.lemmas.List.{get_or-map, length-map}
use Rattle.std.proofs.Common.{length-set}
use Rattle.std.specs.Prelude.{IfSome}
use Rattle.std.proofs.lemmas.List.Elements.{All-get_or}
use Rattle.vsi_lattice.specs.Order.{IsClass}
use Rattle.std.proofs.lemmas.Option.{slice_get_within}
use Rattle.vsi_infer.specs.Distances.{AreDistances}
use Rattle.vsi_infer.specs.Shortest.{goals_of}
use Rattle.vsi_infer.proofs.LevelLemmas.{next_none, next_some, has_filled, set_each, set_kept, set_has, map_set, filled}
use Rattle.vsi_infer.proofs.distances.levels.Goals as goal

pub loop-v-init : goal.loop-v-init
loop-v-init g c = record {
  len = c.in_ok-rows.ensures.count ∙ c.count.ensures;
  each = λ k. inl (c.in_ok-rows.ensures.empty k);
  done = λ v k lt e. absurd (omega (arith, lt));
}

pub loop-v-preserved-in_default : goal.loop-v-preserved-in_default
loop-v-preserved-in_default g c =
    let L = g.C.Classes.lattice c.args.lattice.now in
    let ds = c.args.declared.now in
    let rows = map (λ r. r.items) c.loop-v.rows.items in
    let Q : ℕ → List ℕ → Type 0 = λ k row. AreDistances (g.F.Flow.flows c.args.flow.now) (goals_of L.leq ds k) row in
    record {
      len = c.loop-v.invariant.len;
      each = c.loop-v.invariant.each;
      done = next_none (λ k. Q k (get_or rows k [])) ds c.loop-v.v _ c.loop-v-test.true c.in_default.not-Some
          c.loop-v.invariant.done;
    }

pub loop-v-preserved-then-not-is_empty : goal.loop-v-preserved-then-not-is_empty
loop-v-preserved-then-not-is_empty g c =
    let L = g.C.Classes.lattice c.args.lattice.now in
    let ds = c.args.declared.now in
    let rows = map (λ r. r.items) c.loop-v.rows.items in
    let Q : ℕ → List ℕ → Type 0 = λ k row. AreDistances (g.F.Flow.flows c.args.flow.now) (goals_of L.leq ds k) row in
    let n = c.index-number.result in
    let within : IsClass L c.in-Some.class = subst (λ o. IfSome o (IsClass L)) c.in-Some.is
    (All-get_or (λ d. IfSome d (IsClass L)) ds c.loop-v.v _ c.loop-v-test.true c.requires.declared) in
    let lt : n < length c.loop-v.rows.items = omega (arith, within, c.index-number.ensures, c.loop-v.invariant.len) in
    let full = filled (get_or rows n []) c.as_slice-row.result.now
    (get_or-map (λ r. r.items) c.loop-v.rows.items n c.index.result.now [] lt
    ∙ ap (λ r. r.items) (sym c.index.ensures) ∙ sym c.as_slice-row.ensures.value) c.if-not-is_empty.ensures in
    let here = has_filled Q rows n full (c.loop-v.invariant.each n) in
    record {
      len = c.loop-v.invariant.len;
      each = c.loop-v.invariant.each;
      done = next_some (λ k. Q k (get_or rows k [])) (λ k. Q k (get_or rows k []))
          (λ k h. h) ds c.loop-v.v c.in-Some.class _ c.loop-v-test.true c.in-Some.is
          (subst (λ (k : ℕ). Q k (get_or rows k [])) c.index-number.ensures here) c.loop-v.invariant.done;
    }

pub loop-v-preserved : goal.loop-v-preserved
loop-v-preserved g c =
    let L = g.C.Classes.lattice c.args.lattice.now in
    let ds = c.args.declared.now in
    let rows = map (λ r. r.items) c.loop-v.rows.items in
    let Q : ℕ → List ℕ → Type 0 = λ k row. AreDistances (g.F.Flow.flows c.args.flow.now) (goals_of L.leq ds k) row in
    let n = c.index-number.result in
    let row = c.in_ok-rows-2.field-0.items in
    let within : IsClass L c.in-Some.class = subst (λ o. IfSome o (IsClass L)) c.in-Some.is
    (All-get_or (λ d. IfSome d (IsClass L)) ds c.loop-v.v _ c.loop-v-test.true c.requires.declared) in
    let lt : n < length rows = omega (
      arith,
      within,
      c.index-number.ensures,
      c.loop-v.invariant.len,
      length-map c.loop-v.rows.items (λ r. r.items),
    ) in
    let here : Q n row = subst (λ (k : ℕ). Q k row) (sym c.index-number.ensures)
    (subst (λ gs. AreDistances (g.F.Flow.flows c.args.flow.now) gs row)
    (c.deref.ensures.value ∙ c.in_ok-goals.ensures) c.in_ok-rows-2.ensures) in
    let e = map_set (λ r. r.items) c.loop-v.rows.items n c.in_ok-rows-2.field-0 in
    record {
      len = length-set c.loop-v.rows.items n c.in_ok-rows-2.field-0 ∙ c.loop-v.invariant.len;
      each = subst (λ l. (k : ℕ) → (get_or l k [] ≡ []) ⊎ Q k (get_or l k [])) (sym e)
          (set_each Q rows n row lt here c.loop-v.invariant.each);
      done = subst (λ l. (u k : ℕ) → u < c.loop-v.v + 1 → slice_get ds u ≡ Some (Some k) → Q k (get_or l k []))
          (sym e)
          (next_some (λ k. Q k (get_or rows k [])) (λ k. Q k (get_or (set rows n row) k []))
          (λ k h. set_kept Q rows n row lt here k h) ds c.loop-v.v c.in-Some.class _ c.loop-v-test.true
          c.in-Some.is
          (set_has Q rows n row lt here c.in-Some.class (sym c.index-number.ensures)) c.loop-v.invariant.done);
    }

pub returns-clause-levels : goal.returns-clause-levels
returns-clause-levels g c v k e =
    c.loop-v.invariant.done v k (let lt = slice_get_within c.args.declared.now v (Some k) e in
    omega (arith, lt, c.loop-v-test.false)) e
