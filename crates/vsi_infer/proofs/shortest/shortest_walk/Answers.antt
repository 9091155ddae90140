use Rattle.std.proofs.Common.{◌≡◌, ◌+◌, ◌-◌, ◌∙◌, ◌∷◌, [], List, true, map, length, get_or, sym, ap, subst}
use Rattle.std.specs.List.{Contains}
use Rattle.vsi_types.specs.declared.rules.Step.{Step}
use Rattle.vsi_types.specs.Security.{program, steps_of}
use Rattle.vsi_types.proofs.Tables.{resolved_program}
use Rattle.vsi_infer.specs.Inference.{AreClasses}
use Rattle.vsi_infer.specs.Shortest.{IsFewest, begins, LeadsDown, IsArrived, row_of}
use Rattle.vsi_infer.proofs.ShortestLemmas.{IsCounted, table_classes, length_some, first_step, row_leads, level_after, shortest}
use Rattle.vsi_infer.proofs.shortest.shortest_walk.Given.{Over}
use Rattle.vsi_infer.proofs.shortest.shortest_walk.Goals.{After-fewest-length, After-row_at-row}
use Rattle.vsi_infer.proofs.shortest.shortest_walk.Goals as goal

-- The facts known once the fewest steps have been counted.
counted : (g : Over) (c : After-fewest-length g) → IsCounted (g.C.Classes.lattice c.args.lattice.now) c.args.profile
    (program c.args.program.now) (g.F.Flow.flows c.args.flow.now) c.args.declared.now
    (map (λ r. r.items) c.in_ok-rows.rows.items) c.fewest-length.result
counted g c = record {
  laws = g.met.C.Classes.laws c.args.lattice.now;
  resolved = resolved_program (g.C.Classes.lattice c.args.lattice.now) c.args.program.now c.requires.globals
      c.body-body.ensures.resolved;
  letvars = c.requires.letvars;
  are = c.requires.flows;
  same = c.requires.declared;
  levels = c.in_ok-rows.ensures.levels;
  best = subst (λ l. IsFewest c.args.declared.now (map (λ r. r.items) l) c.fewest-length.result)
      c.deref.ensures.value c.fewest-length.ensures;
  bad = c.requires.bad;
}

-- The row taken is the row of the first step's class.
row_taken : (g : Over) (c : After-row_at-row g) → c.row_at-row.result.now
    ≡ get_or (map (λ r. r.items) c.in_ok-rows.rows.items) c.in-Some.class []
row_taken g c = c.row_at-row.ensures
    ∙ ap (λ l. get_or (map (λ r. r.items) l) c.in-Some.class []) c.deref-3.ensures.value

pub levels-requires-clause-declared : goal.levels-requires-clause-declared
levels-requires-clause-declared g c =
    let L = g.C.Classes.lattice c.args.lattice.now in
    let laws = g.met.C.Classes.laws c.args.lattice.now in
    let p = program c.args.program.now in
    let formed = resolved_program L c.args.program.now c.requires.globals c.body-body.ensures.resolved in
    subst (AreClasses L) (sym c.requires.declared) (table_classes L laws c.args.profile p formed c.requires.letvars
    (g.F.Flow.flows c.args.flow.now) c.requires.flows)

pub overflow_sub-begins : goal.overflow_sub-begins
overflow_sub-begins g c = length_some _ _ _ _ _ _ _ (counted g (goal.at.overflow_sub-begins g c).After-fewest-length)

pub first_step-requires : goal.first_step-requires
first_step-requires g c =
    subst (λ l. (s : Step) × Contains (steps_of c.args.profile (program c.args.program.now)) s
    × (begins c.args.declared.now (map (λ r. r.items) l) (length c.args.declared.now - 1) c.fewest-length.result
    (c.fewest-length.result - 1) s ≡ true)) (sym c.deref-2.ensures.value)
    (first_step _ _ _ _ _ _ _ (counted g (goal.at.first_step-requires g c).After-fewest-length))

pub overflow_sub-length : goal.overflow_sub-length
overflow_sub-length g c = length_some _ _ _ _ _ _ _ (counted g (goal.at.overflow_sub-length g c).After-fewest-length)

pub follow-requires-clause-down : goal.follow-requires-clause-down
follow-requires-clause-down g c =
    subst (LeadsDown (steps_of c.args.profile (program c.args.program.now)) (length c.args.declared.now - 1))
    (sym (row_taken g (goal.at.follow-requires-clause-down g c).After-row_at-row))
    (row_leads _ _ _ _ _ _ _ (counted g (goal.at.follow-requires-clause-down g c).After-fewest-length)
    c.in_ok-first.first c.in_ok-first.ensures.there c.in-Some.class c.in-Some.ensures)

pub follow-requires-clause-at : goal.follow-requires-clause-at
follow-requires-clause-at g c =
    let n = c.fewest-length.result in
    ap (λ l. get_or l (row_of (length c.args.declared.now - 1) c.in_ok-first.first.target) 0)
    (row_taken g (goal.at.follow-requires-clause-at g c).After-row_at-row)
    ∙ level_after _ _ _ _ _ _ _ (counted g (goal.at.follow-requires-clause-at g c).After-fewest-length)
    c.in_ok-first.first c.in_ok-first.ensures.there c.in-Some.class c.in-Some.ensures
    (subst (λ l. begins c.args.declared.now (map (λ r. r.items) l) (length c.args.declared.now - 1) n (n - 1)
    c.in_ok-first.first ≡ true) c.deref-2.ensures.value c.in_ok-first.ensures.wanted)

pub returns : goal.returns
returns g c =
    let s = c.in_ok-first.first in
    let items = c.in_ok-steps.steps.items in
    shortest _ _ _ _ _ _ _ (counted g (goal.at.returns g c).After-fewest-length) s c.in_ok-first.ensures.there
    c.in-Some.class c.in-Some.ensures items (subst (λ l. (rest : List Step) × (items ≡ s ∷ rest)
    × IsArrived (steps_of c.args.profile (program c.args.program.now)) (length c.args.declared.now - 1) l s.source
    (c.fewest-length.result - 1 + 1) (s ∷ rest)) (row_taken g (goal.at.returns g c).After-row_at-row)
    c.in_ok-steps.ensures)
