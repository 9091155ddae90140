use Rattle.std.proofs.Common.{◌∙◌, ℕ, get_or, refl, arith, sym, ap, subst}
use Rattle.vsi_types.specs.Security.{program, steps_of}
use Rattle.vsi_infer.specs.Shortest.{row_of, LeadsDown, IsArrived}
use Rattle.vsi_infer.proofs.PathLemmas.{insert_first}
use Rattle.vsi_infer.proofs.shortest.follow.Goals as goal

pub walk_from-requires-clause-known : goal.walk_from-requires-clause-known
walk_from-requires-clause-known c =
    (c.walks_to-walks.ensures (steps_of c.args.profile (program c.args.program.now)) c.in_ok-known.ensures).known

pub walk_from-requires-clause-down : goal.walk_from-requires-clause-down
walk_from-requires-clause-down c =
    let ss = steps_of c.args.profile (program c.args.program.now) in
    let w = c.walks_to-walks.result in
    let f = c.walks_to-walks.ensures ss c.in_ok-known.ensures in
    subst (LeadsDown ss w.last) (sym f.same_row)
    (subst (λ (k : ℕ). LeadsDown ss k c.args.row.now) (sym f.same_last) c.requires.down)

pub walk_from-requires-clause-at : goal.walk_from-requires-clause-at
walk_from-requires-clause-at c =
    let w = c.walks_to-walks.result in
    let f = c.walks_to-walks.ensures (steps_of c.args.profile (program c.args.program.now)) c.in_ok-known.ensures in
    ap (λ l. get_or l (row_of w.last c.args.first.target) 0) f.same_row
    ∙ ap (λ (k : ℕ). get_or c.args.row.now (row_of k c.args.first.target) 0) f.same_last
    ∙ c.requires.at

pub returns : goal.returns
returns c =
    let ss = steps_of c.args.profile (program c.args.program.now) in
    let w = c.walks_to-walks.result in
    let f = c.walks_to-walks.ensures ss c.in_ok-known.ensures in
    let old = c.in_ok-steps.steps.items in
    let a : IsArrived ss c.args.last c.args.row.now c.args.first.target c.args.length old =
    subst (λ (k : ℕ). IsArrived ss k c.args.row.now c.args.first.target c.args.length old)
    f.same_last
    (subst (λ l. IsArrived ss w.last l c.args.first.target c.args.length old) f.same_row
    c.in_ok-steps.ensures) in (
      old,
      c.in_ok-insert.ensures.items ∙ insert_first old c.args.first,
      record { end = a.end; path = (refl, c.requires.there, a.path); level = a.level; size = omega (arith, a.size) },
    )
