use Rattle.std.proofs.Common.{◌++◌, ◌∷◌, [], ◌≤◌, arith, ap, ◌∙◌, map, take, length, Some, Option, append_assoc, List, ℕ}
use Rattle.std.proofs.lemmas.List.{take_all}
use Rattle.vsi_infer.proofs.Bridge.{map_twice}
use Rattle.vsi_infer.proofs.inference.declared_table.Goals as goal

pub returns : goal.returns
returns g c =
    let L = g.C.Classes.lattice c.args.lattice.now in
    let gs : length c.globals-g-items.result.now ≤ c.loop-g.g-index = omega arith in
    let ls : length c.letvars-e-items.result.now ≤ c.loop-e.e-index = omega arith in
    let front = c.loop-g.invariant ∙ ap (λ l. map (λ x. Some x.class) l)
    (take_all c.loop-g.g-index c.globals-g-items.result.now gs ∙ c.globals-g-items.ensures)
    ∙ map_twice (λ x. x.class) c.args.program.now.globals in
    let back = ap (λ l. map (λ x. x.class) l) (take_all c.loop-e.e-index c.letvars-e-items.result.now ls
    ∙ c.letvars-e-items.ensures) in
    c.in_ok-push-3.ensures.items
    ∙ ap (λ (l : List (Option ℕ)). l ++ Some c.bottom.result ∷ [])
    (c.loop-e.invariant ∙ ap (λ l. l ++ map (λ x. x.class) (take c.loop-e.e-index c.letvars-e-items.result.now))
    front ∙ ap (λ l. map Some (map (λ x. x.class) c.args.program.now.globals) ++ l) back)
    ∙ append_assoc (map Some (map (λ x. x.class) c.args.program.now.globals))
    (map (λ x. x.class) c.args.program.now.letvars) _
    ∙ ap (λ b. map Some (map (λ x. x.class) c.args.program.now.globals)
    ++ (map (λ x. x.class) c.args.program.now.letvars ++ Some b ∷ [])) c.bottom.ensures
