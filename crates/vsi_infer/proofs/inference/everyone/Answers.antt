use Rattle.std.proofs.Common.{◌≡◌, ◌<◌, arith, length, get_or, ◌∙◌}
use Rattle.std.proofs.lemmas.List.{get_or_default}
use Rattle.vsi_infer.proofs.inference.everyone.Goals as goal

pub returns-clause-each : goal.returns-clause-each
returns-clause-each c v h =
    let lt : v < length c.loop-v.all.items = omega (arith, h, c.loop-v.all.ok.0) in
    (v, lt, get_or_default c.loop-v.all.items v v 0 lt ∙ c.loop-v.invariant.each v (omega (arith, h)))

pub returns-clause-within : goal.returns-clause-within
returns-clause-within c v (k, lt, e) =
    let kv : get_or c.loop-v.all.items k 0 ≡ v = get_or_default c.loop-v.all.items k 0 v lt ∙ e in
    let kk : get_or c.loop-v.all.items k 0 ≡ k = c.loop-v.invariant.each k (omega (arith, lt, c.loop-v.all.ok.0)) in
    omega (arith, lt, kv, kk, c.loop-v.all.ok.0)
