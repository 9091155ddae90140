use Rattle.std.proofs.Common.{◌≡◌, ◌++◌, ◌∷◌, [], sym, ap, ◌∙◌, arith, ◌+◌}
use Rattle.vsi_types.specs.Security.{count_from}
use Rattle.vsi_types.proofs.Tables.{count_more}
use Rattle.vsi_types.proofs.walker.first_variables.Goals as goal

pub loop-i-preserved : goal.loop-i-preserved
loop-i-preserved c =
    let e : c.loop-i.i ≡ 0 + c.loop-i.i = omega arith in
    c.in_ok-push.ensures.items ∙ ap (λ l. l ++ c.loop-i.i ∷ []) c.loop-i.invariant
    ∙ ap (λ m. count_from 0 c.loop-i.i ++ m ∷ []) e ∙ sym (count_more 0 c.loop-i.i)
