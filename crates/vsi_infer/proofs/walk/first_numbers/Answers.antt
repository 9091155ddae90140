use Rattle.std.proofs.Common.{◌≡◌, ◌+◌, ◌∙◌, ◌++◌, ◌∷◌, [], ℕ, sym, ap, arith}
use Rattle.vsi_types.specs.Security.{count_from}
use Rattle.vsi_types.proofs.Tables.{count_more}
use Rattle.vsi_infer.proofs.walk.first_numbers.Goals as goal

pub loop-i-preserved : goal.loop-i-preserved
loop-i-preserved c =
    let e : c.loop-i.i ≡ 0 + c.loop-i.i = omega arith in
    record {
      items = c.push.ensures.items ∙ ap (λ l. l ++ c.loop-i.i ∷ []) c.loop-i.invariant.items
          ∙ ap (λ (m : ℕ). count_from 0 c.loop-i.i ++ m ∷ []) e ∙ sym (count_more 0 c.loop-i.i);
      len = c.push.ensures.len ∙ ap (λ (n : ℕ). n + 1) c.loop-i.invariant.len;
    }
