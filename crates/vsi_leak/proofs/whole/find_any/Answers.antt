use Rattle.std.proofs.Common.{ℕ, ◌+◌, ◌*◌, ◌≤◌, List, [], ◌∷◌, Bool, true, length, drop, subst, sym, ◌∙◌}
use Rattle.vsi_leak.specs.declared.check.Finding.{Finding}
use Rattle.vsi_leak.specs.declared.check.Sign.{Sign}
use Rattle.vsi_leak.specs.declared.check.Sign.TheVariants.{Words, Endings, Steps}
use Rattle.vsi_leak.specs.Leaks.{TellsAtMost, sign_count}
use Rattle.vsi_leak.proofs.Tries.{after_unwanted, after_wanted, at_first, wanted_in}
use Rattle.vsi_leak.proofs.whole.find_any.Goals as goal
use Rattle.vsi_leak.proofs.whole.find_any.Goals.{then-is_wanted+in_ok-leak+in-Nothing, else-is_wanted}

pub loop-sign-init : goal.loop-sign-init
loop-sign-init c =
    at_first (c.args.wanted.now.effort.tries * length c.args.classes.now) c.args.wanted.now Words Endings Steps

pub loop-sign-preserved : goal.loop-sign-preserved
loop-sign-preserved c =
    let wanted = c.args.wanted.now in
    let each = wanted.effort.tries * length c.args.classes.now in
    let total = each * sign_count wanted in
    let signs : List (Sign × Bool) = (Words, true) ∷ (Endings, wanted.endings) ∷ (Steps, wanted.steps) ∷ [] in
    let i = c.loop-sign.sign-index in
    let at : ℕ → Type 0 = λ done. done + each * wanted_in (drop (i + 1) signs) ≤ total in
    elim c.if-is_wanted.branch [
      | then-is_wanted+in_ok-leak+in-Nothing w ↦
          let few = subst (λ (f : Finding). TellsAtMost each f) w.in-Nothing.is w.in_ok-leak.ensures.tried in
          subst at (sym (w.done-is ∙ w.saturating_add-done.ensures))
          (after_wanted each c.loop-sign.done w.in-Nothing.pairs total i signs _ c.loop-sign-test.true
          c.loop-sign.invariant w.if-is_wanted.true few)
      | else-is_wanted w ↦
          subst at (sym w.done-is)
          (after_unwanted each c.loop-sign.done 0 total i signs _ c.loop-sign-test.true c.loop-sign.invariant
          w.if-is_wanted.false)
    ]
