use Rattle.std.proofs.Common.{ℕ, ◌∷◌, [], sym, subst}
use Rattle.std.proofs.lemmas.List.Elements.{All-push}
use Rattle.std.specs.Prelude.{All}
use Rattle.vsi_recovery.specs.Completed.{IsLatticeWith}
use Rattle.vsi_recovery.proofs.orders.links.Goals as goal
use Rattle.vsi_recovery.proofs.orders.links.Goals.{then-branch+in_ok-push, else-branch}

pub loop-link-preserved : goal.loop-link-preserved
loop-link-preserved c =
    let P = λ (pair : ℕ × ℕ). IsLatticeWith c.args.count c.args.pairs.now 0 (pair ∷ []) in
    elim c.if-branch.branch [
      | then-branch+in_ok-push w ↦
          subst (λ v. All P v.items) (sym w.found-is)
          (subst (All P) (sym w.in_ok-push.ensures.items)
          (All-push P c.loop-link.found.items _ c.loop-link.invariant
          (c.in_ok-is_lattice_with.ensures w.if-branch.true)))
      | else-branch w ↦ subst (λ v. All P v.items) (sym w.found-is) c.loop-link.invariant
    ]
