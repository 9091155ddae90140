use Rattle.std.proofs.Common.{sym, subst}
use Rattle.std.proofs.lemmas.List.Elements.{All-push}
use Rattle.std.specs.Prelude.{All}
use Rattle.vsi_recovery.specs.Completed.{IsLatticeWith}
use Rattle.vsi_recovery.specs.declared.orders.Placement.{Placement}
use Rattle.vsi_recovery.proofs.orders.placements.Goals as goal
use Rattle.vsi_recovery.proofs.orders.placements.Goals.{then-branch+in_ok-push, else-branch}

pub loop-rank-preserved : goal.loop-rank-preserved
loop-rank-preserved c =
    let P = λ (placed : Placement). IsLatticeWith c.args.count c.args.pairs.now 0 placed.pairs.items in
    elim c.if-branch.branch [
      | then-branch+in_ok-push w ↦
          subst (λ v. All P v.items) (sym w.found-is)
          (subst (All P) (sym w.in_ok-push.ensures.items)
          (All-push P c.loop-rank.found.items _ c.loop-rank.invariant
          (subst (IsLatticeWith c.args.count c.args.pairs.now 0) c.deref.ensures.value
          (c.in_ok-is_lattice_with.ensures w.if-branch.true))))
      | else-branch w ↦ subst (λ v. All P v.items) (sym w.found-is) c.loop-rank.invariant
    ]
