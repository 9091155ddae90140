use Rattle.std.proofs.Common.{sym, ap, subst, rules, refl, ◌+◌, ◌∙◌}
use Rattle.std.proofs.lemmas.Bool.{false≢true}
use Rattle.vsi_lattice.specs.LatticeView.{order}
use Rattle.vsi_report.specs.Covering.{HasJust, IsRowSoFar}
use Rattle.vsi_report.proofs.CoveringLemmas.{row_more, row_same, row_end}
use Rattle.vsi_report.proofs.dot.put_covers.Goals as goal
use Rattle.vsi_report.proofs.dot.put_covers.Goals.{then-covers+in_ok-push, else-covers}

pub loop-high-preserved : goal.loop-high-preserved
loop-high-preserved c = λ h.
    let L = order c.args.lattice.now in
    let low = c.args.low in
    let high = c.loop-high.high in
    elim c.if-covers.branch [
      | then-covers+in_ok-push w ↦
          subst (HasJust (IsRowSoFar L low (high + 1)))
          (sym (ap (λ v. v.items) w.pairs-is ∙ w.in_ok-push.ensures.items))
          (row_more L low high c.loop-high.pairs.items c.requires (search rules)
          (rw (c.at.ensures, c.at-in-loop-high.ensures) at (w.if-covers.ensures.covers refl))
          (c.loop-high.invariant h))
      | else-covers w ↦
          subst (HasJust (IsRowSoFar L low (high + 1))) (sym (ap (λ v. v.items) w.pairs-is))
          (row_same L low high c.loop-high.pairs.items
          (λ k. false≢true (w.if-covers.ensures.each (rw (c.at.ensures, c.at-in-loop-high.ensures) k)))
          (c.loop-high.invariant h))
    ]

pub returns : goal.returns
returns c = λ h. row_end (order c.args.lattice.now) c.args.low c.loop-high.pairs.items (search rules)
