use Rattle.std.proofs.Common.{◌≡◌, drop}
use Rattle.vsi_scope.specs.View.{sequence}
use Rattle.vsi_opt.specs.Folding.{append, fold}
use Rattle.vsi_opt.proofs.optimiser.+folding.Given as goal

abbrev pub invariant-fold_all-loop-c : goal.invariant-fold_all-loop-c
invariant-fold_all-loop-c l = append (sequence l.out.items) (fold (sequence (drop l.c-index l.body))) ≡ append
    (sequence l.fn.out.items) (fold (sequence l.body))
