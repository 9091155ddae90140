use Rattle.std.proofs.Common.{◌≡◌, ◌-◌, drop, length, reverse}
use Rattle.vsi_scope.specs.View.{sequence}
use Rattle.vsi_opt.specs.Liveness.{kept_live, before}
use Rattle.vsi_opt.specs.Ranges.{bits}
use Rattle.vsi_opt.proofs.liveness.+kept_live.Given as goal

abbrev pub invariant-kept_live_all-loop-j : goal.invariant-kept_live_all-loop-j
invariant-kept_live_all-loop-j l =
    (sequence (reverse l.out.items) ≡ kept_live l.globals l.scope (sequence (drop (length l.body - l.j) l.body))
    (bits l.fn.live))
    × (bits l.live ≡ before l.globals l.scope (sequence (drop (length l.body - l.j) l.body)) (bits l.fn.live))
