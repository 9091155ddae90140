use Rattle.std.proofs.Common.{ℕ, drop}
use Rattle.vsi_scope.specs.View.{sequence}
use Rattle.vsi_opt.specs.Liveness.{Locations}
use Rattle.vsi_opt.specs.Loops.{AddFits, Adds}
use Rattle.vsi_opt.specs.Ranges.{bits}
use Rattle.vsi_opt.proofs.liveness.+adding.Given as goal

abbrev pub invariant-add_all-loop-c : goal.invariant-add_all-loop-c
invariant-add_all-loop-c l =
    AddFits l.scope l.next (sequence (drop l.c-index l.body))
    × ((all every : Locations) (m : ℕ) →
    Adds l.scope (sequence (drop l.c-index l.body)) (bits l.live) (bits l.own) l.next all every m →
    Adds l.scope (sequence l.body) (bits l.fn.live) (bits l.fn.own) l.fn.next all every m)
