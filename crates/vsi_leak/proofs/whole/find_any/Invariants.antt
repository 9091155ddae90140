use Rattle.std.specs.Prelude.{◌+◌, ◌*◌, ◌≤◌, length, drop}
use Rattle.vsi_leak.specs.Leaks.{sign_count}
use Rattle.vsi_leak.proofs.Tries.{wanted_in}
use Rattle.vsi_leak.proofs.whole.find_any.Given as goal

-- The pairs tried so far, with the tries for the signs to come, are at most the tries for all signs.
abbrev pub invariant-loop-sign : goal.invariant-loop-sign
invariant-loop-sign l =
    l.done + l.wanted.effort.tries * length l.classes * wanted_in (drop l.sign-index l.sign-items)
    ≤ l.wanted.effort.tries * length l.classes * sign_count l.wanted
