use Rattle.std.proofs.Common.{◌≡◌, ◌<◌, ◌≤◌, ℕ, get_or, length}
use Rattle.std.specs.Prelude.{bit_or}
use Rattle.vsi_opt.proofs.liveness.SmallSet.join.Given as goal

abbrev pub invariant-loop-i : goal.invariant-loop-i
invariant-loop-i l =
    (length l.self.words ≡ 16)
    × ((j : ℕ) → (j < l.i → get_or l.self.words j 0 ≡ bit_or (get_or l.fn.self.words j 0)
    (get_or l.other.words j 0)) × (l.i ≤ j → get_or l.self.words j 0 ≡ get_or l.fn.self.words j 0))
