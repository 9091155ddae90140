use Rattle.std.proofs.Common.{ℕ, ◌<◌, map, get_or, None}
use Rattle.vsi_types.specs.Security.{Keeps}
use Rattle.vsi_types.proofs.rules.is_choice.Given as goal

abbrev pub invariant-loop-i : goal.invariant-loop-i
invariant-loop-i l = (j : ℕ) → j < l.i → Keeps (get_or (map (λ e. e.class) l.entries) j None) (get_or l.choice j 0)
