use Rattle.std.proofs.Common.{ℕ, ◌<◌, get_or}
use Rattle.vsi_flows.proofs.rows.walks_down.Given as goal

abbrev pub invariant-loop-steps : goal.invariant-loop-steps
invariant-loop-steps l = (a : ℕ) → a < l.steps-index → 0 < get_or l.row a 0 → get_or l.row a 0 < 65535 → ⊥
