use Rattle.std.proofs.Common.{drop}
use Rattle.vsi_steady.specs.Telling.{LeadTo}
use Rattle.vsi_steady.proofs.chain.lead_to.Given as goal

-- If the remaining steps lead to the place, all steps do.
abbrev pub invariant-loop-i : goal.invariant-loop-i
invariant-loop-i l = LeadTo l.code l.globals l.place (drop l.i l.steps) → LeadTo l.code l.globals l.place l.steps
