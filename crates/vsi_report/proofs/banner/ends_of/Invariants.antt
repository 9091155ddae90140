use Rattle.std.proofs.Common.{◌≡◌, length}
use Rattle.vsi_types.specs.Walks.{last_target}
use Rattle.vsi_report.specs.Lead.{last_of}
use Rattle.vsi_report.proofs.banner.ends_of.Given as goal

-- The walk from the step on ends where the whole walk does.
abbrev pub invariant-loop-rest : goal.invariant-loop-rest
invariant-loop-rest l = last_of l.walk ≡ last_target l.step l.rest

abbrev pub decreases-loop-rest : goal.decreases-loop-rest
decreases-loop-rest l = length l.rest
