use Rattle.std.proofs.Common.{◌≡◌, length}
use Rattle.vsi_emit.specs.Names.{are_name_bytes}
use Rattle.vsi_emit.proofs.names.all_name_bytes.Given as goal

abbrev pub invariant-loop-rest : goal.invariant-loop-rest
invariant-loop-rest l = are_name_bytes l.rest ≡ are_name_bytes l.name

abbrev pub decreases-loop-rest : goal.decreases-loop-rest
decreases-loop-rest l = length l.rest
