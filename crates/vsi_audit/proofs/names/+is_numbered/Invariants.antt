use Rattle.std.proofs.Common.{length}
use Rattle.vsi_audit.proofs.names.+is_numbered.Given as goal

abbrev pub decreases-is_numbered : goal.decreases-is_numbered
decreases-is_numbered l = length l.text.now
