use Rattle.std.proofs.Common.{length}
use Rattle.vsi_client.proofs.renaming.+keep_letvars.Given as goal

abbrev pub decreases-keep_letvars : goal.decreases-keep_letvars
decreases-keep_letvars l = length l.olds.now
