use Rattle.std.proofs.Common.{length}
use Rattle.vsi_client.proofs.renaming.+keep_globals.Given as goal

abbrev pub decreases-keep_globals : goal.decreases-keep_globals
decreases-keep_globals l = length l.olds.now
