use Rattle.std.proofs.Common.{refl}
use Rattle.vsi_opt.proofs.FoldingCases.{one_while}
use Rattle.vsi_opt.proofs.Sequences.{pushed}
use Rattle.vsi_opt.proofs.optimiser.put_loop.Goals as goal

pub returns : goal.returns
returns c = pushed _ _ _ _ c.in_ok-push.ensures.items (one_while c.args.guard c.args.body _ refl)
