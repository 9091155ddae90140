use Rattle.std.proofs.Common.{rules}
use Rattle.vsi_leak.proofs.Counts.{halted}
use Rattle.vsi_leak.proofs.check.goes_on.Goals as goal

pub returns-in-Halted-clause-halted : goal.returns-in-Halted-clause-halted
returns-in-Halted-clause-halted c =
    λ _. halted c.args.verified.now c.args.store.now c.args.budget c.run.new.self.state (search rules) (search rules)
