use Rattle.std.proofs.Common.{rules}
use Rattle.vsi_audit.proofs.MadeNames.{named_global}
use Rattle.vsi_audit.proofs.names.Names.put_variable.Goals as goal

pub returns-then-place-self : goal.returns-then-place-self
returns-then-place-self c =
    let e = named_global c.args.self.now.globals.now c.args.self.now.form c.args.variable c.index-self-place.result
    c.if-place-self.true c.index-self-place.is in search (rules, e)
