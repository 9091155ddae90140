use Rattle.std.proofs.Common.{rules}
use Rattle.vsi_audit.proofs.MadeNames.{class_at}
use Rattle.vsi_audit.proofs.names.Names.put_class.Goals as goal

pub returns-then-place-self : goal.returns-then-place-self
returns-then-place-self c =
    let e = class_at c.args.self.now.globals.now c.args.variable c.index-self-place.result c.if-place-self.true
    c.index-self-place.is in search (rules, e)
