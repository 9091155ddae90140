use Rattle.std.proofs.Common.{rules}
use Rattle.std.specs.Prelude.{◌≢◌}
use Rattle.vsi_compiler.specs.declared.source.CompileError.TheVariants.{Memory}
use Rattle.vsi_conform.proofs.Profiles.{unread_refused}
use Rattle.vsi_conform.proofs.conforming.judged.Goals as goal

pub returns-in-Ok : goal.returns-in-Ok
returns-in-Ok c =
    let s = c.in-Ok.ensures in
    rw (← s.lattice, ← s.text) c.judged_of.ensures

pub returns-in-Err : goal.returns-in-Err
returns-in-Err c =
    let error = c.in-Err.error in
    let e = c.in-Err.ensures in
    let other : error ≢ Memory = search rules in
    unread_refused c.args.lattice.now c.args.judgement c.args.text.now error other e.refused e.exact
