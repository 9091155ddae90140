use Rattle.std.proofs.Common.{rules}
use Rattle.std.specs.Prelude.{◌≢◌}
use Rattle.vsi_compiler.specs.declared.source.CompileError.TheVariants.{Memory}
use Rattle.vsi_steady.specs.declared.source.UnsteadyError.TheVariants as unsteady
use Rattle.vsi_conform.proofs.Profiles.{unread_refused}
use Rattle.vsi_requests.proofs.faults.Judged.verdict.Goals as goal

pub returns-in-Ok : goal.returns-in-Ok
returns-in-Ok c =
    let s = c.in-Ok.ensures in
    rw (← s.lattice, ← s.text) c.source_verdict.ensures

pub returns-in_ok-made-in-Err : goal.returns-in_ok-made-in-Err
returns-in_ok-made-in-Err c =
    let j = c.args.self.now in
    let error = c.in-Err.error in
    let e = c.in-Err.ensures in
    let other : error ≢ Memory = search rules in
    (unsteady.Compile error, unread_refused j.lattice.now j.judgement j.text.now error other e.refused e.exact)
