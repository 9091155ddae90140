use Rattle.std.proofs.Common.{rules}
use Rattle.std.specs.Prelude.{◌≢◌}
use Rattle.vsi_compiler.specs.declared.source.CompileError.TheVariants.{Memory}
use Rattle.vsi_answers.proofs.texts.check_steady.Goals as goal

pub returns-in-Ok : goal.returns-in-Ok
returns-in-Ok g c =
    let s = c.in-Ok.ensures in
    record { checks = rw (← s.lattice, ← s.text) c.check_steady_source.ensures }

pub returns-in-Err : goal.returns-in-Err
returns-in-Err g c =
    let other : c.in-Err.error ≢ Memory = search rules in
    record { checks = c.refused_unread.ensures other c.in-Err.ensures.refused }
