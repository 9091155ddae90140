use Rattle.std.proofs.Common.{rules}
use Rattle.std.specs.Prelude.{◌≢◌}
use Rattle.vsi_compiler.specs.declared.source.CompileError.TheVariants.{Memory}
use Rattle.vsi_steady.specs.declared.source.UnsteadyError.TheVariants as unsteady
use Rattle.vsi_conform.proofs.Profiles.{tells_refused, unread_refused}
use Rattle.vsi_conform.proofs.checking.check_json_for.Goals as goal

pub returns-in_ok-read-in-Ok : goal.returns-in_ok-read-in-Ok
returns-in_ok-read-in-Ok g c =
    let s = c.in-Ok.ensures in
    record { answer = rw (← s.lattice, ← s.text) c.check_json_of.ensures.answer }

pub returns-in_ok-line-in-Err : goal.returns-in_ok-line-in-Err
returns-in_ok-line-in-Err g c =
    let l = c.args.lattice.now in
    let j = c.args.judgement in
    let text = c.args.text.now in
    let error = c.in-Err.error in
    let e = c.in-Err.ensures in
    let other : error ≢ Memory = search rules in
    record {
      answer = tells_refused l j text (unsteady.Compile error) c.in_ok-line-in-Err.line.items
          (unread_refused l j text error other e.refused e.exact) c.in_ok-line-in-Err.ensures.refusal;
    }
