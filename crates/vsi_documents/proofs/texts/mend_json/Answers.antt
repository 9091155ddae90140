use Rattle.std.proofs.Common.{rules, subst}
use Rattle.std.specs.Prelude.{◌≢◌}
use Rattle.vsi_compiler.specs.declared.source.CompileError.TheVariants.{Memory}
use Rattle.vsi_steady.specs.declared.source.UnsteadyError.TheVariants as unsteady
use Rattle.vsi_conform.specs.Checking.{WritesRefusal}
use Rattle.vsi_documents.proofs.Lines.{unread_tells}
use Rattle.vsi_documents.proofs.texts.mend_json.Goals as goal

pub returns-in-Ok : goal.returns-in-Ok
returns-in-Ok c =
    let s = c.in-Ok.ensures in
    record { answer = rw (← s.lattice, ← s.text) c.source_mended.ensures }

pub returns-in_ok-text-in-Err : goal.returns-in_ok-text-in-Err
returns-in_ok-text-in-Err c =
    let l = c.args.lattice.now in
    let P = c.args.profile in
    let text = c.args.text.now in
    let error = c.in-Err.error in
    let e = c.in-Err.ensures in
    let other : error ≢ Memory = search rules in
    let line = c.in_ok-text-in-Err.text.items in
    record {
      answer = unread_tells l P text error line other e.refused e.exact
          (subst (λ j. WritesRefusal l j text (unsteady.Compile error) line) c.judgement_by.ensures.judgement
          c.in_ok-text-in-Err.ensures.refusal);
    }
