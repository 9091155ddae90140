use Rattle.std.proofs.Common.{rules, subst}
use Rattle.std.specs.Prelude.{◌≢◌}
use Rattle.vsi_compiler.specs.declared.source.CompileError.TheVariants.{Memory}
use Rattle.vsi_steady.specs.declared.source.UnsteadyError.TheVariants as unsteady
use Rattle.vsi_conform.specs.Lines.{IsRefusalLines}
use Rattle.vsi_conform.proofs.Profiles.{unread_refused}
use Rattle.vsi_answers.specs.View.{diagnostic_of}
use Rattle.vsi_documents.proofs.sarif.check_sarif.Goals as goal

pub returns-in-Ok-2 : goal.returns-in-Ok-2
returns-in-Ok-2 c =
    let s = c.in-Ok.ensures in
    record {
      answer = rw (← s.lattice, ← s.text) (record {
        image = c.in-Ok-2._verified;
        accepted = search rules;
        document = search rules;
      });
    }

pub returns-in-Err : goal.returns-in-Err
returns-in-Err c =
    let error = c.in-Err.error in
    let e = c.in-Err.ensures in
    let other : error ≢ Memory = search rules in
    record {
      answer = record {
        error = unsteady.Compile error;
        refused = unread_refused c.args.lattice.now c.args.judgement c.args.text.now error other e.refused e.exact;
        writes = record {
          diagnostic = diagnostic_of c.in-Some.diagnostic;
          is = search rules;
          lines = c.in_ok-lines-in-Err.lines.items;
          printed = subst
              (λ b. IsRefusalLines c.args.lattice.now c.args.text.now b (unsteady.Compile error)
              c.in_ok-lines-in-Err.lines.items)
              c.is_steady.ensures c.in_ok-lines-in-Err.ensures.lines;
          document = search rules;
        };
      };
    }
