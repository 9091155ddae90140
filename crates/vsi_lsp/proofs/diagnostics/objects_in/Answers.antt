use Rattle.std.specs.Prelude.{◌≢◌}
use Rattle.vsi_compiler.specs.declared.source.CompileError.TheVariants.{Memory}
use Rattle.vsi_lsp.proofs.Verdicts.{refused_shown}
use Rattle.vsi_lsp.proofs.diagnostics.objects_in.Goals as goal

pub returns-in-Ok : goal.returns-in-Ok
returns-in-Ok c =
    let s = c.in-Ok.ensures in
    record { exact = rw (← s.lattice, ← s.text) c.source_objects.ensures.exact }

pub returns-in-Err : goal.returns-in-Err
returns-in-Err c =
    let d = c.args.document in
    record {
      exact = refused_shown c.args.lattice.now d.profile d.text.now (c.in-Err.error ≢ Memory) (λ v. v.items)
          c.refused_objects.result c.refused_objects.ensures.begins c.refused_objects.ensures.judged
          (λ n p. n (c.in-Err.ensures.exact p.tree p.commands p.reads p.resolution));
    }
