use Rattle.std.proofs.Common.{Err, inr, sym, subst}
use Rattle.std.proofs.lemmas.Result.{IfErr-weaker, on_ok_weaker}
use Rattle.vsi_answers.specs.Requests.{RunsSourceTo}
use Rattle.vsi_drive.specs.Counted.{device_of}
use Rattle.vsi_drive.specs.Engine.{IsReadFrom}
use Rattle.vsi_subject.specs.Input.{FailsRun}
use Rattle.vsi_subject.proofs.Partly.{Partly-weaker, any_failure, kept_partly}
use Rattle.vsi_subject.proofs.Failed.{FailsFor-weaker}
use Rattle.vsi.proofs.command_line.run_input.Goals as goal

pub returns-in-Ok-clause-ran : goal.returns-in-Ok-clause-ran
returns-in-Ok-clause-ran g c =
    on_ok_weaker c.write_run.result
    (λ writes. record {
      source = c.as_slice.result.now;
      given = subst (IsReadFrom (g.R.Read.remaining (device_of c.args.input.now))) (sym c.as_slice.ensures.value)
          c.in-Ok.ensures.bytes;
      lattice = c.in_ok-lattice.lattice;
      declared = c.in_ok-lattice.ensures.declared;
      writes = writes;
    })
    c.write_run.ensures.ran

pub returns-in-Ok-clause-failed : goal.returns-in-Ok-clause-failed
returns-in-Ok-clause-failed g c =
    IfErr-weaker c.write_run.result _ _
    (FailsFor-weaker
    (λ reason. RunsSourceTo c.in_ok-lattice.lattice c.as_slice.result.now 1000000 (Err reason))
    (FailsRun (g.R.Read.remaining (device_of c.args.input.now))) _ _
    (λ reason why. record {
      source = c.as_slice.result.now;
      given = subst (IsReadFrom (g.R.Read.remaining (device_of c.args.input.now))) (sym c.as_slice.ensures.value)
          c.in-Ok.ensures.bytes;
      lattice = c.in_ok-lattice.lattice;
      declared = c.in_ok-lattice.ensures.declared;
      failed = why;
    })
    (λ path fault. (fault.0, inr fault.1)))
    c.write_run.ensures.failed

pub returns-in_err-lattice-clause-partly : goal.returns-in_err-lattice-clause-partly
returns-in_err-lattice-clause-partly g c = any_failure _ c.from_residual.result (kept_partly _ _)

pub returns-clause-partly : goal.returns-clause-partly
returns-clause-partly g c = kept_partly _ _

pub returns-in-Ok-clause-partly : goal.returns-in-Ok-clause-partly
returns-in-Ok-clause-partly g c =
    IfErr-weaker c.write_run.result _ _
    (λ failure. Partly-weaker _ _ _ _
    (λ bytes is. record {
      source = c.as_slice.result.now;
      given = subst (IsReadFrom (g.R.Read.remaining (device_of c.args.input.now))) (sym c.as_slice.ensures.value)
          c.in-Ok.ensures.bytes;
      lattice = c.in_ok-lattice.lattice;
      declared = c.in_ok-lattice.ensures.declared;
      text = is.0;
      ran = is.1;
      is = is.2;
    }))
    c.write_run.ensures.partly
