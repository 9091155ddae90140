use Rattle.std.proofs.Common.{rules, ◌∙◌, arith}
use Rattle.vsi_drive.proofs.Traces.{after_more, after_halt, cut_line, line_more, halt_written}
use Rattle.vsi_drive.proofs.running.run_traced.Goals as goal

pub returns-in_err-write_out-clause-prefix :
    goal.returns-in_err-write_out-clause-prefix
returns-in_err-write_out-clause-prefix g c _ =
    let inv = c.loop-step.invariant in
    let p = c.write_out.ensures.prefix in
    cut_line _ _ _ _ c.loop-step._step c.args.budget p.0 _ c.loop-step.machine.state c.deref.result.now
    c.loop-step-test.true inv.reached (search rules) inv.written p.1

pub returns-in_default-clause-state : goal.returns-in_default-clause-state
returns-in_default-clause-state g c =
    after_halt _ c.loop-step._step c.args.budget _ _ (omega (arith, c.loop-step-test.true))
    c.loop-step.invariant.reached
    (c.in_ok-line.ensures.halted.0 (search rules))

pub returns-in_default-clause-whole : goal.returns-in_default-clause-whole
returns-in_default-clause-whole g c =
    halt_written _ _ _ c.loop-step._step c.args.budget _ _ c.loop-step-test.true c.loop-step.invariant.reached
    (c.in_ok-line.ensures.halted.0 (search rules)) c.loop-step.invariant.written

pub loop-step-preserved : goal.loop-step-preserved
loop-step-preserved g c =
    record {
      written = line_more _ _ _ _ c.loop-step._step _ c.loop-step.machine.state c.deref.result.now
          c.loop-step.invariant.reached (search rules) c.loop-step.invariant.written (search rules);
      reached = after_more _ c.loop-step._step _ c.loop-step.machine.state _ c.loop-step.invariant.reached
          (search rules);
      image = c.step.ensures.image ∙ c.loop-step.invariant.image;
      count = search rules;
    }
