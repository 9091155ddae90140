use Rattle.std.proofs.Common.{arith}
use Rattle.vsi_drive.specs.Counted.{device_of}
use Rattle.vsi_subject.proofs.Partly.{any_failure}
use Rattle.vsi_requests.proofs.Served.{part_on, served_on, served_partly}
use Rattle.vsi_requests.proofs.trials.serve_input.Goals as goal

pub returns-in_default-clause-cut : goal.returns-in_default-clause-cut
returns-in_default-clause-cut g c =
    let contents = g.W.Write.contents in
    served_partly (contents (device_of c.args.output.now)) (contents (device_of c.loop-call.output))
    c.loop-call.invariant.served

pub returns-in_err-serve_bytes-clause-cut : goal.returns-in_err-serve_bytes-clause-cut
returns-in_err-serve_bytes-clause-cut g c =
    let contents = g.W.Write.contents in
    any_failure _ c.from_residual.result
    (part_on (contents (device_of c.args.output.now)) (contents (device_of c.loop-call.output))
    (contents (device_of c.serve_bytes.new.output)) c.loop-call.invariant.served c.in_err-serve_bytes.ensures.cut)

pub returns-then-has_exited-clause-served : goal.returns-then-has_exited-clause-served
returns-then-has_exited-clause-served g c =
    let contents = g.W.Write.contents in
    served_on (contents (device_of c.args.output.now)) (contents (device_of c.loop-call.output))
    (contents (device_of c.serve_bytes.new.output)) c.loop-call.invariant.served c.in_ok-serve_bytes.ensures.served

pub loop-call-preserved : goal.loop-call-preserved
loop-call-preserved g c =
    let contents = g.W.Write.contents in
    record {
      input = omega (arith, c.in-Ok.ensures.counts, c.loop-call.invariant.input);
      output = omega (arith, c.in_ok-serve_bytes.ensures.fault, c.loop-call.invariant.output);
      served = served_on (contents (device_of c.args.output.now)) (contents (device_of c.loop-call.output))
          (contents (device_of c.serve_bytes.new.output)) c.loop-call.invariant.served
          c.in_ok-serve_bytes.ensures.served;
    }

pub returns-clause-cut : goal.returns-clause-cut
returns-clause-cut g c =
    let contents = g.W.Write.contents in
    served_partly (contents (device_of c.args.output.now)) (contents (device_of c.loop-call.output))
    c.loop-call.invariant.served
