use Rattle.std.proofs.Common.{arith}
use Rattle.vsi_drive.specs.Counted.{device_of}
use Rattle.vsi_subject.proofs.Partly.{any_failure}
use Rattle.vsi_requests.proofs.Served.{part_on, served_on, served_partly}
use Rattle.vsi_requests.proofs.trials.serve_bytes.Goals as goal

pub returns-in_err-message-clause-cut : goal.returns-in_err-message-clause-cut
returns-in_err-message-clause-cut g c =
    let contents = g.W.Write.contents in
    any_failure _ c.from_residual-in_err-message.result
    (served_partly (contents (device_of c.args.output.now)) (contents (device_of c.loop-message.output))
    c.loop-message.invariant.served)

pub returns-in_err-serve_message-clause-cut : goal.returns-in_err-serve_message-clause-cut
returns-in_err-serve_message-clause-cut g c =
    let contents = g.W.Write.contents in
    any_failure _ c.from_residual-in_err-serve_message.result
    (part_on (contents (device_of c.args.output.now)) (contents (device_of c.loop-message.output))
    (contents (device_of c.serve_message.new.output)) c.loop-message.invariant.served
    c.in_err-serve_message.ensures.cut)

pub returns-then-has_exited-clause-served : goal.returns-then-has_exited-clause-served
returns-then-has_exited-clause-served g c =
    let contents = g.W.Write.contents in
    served_on (contents (device_of c.args.output.now)) (contents (device_of c.loop-message.output))
    (contents (device_of c.serve_message.new.output)) c.loop-message.invariant.served
    c.in_ok-serve_message.ensures.served

pub loop-message-preserved : goal.loop-message-preserved
loop-message-preserved g c =
    let contents = g.W.Write.contents in
    record {
      output = omega (arith, c.in_ok-serve_message.ensures.fault, c.loop-message.invariant.output);
      served = served_on (contents (device_of c.args.output.now)) (contents (device_of c.loop-message.output))
          (contents (device_of c.serve_message.new.output)) c.loop-message.invariant.served
          c.in_ok-serve_message.ensures.served;
    }
