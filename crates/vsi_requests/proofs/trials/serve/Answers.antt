use Rattle.vsi_drive.specs.Counted.{device_of}
use Rattle.vsi_subject.proofs.Partly.{any_failure}
use Rattle.vsi_requests.proofs.Served.{served_partly}
use Rattle.vsi_requests.proofs.trials.serve.Goals as goal

pub returns-in_err-put_notes-clause-cut : goal.returns-in_err-put_notes-clause-cut
returns-in_err-put_notes-clause-cut g c =
    let contents = g.W.Write.contents in
    any_failure _ c.from_residual-in_err-put_notes.result
    (served_partly (contents (device_of c.args.output.now)) (contents (device_of c.serve_input.new.output))
    c.in_ok-serve_input.ensures.served)

pub returns-in_err-text-clause-cut : goal.returns-in_err-text-clause-cut
returns-in_err-text-clause-cut g c =
    let contents = g.W.Write.contents in
    any_failure _ c.from_residual-in_err-text.result
    (served_partly (contents (device_of c.args.output.now)) (contents (device_of c.serve_input.new.output))
    c.in_ok-serve_input.ensures.served)

pub returns-clause-cut : goal.returns-clause-cut
returns-clause-cut g c =
    let contents = g.W.Write.contents in
    served_partly (contents (device_of c.args.output.now)) (contents (device_of c.serve_input.new.output))
    c.in_ok-serve_input.ensures.served
