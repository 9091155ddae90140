use Rattle.std.proofs.Common.{rules, arith}
use Rattle.std.proofs.lemmas.Grind.{common_steps}
use Rattle.vsi_lattice.specs.LatticeView.{class_named, order}
use Rattle.vsi_compiler.proofs.Runs.{compiled_of}
use Rattle.vsi_answers.specs.Requests.{RunsTo, zeros}
use Rattle.vsi_answers.proofs.Told.{run_told}
use Rattle.vsi_answers.proofs.bounds.run_source.Goals as goal

pub returns-in_ok-words-in-Ok : goal.returns-in_ok-words-in-Ok
returns-in_ok-words-in-Ok c =
    let l = c.args.lattice.now in
    let im = c.in-Ok.verified in
    let v = c.in-Ok.ensures in
    let ran : RunsTo im (zeros im) c.args.budget c.run.result =
    first_of (search rules, grind (arith, common_steps)) in
    record {
      runs = run_told l c.args.source.now im c.args.budget
          (compiled_of (class_named l) (order l) c.args.source.now im v.accepted v.globals v.meaning v.noninterference
          v.coded v.image v.size) c.run.result ran;
    }
