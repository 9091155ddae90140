use Rattle.std.proofs.Common.{◌≡◌, rules}
use Rattle.vsi_lattice.specs.LatticeView.{class_named, order}
use Rattle.vsi_answers.specs.Json.{accepted_line}
use Rattle.vsi_conform.specs.Checking.{WritesRefusal}
use Rattle.vsi_conform.specs.Conforms.{IsAcceptedAs, IsRefusedAs}
use Rattle.vsi_conform.proofs.Profiles.{tells_refused}
use Rattle.vsi_conform.proofs.checking.check_json_of.Goals as goal

pub returns-in_ok-line-in-Ok : goal.returns-in_ok-line-in-Ok
returns-in_ok-line-in-Ok c =
    let s = c.args.source.now in
    let image = c.in-Ok._verified in
    let is : IsAcceptedAs (class_named s.lattice) (order s.lattice) c.args.judgement s.text image = search rules in
    let line : c.in_ok-line-in-Ok.line.items ≡ accepted_line = search rules in
    record { answer = record { image = image; accepted = is; line = line } }

pub returns-in_ok-line-in-Err : goal.returns-in_ok-line-in-Err
returns-in_ok-line-in-Err c =
    let s = c.args.source.now in
    let j = c.args.judgement in
    let error = c.in-Err.error in
    let is : IsRefusedAs (class_named s.lattice) (order s.lattice) j s.text error = search rules in
    let writes : WritesRefusal s.lattice j s.text error c.in_ok-line-in-Err.line.items = search rules in
    record {
      answer = tells_refused s.lattice j s.text error c.in_ok-line-in-Err.line.items is writes;
    }
