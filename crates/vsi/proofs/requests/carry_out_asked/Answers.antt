use Rattle.std.proofs.Common.{◌≡◌, ◌<◌, subst, sym, arith}
use Rattle.vsi_drive.specs.Counted.{device_of, faults_of}
use Rattle.vsi_subject.specs.FaultyFiles.{TellsRefusal, has_line}
use Rattle.vsi_subject.specs.Failures.{status_of}
use Rattle.vsi_subject.specs.Noted.{noting}
use Rattle.vsi_subject.proofs.NoteLemmas.{noted_err, noted_ok}
use Rattle.vsi.proofs.Hushed.{failure_note}
use Rattle.vsi_subject.proofs.CarriedOut.{early_told, explained_fails}
use Rattle.vsi.proofs.Faulted.{fault_told, room_left, told_failure, told_state}
use Rattle.vsi.proofs.requests.carry_out_asked.Goals as goal

pub returns-in-Ok-clause-performed : goal.returns-in-Ok-clause-performed
returns-in-Ok-clause-performed g c =
    c.in-Ok.ensures.performed

pub returns-in-Ok-clause-noted : goal.returns-in-Ok-clause-noted
returns-in-Ok-clause-noted g c =
    noted_ok (g.F.Files.holds c.args.files.now) (noting c.args.asking.request) _
    c.perform.new.error_text.lines.items c.in-Ok.ensures.noted

pub returns-clause-hushed : goal.returns-clause-hushed
returns-clause-hushed g c = λ unasked.
    failure_note c.args.asking.request (g.F.Files.holds c.args.files.now) c.in-Err.failure
    c.explain_failure-explained.result c.tell_refusal.result c.perform.new.error_text.lines.items
    c.explain_failure-explained.new.error_text.lines.items (g.W.Write.contents (device_of c.perform.new.output))
    (g.W.Write.contents (device_of c.tell_refusal.new.output))
    (noted_err _ (g.F.Files.holds c.args.files.now) (noting c.args.asking.request) c.in-Err.failure
    c.perform.new.error_text.lines.items c.in-Err.ensures.noted)
    c.explain_failure-explained.ensures.fault c.explain_failure-explained.ensures.same
    (c.explain_failure-explained.ensures.objects (c.explaining_of-explaining.ensures unasked))
    (subst (λ b. TellsRefusal (has_line b c.explain_failure-explained.result) c.explain_failure-explained.result
    (g.W.Write.contents (device_of c.perform.new.output)) (g.W.Write.contents (device_of c.tell_refusal.new.output))
    c.tell_refusal.result) c.answers_json-is_json.ensures c.tell_refusal.ensures.told)

pub tell_refusal-requires : goal.tell_refusal-requires
tell_refusal-requires g c =
    room_left (faults_of c.args.output.now) (faults_of c.perform.new.output) c.explain_failure-explained.result
    c.requires.output (λ more. c.explain_failure-explained.ensures.fault (c.in-Err.ensures.output_fault more))

pub returns-clause-input_fault : goal.returns-clause-input_fault
returns-clause-input_fault g c = λ more.
    let four = c.explain_failure-explained.ensures.fault (c.in-Err.ensures.input_fault more) in
    subst (λ f. status_of f ≡ 4) (sym (c.tell_refusal.ensures.late (omega (arith, four)))) four

pub returns-clause-output_fault : goal.returns-clause-output_fault
returns-clause-output_fault g c =
    fault_told (faults_of c.args.output.now) (faults_of c.perform.new.output) (faults_of c.tell_refusal.new.output)
    c.in-Err.failure c.tell_refusal.result c.in-Err.ensures.output_fault
    (λ first. let four = c.explain_failure-explained.ensures.fault first in
    subst (λ f. status_of f ≡ 4) (sym (c.tell_refusal.ensures.late (omega (arith, four)))) four)
    c.tell_refusal.ensures.fault

pub returns-clause-unfilled : goal.returns-clause-unfilled
returns-clause-unfilled g c = λ early.
    early_told c.in-Err.failure c.explain_failure-explained.result c.explain_failure-explained.ensures.same
    c.in-Err.ensures.unfilled
    (subst (λ f. status_of f < 4) (c.tell_refusal.ensures.early early) early)

pub returns-clause-failed : goal.returns-clause-failed
returns-clause-failed g c =
    let holds = g.F.Files.holds c.args.files.now in
    let given = g.R.Read.remaining (device_of c.args.input.now) in
    let asked = c.args.asking.request in
    let old = g.W.Write.contents (device_of c.args.output.now) in
    let mid = g.W.Write.contents (device_of c.perform.new.output) in
    let new = g.W.Write.contents (device_of c.tell_refusal.new.output) in
    let first = c.explain_failure-explained.result in
    told_failure holds given asked old mid new first c.tell_refusal.result
    (explained_fails holds given asked old mid c.in-Err.failure first
    (record {
      why = c.in-Err.ensures.failed;
      leaves = c.in-Err.ensures.left;
    })
    c.explain_failure-explained.ensures.same)
    (subst (λ b. TellsRefusal (has_line b first) first mid new c.tell_refusal.result) c.answers_json-is_json.ensures
    c.tell_refusal.ensures.told)

pub returns-clause-state : goal.returns-clause-state
returns-clause-state g c =
    let given = g.R.Read.remaining (device_of c.args.input.now) in
    let asked = c.args.asking.request in
    let old = g.W.Write.contents (device_of c.args.output.now) in
    let mid = g.W.Write.contents (device_of c.perform.new.output) in
    let new = g.W.Write.contents (device_of c.tell_refusal.new.output) in
    let holds = g.F.Files.holds in
    let first = c.explain_failure-explained.result in
    told_state asked (holds c.args.files.now) given (holds c.perform.new.files) old mid new first
    c.tell_refusal.result c.in-Err.ensures.state
    (subst (λ b. TellsRefusal (has_line b first) first mid new c.tell_refusal.result) c.answers_json-is_json.ensures
    c.tell_refusal.ensures.told)
