use Rattle.std.proofs.Common.{◌≡◌, ◌<◌, ◌⊎◌, [], ap}
use Rattle.vsi_subject.specs.Input.{FailsRun}
use Rattle.vsi_subject.specs.Screen.{tamed}
use Rattle.vsi_subject.specs.Failures.{Gets}
use Rattle.vsi_drive.specs.Counted.{device_of, faults_of}
use Rattle.vsi_subject.proofs.Leaving.{partly_at}
use Rattle.vsi_subject.proofs.CarriedOut.{each_failure}
use Rattle.vsi_subject.proofs.Failed.{done_at_zero, heard_fault, heard_nothing, heard_failure, refused_at_one, spent_at_three, tells_failure}
use Rattle.vsi.proofs.command_line.without_words.Goals as goal

pub returns-clause-ran : goal.returns-clause-ran
returns-clause-ran g c =
    done_at_zero c.run_input-answer.result c.ended.result c.run_input-answer.ensures.ran c.ended.ensures.failed

pub returns-clause-refused : goal.returns-clause-refused
returns-clause-refused g c =
    refused_at_one (g.R.Read.remaining (device_of c.args.input.now)) _
    (Gets g.E.Write.contents c.args.error.now c.ended.new.error) c.run_input-answer.result c.ended.result
    c.ended.ensures.done c.ended.ensures.failed c.run_input-answer.ensures.failed
    (heard_failure g.E.Write.contents c.args.error.now c.ended.new.error (tamed c.new.result.lines.items)
    c.run_input-answer.result (ap tamed c.new.ensures) c.ended.ensures.told)

pub returns-clause-spent : goal.returns-clause-spent
returns-clause-spent g c =
    spent_at_three (g.R.Read.remaining (device_of c.args.input.now)) _
    (Gets g.E.Write.contents c.args.error.now c.ended.new.error) c.run_input-answer.result c.ended.result
    c.ended.ensures.done c.ended.ensures.failed c.run_input-answer.ensures.failed
    (heard_failure g.E.Write.contents c.args.error.now c.ended.new.error (tamed c.new.result.lines.items)
    c.run_input-answer.result (ap tamed c.new.ensures) c.ended.ensures.told)

pub returns-clause-quiet : goal.returns-clause-quiet
returns-clause-quiet g c =
    heard_nothing g.E.Write.contents c.args.error.now c.ended.new.error (tamed c.new.result.lines.items)
    c.run_input-answer.result c.ended.result (ap tamed c.new.ensures) c.ended.ensures.noted c.ended.ensures.failed

pub returns-clause-fault_told : goal.returns-clause-fault_told
returns-clause-fault_told g c =
    heard_fault g.E.Write.contents c.args.error.now c.ended.new.error (tamed c.new.result.lines.items)
    (FailsRun (g.R.Read.remaining (device_of c.args.input.now)))
    ((faults_of c.args.input.now < faults_of c.run_input-answer.new.input)
    ⊎ (faults_of c.args.output.now < faults_of c.run_input-answer.new.output))
    c.run_input-answer.result c.ended.result (ap tamed c.new.ensures) c.ended.ensures.done c.ended.ensures.failed
    c.run_input-answer.ensures.failed c.ended.ensures.told

pub returns-clause-told : goal.returns-clause-told
returns-clause-told g c =
    tells_failure (λ failure note. note ≡ []) g.E.Write.contents c.args.error.now c.ended.new.error
    c.new.result.lines.items c.run_input-answer.result c.ended.result
    (each_failure (λ failure. tamed c.new.result.lines.items ≡ []) c.run_input-answer.result
    (λ failure. ap tamed c.new.ensures))
    c.ended.ensures.done
    c.ended.ensures.failed c.ended.ensures.told

pub returns-clause-partly : goal.returns-clause-partly
returns-clause-partly g c =
    partly_at _ c.run_input-answer.result c.ended.result c.run_input-answer.ensures.partly c.ended.ensures.done
