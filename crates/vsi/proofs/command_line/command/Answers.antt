use Rattle.std.proofs.lemmas.Result.{IfErr-weaker}
use Rattle.vsi_drive.specs.Counted.{device_of}
use Rattle.vsi_subject.specs.Done.{FailsAt}
use Rattle.vsi_subject.specs.Noted.{NotesFailure}
use Rattle.vsi_subject.specs.Words.{given_to}
use Rattle.vsi_subject.proofs.Filled.{unfilled_at}
use Rattle.vsi_subject.proofs.Leaving.{partly_at}
use Rattle.vsi_subject.proofs.NoteLemmas.{tells_note}
use Rattle.vsi_subject.proofs.CarriedOut.{both_failed, fails_at}
use Rattle.vsi_subject.proofs.Failed.{done_at_zero, tells_failure}
use Rattle.vsi.proofs.command_line.command.Goals as goal

pub returns-clause-told : goal.returns-clause-told
returns-clause-told g c =
    let holds = g.F.Files.holds c.args.files.now in
    let given = given_to c.args.words.now (g.R.Read.remaining (device_of c.args.input.now)) in
    let old = g.W.Write.contents (device_of c.args.output.now) in
    let new = g.W.Write.contents (device_of c.carried_out-answer.new.output) in
    tells_failure
    (λ failure note. FailsAt holds given c.args.words.now old new failure
    × NotesFailure holds c.args.words.now failure note)
    g.E.Write.contents c.args.error.now c.ended.new.error c.carried_out-answer.new.error_text.lines.items
    c.carried_out-answer.result c.ended.result
    (both_failed _ _ c.carried_out-answer.result
    (IfErr-weaker c.carried_out-answer.result _ _ (fails_at holds given c.args.words.now old new)
    c.carried_out-answer.ensures.failed)
    c.carried_out-answer.ensures.hushed)
    c.ended.ensures.done c.ended.ensures.failed c.ended.ensures.told

pub returns-clause-noted : goal.returns-clause-noted
returns-clause-noted g c = λ some.
    tells_note (g.F.Files.holds c.args.files.now) c.args.words.now g.E.Write.contents c.args.error.now c.ended.new.error
    c.carried_out-answer.new.error_text.lines.items c.carried_out-answer.result c.ended.result c.carried_out-answer.ensures.noted
    c.ended.ensures.noted c.ended.ensures.failed

pub returns-clause-done : goal.returns-clause-done
returns-clause-done g c = λ some.
    done_at_zero c.carried_out-answer.result c.ended.result c.carried_out-answer.ensures.done c.ended.ensures.failed

pub returns-clause-unfilled : goal.returns-clause-unfilled
returns-clause-unfilled g c =
    unfilled_at _ c.carried_out-answer.result c.ended.result c.carried_out-answer.ensures.unfilled c.ended.ensures.done
    c.ended.ensures.failed

pub returns-clause-state : goal.returns-clause-state
returns-clause-state g c = λ some other.
    partly_at _ c.carried_out-answer.result c.ended.result c.carried_out-answer.ensures.state c.ended.ensures.done other
