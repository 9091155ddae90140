use Rattle.std.proofs.Common.{ap, inl}
use Rattle.vsi_drive.specs.Counted.{device_of}
use Rattle.vsi_subject.specs.Noted.{noting}
use Rattle.vsi_subject.specs.Partly.{AnswersText}
use Rattle.vsi_subject.specs.Reasons.{WhyAnswer}
use Rattle.vsi_subject.specs.Works.{cut_of, out_of, place_of, spends}
use Rattle.vsi_subject.proofs.Partly.{any_failure, kept_leaves}
use Rattle.vsi_subject.proofs.Reasons.{handed}
use Rattle.vsi_subject.proofs.Ended.{ended_leaves, ended_puts, ended_stays, ended_why, notes_after, notes_before, stays_same}
use Rattle.vsi.proofs.answers.put_answer.Goals as goal

pub returns-in_err-reply-clause-left : goal.returns-in_err-reply-clause-left
returns-in_err-reply-clause-left g c = kept_leaves _ (cut_of (spends c.args.asked)) _ c.from_residual.result

pub returns-clause-left : goal.returns-clause-left
returns-clause-left g c =
    let reply = c.in_ok-reply.reply in
    let asked = c.args.asked in
    ended_leaves (AnswersText (g.F.Files.holds c.args.files.now) asked) (spends asked) c.bad_end-otherwise.result _ _
    (g.W.Write.contents (device_of c.args.output.now)) (g.W.Write.contents (device_of c.finish.new.output))
    (out_of reply.is_good c.place_of-place.result reply.text.items) c.finish.result c.bad_end-otherwise.ensures
    (record {
      good = reply.is_good;
      text = reply.text;
      told = c.in_ok-reply.ensures.told;
      is = ap (λ p. out_of reply.is_good p reply.text.items) c.place_of-place.ensures;
    })
    c.finish.ensures.failed c.finish.ensures.part

pub returns-clause-performed : goal.returns-clause-performed
returns-clause-performed g c =
    ended_puts (g.F.Files.holds c.args.files.now) (g.F.Files.holds c.finish.new.files) c.args.asked c.place_of-place.result c.in_ok-reply.reply.is_good
    c.in_ok-reply.reply.text (g.W.Write.contents (device_of c.args.output.now))
    (g.W.Write.contents (device_of c.finish.new.output)) c.finish.result c.place_of-place.ensures
    c.in_ok-reply.ensures.told c.finish.ensures.put

pub returns-in_err-reply-clause-failed : goal.returns-in_err-reply-clause-failed
returns-in_err-reply-clause-failed g c =
    let old = g.W.Write.contents (device_of c.args.output.now) in
    handed (WhyAnswer (g.F.Files.holds c.args.files.now) c.args.asked old old) c.in_err-reply.field-0.0
    c.from_residual.result c.from_residual.ensures.1 (inl c.in_err-reply.ensures.failed)

pub returns-clause-failed : goal.returns-clause-failed
returns-clause-failed g c =
    ended_why (g.F.Files.holds c.args.files.now) c.args.asked c.bad_end-otherwise.result c.in_ok-reply.reply.is_good
    c.in_ok-reply.reply.text (g.W.Write.contents (device_of c.args.output.now))
    (g.W.Write.contents (device_of c.finish.new.output)) c.finish.result c.bad_end-otherwise.ensures
    c.in_ok-reply.ensures.told c.finish.ensures.failed

pub returns-in_err-reply-clause-state : goal.returns-in_err-reply-clause-state
returns-in_err-reply-clause-state g c =
    any_failure _ c.from_residual.result (stays_same (place_of c.args.asked) _)

pub returns-clause-state : goal.returns-clause-state
returns-clause-state g c =
    ended_stays (g.F.Files.holds c.args.files.now) (g.F.Files.holds c.finish.new.files) c.place_of-place.result (place_of c.args.asked) c.finish.result
    c.place_of-place.ensures c.finish.ensures.state

pub returns-in_err-reply-clause-noted : goal.returns-in_err-reply-clause-noted
returns-in_err-reply-clause-noted g c = λ fresh.
    notes_before (g.F.Files.holds c.args.files.now) (noting c.args.asked) c.in_err-reply.field-0.0
    c.from_residual.result _ c.from_residual.ensures.1 (c.in_err-reply.ensures.hushed fresh)

pub returns-clause-noted : goal.returns-clause-noted
returns-clause-noted g c = λ fresh.
    notes_after (g.F.Files.holds c.args.files.now) (noting c.args.asked) c.finish.result _
    (c.in_ok-reply.ensures.noted fresh)
