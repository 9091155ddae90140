use Rattle.std.proofs.Common.{Err, subst}
use Rattle.vsi_answers.specs.Requests.{BeginsWith}
use Rattle.vsi_lattice.specs.NamePlaces.{texts}
use Rattle.vsi_subject.specs.Refusals.{NoOther}
use Rattle.vsi_subject.proofs.Reasons.{handed_reason}
use Rattle.vsi_subject.proofs.Unrun.{memory_failed}
use Rattle.vsi_requests.proofs.running.words_in.Goals as goal

pub returns-in_err-keep_settings-clause-failed : goal.returns-in_err-keep_settings-clause-failed
returns-in_err-keep_settings-clause-failed c =
    memory_failed
    (λ reason. BeginsWith c.args.verified.now c.args.file.now (texts c.args.initial_store.now.settings.items)
    c.args.initial_store.now.is_full (Err reason))
    NoOther c.from_residual.result c.in_err-keep_settings.field-0.0 c.from_residual.ensures.1
    c.in_err-keep_settings.ensures

pub returns-in_err-start_words-clause-failed : goal.returns-in_err-start_words-clause-failed
returns-in_err-start_words-clause-failed c =
    handed_reason
    (λ reason. BeginsWith c.args.verified.now c.args.file.now (texts c.args.initial_store.now.settings.items)
    c.args.initial_store.now.is_full (Err reason))
    NoOther c.in_err-start_words.field-0.0 c.from_residual-in_err-start_words.result
    c.from_residual-in_err-start_words.ensures.1
    (subst
    (λ s. BeginsWith c.args.verified.now c.args.file.now (texts s) c.args.initial_store.now.is_full
    (Err c.in_err-start_words.field-0.0))
    c.as_slice-settings.ensures.value c.in_err-start_words.ensures.begins)
