use Rattle.std.proofs.Common.{◌∙◌, Err, subst}
use Rattle.vsi_lattice.specs.NamePlaces.{texts}
use Rattle.vsi_answers.specs.Requests.{BeginsWith}
use Rattle.vsi_drive.specs.Starts.{Begins}
use Rattle.vsi_subject.specs.Refusals.{NoOther}
use Rattle.vsi_subject.specs.Unstepped.{RefusesWords}
use Rattle.vsi_subject.proofs.Reasons.{handed_reason}
use Rattle.vsi_subject.proofs.Unrun.{memory_failed}
use Rattle.vsi_requests.proofs.stepping.first_words.Goals as goal

pub returns-clause-len : goal.returns-clause-len
returns-clause-len c = c.in_ok-start_words.ensures.len ∙ c.in_ok-verified.ensures.len

pub returns-clause-started : goal.returns-clause-started
returns-clause-started c =
    record {
      image = c.in_ok-verified.verified;
      written = c.in_ok-verified.ensures.made;
      begins = subst
          (λ s. Begins c.in_ok-verified.verified c.args.file.now (texts s) c.args.asked.now.is_full
          c.in_ok-start_words.field-0.items)
          c.as_slice-settings.ensures.value c.in_ok-start_words.ensures.begins;
    }

pub returns-in_err-verified-clause-failed : goal.returns-in_err-verified-clause-failed
returns-in_err-verified-clause-failed c =
    memory_failed
    (RefusesWords c.args.asked.now c.args.source.now.lattice c.args.source.now.text c.args.file.now) NoOther
    c.from_residual.result c.in_err-verified.field-0.0 c.from_residual.ensures.1 c.in_err-verified.ensures.memory

pub returns-in_err-keep_settings-clause-failed : goal.returns-in_err-keep_settings-clause-failed
returns-in_err-keep_settings-clause-failed c =
    memory_failed
    (RefusesWords c.args.asked.now c.args.source.now.lattice c.args.source.now.text c.args.file.now) NoOther
    c.from_residual-in_err-keep_settings.result c.in_err-keep_settings.field-0.0
    c.from_residual-in_err-keep_settings.ensures.1 c.in_err-keep_settings.ensures

pub returns-in_err-start_words-clause-failed : goal.returns-in_err-start_words-clause-failed
returns-in_err-start_words-clause-failed c =
    handed_reason
    (RefusesWords c.args.asked.now c.args.source.now.lattice c.args.source.now.text c.args.file.now) NoOther
    c.in_err-start_words.field-0.0 c.from_residual-in_err-start_words.result
    c.from_residual-in_err-start_words.ensures.1
    (record {
      program = c.args.source.now.resolved;
      image = c.in_ok-verified.verified;
      written = c.in_ok-verified.ensures.made;
      is = subst
          (λ s. BeginsWith c.in_ok-verified.verified c.args.file.now (texts s) c.args.asked.now.is_full
          (Err c.in_err-start_words.field-0.0))
          c.as_slice-settings.ensures.value c.in_err-start_words.ensures.begins;
    })
