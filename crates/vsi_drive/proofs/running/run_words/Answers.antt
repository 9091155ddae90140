use Rattle.std.proofs.Common.{◌≡◌, Some, ap, sym, ◌∙◌, rules}
use Rattle.vsi_image.specs.Fields.{globals}
use Rattle.vsi_machine.specs.Runs.{globals_of}
use Rattle.vsi_store.specs.Text.{store_text_of}
use Rattle.vsi_drive.proofs.Outputs.{all_apart, halted_text, spent_text}
use Rattle.vsi_drive.proofs.running.run_words.Goals as goal

pub returns-in-Halted-clause-ran : goal.returns-in-Halted-clause-ran
returns-in-Halted-clause-ran g c =
    let image = c.args.verified.now in
    let t = c.run_shown.new.machine.state in
    let text : c.in_ok-store_text-in-Halted.field-0.items
    ≡ store_text_of (globals image.globals.items) (globals_of image t) = search rules in
    all_apart c.args.trace image c.args.words.now c.args.budget _ _ c.in-Ok.machine.image c.in-Ok.machine.state t _
    c.in-Ok.ensures.image c.in-Ok.ensures.state c.in_ok-run_shown.ensures.state
    (ap Some text ∙ halted_text image t (sym c.in_ok-run_shown.ensures.outcome ∙ c.in-Halted.is))
    c.in_ok-run_shown.ensures.whole

pub returns-clause-ran : goal.returns-clause-ran
returns-clause-ran g c =
    let image = c.args.verified.now in
    let t = c.run_shown.new.machine.state in
    all_apart c.args.trace image c.args.words.now c.args.budget _ _ c.in-Ok.machine.image c.in-Ok.machine.state t _
    c.in-Ok.ensures.image c.in-Ok.ensures.state c.in_ok-run_shown.ensures.state
    (spent_text image t (sym c.in_ok-run_shown.ensures.outcome ∙ c.in-OutOfBudget.is))
    c.in_ok-run_shown.ensures.whole
