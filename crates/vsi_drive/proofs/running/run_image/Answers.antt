use Rattle.std.proofs.Common.{◌≡◌, Ok, length, rules, arith}
use Rattle.std.proofs.lemmas.Grind.{common_steps}
use Rattle.std.proofs.lemmas.Result.{err_from_is_err_and}
use Rattle.vsi_machine.specs.declared.interpreter.Outcome.TheVariants.{Halted, OutOfBudget}
use Rattle.vsi_drive.specs.Running.{Started}
use Rattle.vsi_drive.proofs.Outputs.{asked_whole, asked_partly, asked_trace, text_whole, text_cut, spent_whole, trace_cut}
use Rattle.vsi_drive.proofs.Refusals.{image_refused, store_refused}
use Rattle.vsi_drive.proofs.running.run_image.Goals as goal

pub returns-in_err-verified-clause-refused : goal.returns-in_err-verified-clause-refused
returns-in_err-verified-clause-refused g c =
    let p = err_from_is_err_and c.from_residual-in_err-verified.result c.from_residual-in_err-verified.ensures.1 in
    rw (p.1, p.2) (image_refused _ c.deref.result.now c.args.store.now c.in_err-verified.field-0.0 (search rules)
    c.in_err-verified.ensures.refused)

pub returns-in_err-words-clause-refused : goal.returns-in_err-words-clause-refused
returns-in_err-words-clause-refused g c =
    let p = err_from_is_err_and c.from_residual-in_err-words.result c.from_residual-in_err-words.ensures.1 in
    rw (p.1, p.2)
    (store_refused _ c.deref.result.now c.args.store.now c.in_ok-verified.verified c.in_err-words.field-0.0
    (search rules) c.in_ok-verified.ensures.decoded c.in_ok-verified.ensures.valid (search rules))

pub returns-in_err-text-clause-prefix : goal.returns-in_err-text-clause-prefix
returns-in_err-text-clause-prefix g c h =
    let full : length c.deref-2.result.now ≡ length c.in_ok-verified.verified.globals.items =
    first_of (search rules, grind (arith, common_steps)) in
    let started : Started _ c.args.store.now c.in_ok-verified.verified c.in_ok-words.words.items = record {
      bytes = c.deref.result.now;
      given = search rules;
      asks = record {
        decoded = c.in_ok-verified.ensures.decoded;
        valid = c.in_ok-verified.ensures.valid;
        told = search rules;
      };
    } in
    asked_partly c.args.trace _ c.args.store.now c.args.budget c.in_ok-verified.verified c.in_ok-words.words.items
    c.deref-2.result.now c.deref-2.ensures.value started _ _
    (trace_cut c.args.trace c.in_ok-verified.verified c.deref-2.result.now c.args.budget _ _ c.in_ok-verified.ensures.valid
    full (c.run_words.ensures.prefix (search rules)))

pub returns-in_err-text-clause-memory : goal.returns-in_err-text-clause-memory
returns-in_err-text-clause-memory g c h =
    let started : Started _ c.args.store.now c.in_ok-verified.verified c.in_ok-words.words.items = record {
      bytes = c.deref.result.now;
      given = search rules;
      asks = record {
        decoded = c.in_ok-verified.ensures.decoded;
        valid = c.in_ok-verified.ensures.valid;
        told = search rules;
      };
    } in
    asked_trace c.args.trace _ c.args.store.now c.args.budget c.in_ok-verified.verified c.in_ok-words.words.items
    c.deref-2.result.now c.deref-2.ensures.value started _ _ (c.run_words.ensures.memory (search rules))

pub returns-in_default-clause-ran : goal.returns-in_default-clause-ran
returns-in_default-clause-ran g c =
    let started : Started _ c.args.store.now c.in_ok-verified.verified c.in_ok-words.words.items = record {
      bytes = c.deref.result.now;
      given = search rules;
      asks = record {
        decoded = c.in_ok-verified.ensures.decoded;
        valid = c.in_ok-verified.ensures.valid;
        told = search rules;
      };
    } in
    asked_whole c.args.trace _ c.args.store.now c.args.budget c.in_ok-verified.verified c.in_ok-words.words.items
    c.deref-2.result.now c.deref-2.ensures.value started _ _ (Ok OutOfBudget)
    (spent_whole c.args.trace c.in_ok-verified.verified c.deref-2.result.now c.args.budget _ _ (rw c.in_default.is at c.in_ok-text.ensures.ran))

pub returns-in_err-write_out-clause-prefix : goal.returns-in_err-write_out-clause-prefix
returns-in_err-write_out-clause-prefix g c h =
    let started : Started _ c.args.store.now c.in_ok-verified.verified c.in_ok-words.words.items = record {
      bytes = c.deref.result.now;
      given = search rules;
      asks = record {
        decoded = c.in_ok-verified.ensures.decoded;
        valid = c.in_ok-verified.ensures.valid;
        told = search rules;
      };
    } in
    asked_partly c.args.trace _ c.args.store.now c.args.budget c.in_ok-verified.verified c.in_ok-words.words.items
    c.deref-2.result.now c.deref-2.ensures.value started _ _
    (text_cut c.args.trace c.in_ok-verified.verified c.deref-2.result.now c.args.budget _ _ _ c.in-Some.text.items (rw c.in-Some.is at c.in_ok-text.ensures.ran)
    (rw c.deref-3.ensures.value at c.write_out.ensures.prefix))

pub returns-clause-ran : goal.returns-clause-ran
returns-clause-ran g c =
    let started : Started _ c.args.store.now c.in_ok-verified.verified c.in_ok-words.words.items = record {
      bytes = c.deref.result.now;
      given = search rules;
      asks = record {
        decoded = c.in_ok-verified.ensures.decoded;
        valid = c.in_ok-verified.ensures.valid;
        told = search rules;
      };
    } in
    asked_whole c.args.trace _ c.args.store.now c.args.budget c.in_ok-verified.verified c.in_ok-words.words.items
    c.deref-2.result.now c.deref-2.ensures.value started _ _ (Ok Halted)
    (text_whole c.args.trace c.in_ok-verified.verified c.deref-2.result.now c.args.budget _ _ _ c.in-Some.text.items (rw c.in-Some.is at c.in_ok-text.ensures.ran)
    (rw c.deref-3.ensures.value at c.in_ok-write_out.ensures.whole))
