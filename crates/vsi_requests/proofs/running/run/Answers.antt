use Rattle.std.proofs.Common.{◌∙◌, Err, ap, arith, inl, inr, refl, sym, subst}
use Rattle.std.proofs.KnownBytes.{Appends-trans}
use Rattle.std.proofs.lemmas.Result.{IfErr-weaker, on_ok_weaker}
use Rattle.std.specs.Io.KnownBytes.{Appends}
use Rattle.vsi_drive.specs.Counted.{device_of}
use Rattle.vsi_machine.specs.Counting.{Halts}
use Rattle.vsi_machine.specs.Runs.{run_of}
use Rattle.vsi_subject.specs.Partly.{AnswersRun}
use Rattle.vsi_subject.specs.Files.{BeginsAt, shown}
use Rattle.vsi_subject.specs.Holding.{Delivers}
use Rattle.vsi_subject.specs.Refusals.{LacksBoundAt}
use Rattle.vsi_subject.specs.Reasons.{WhyRun}
use Rattle.vsi_subject.proofs.Filled.{both_done}
use Rattle.vsi_subject.proofs.Leaving.{cut_part, device_leaf, shown_part, traced_part}
use Rattle.vsi_subject.proofs.NoteLemmas.{each_done, left_halts}
use Rattle.vsi_subject.proofs.Partly.{any_failure, kept_leaves, memory_handed, spent_leaf, spent_leaves}
use Rattle.vsi_subject.proofs.Reasons.{failed_by}
use Rattle.vsi_subject.proofs.Unrun.{Unstarted, ended_fails, handed_late, memory_failed, unbounded_failed}
use Rattle.vsi_subject.proofs.KeepingLemmas.{beside_same}
use Rattle.vsi_requests.proofs.running.run.Goals as goal

pub returns-in-Ok-Some-clause-performed : goal.returns-in-Ok-Some-clause-performed
returns-in-Ok-Some-clause-performed g c =
    let ran = rw c.in-Ok-Some.field-0-is at c.in-Ok-Some.ensures.ran in
    on_ok_weaker c.deliver.result
    (λ done. record {
      trace = ran.0;
      text = c.in-Ok-Some.text.items;
      ran = record {
        image = c.in_ok-verified.verified;
        words = c.deref.result.now;
        begins = subst
            (BeginsAt (g.F.Files.holds c.args.files.now) c.args.asked.now.execution c.args.asked.now.initial_store
            c.in_ok-verified.verified)
            (sym c.deref.ensures.value) c.in_ok-verified.ensures.begins;
        budget = c.in_ok-budget.budget;
        within = c.in_ok-budget.ensures.budget;
        ran = ran.1;
      };
      written = Appends-trans (g.W.Write.contents (device_of c.args.output.now))
          (g.W.Write.contents (device_of c.run_words.new.writer)) (g.W.Write.contents (device_of c.deliver.new.output))
          ran.0 (shown c.args.asked.now.initial_store.out c.in-Ok-Some.text.items) ran.2
          (subst
          (λ t. Appends (g.W.Write.contents (device_of c.run_words.new.writer))
          (g.W.Write.contents (device_of c.deliver.new.output)) (shown c.args.asked.now.initial_store.out t))
          c.deref-in-Ok-Some-2.ensures.value done.0);
      delivered = subst
          (λ t. Delivers c.args.asked.now.initial_store.out t (g.F.Files.holds c.args.files.now)
          (g.F.Files.holds c.deliver.new.files))
          c.deref-in-Ok-Some-2.ensures.value done.1;
    })
    (both_done _ _ c.deliver.result c.deliver.ensures.whole c.deliver.ensures.delivered)

pub returns-in-Ok-Some-clause-counted : goal.returns-in-Ok-Some-clause-counted
returns-in-Ok-Some-clause-counted g c = λ unnoted.
    let ran = rw c.in-Ok-Some.field-0-is at c.in-Ok-Some.ensures.ran in
    let words = c.deref-in-Ok-Some.result.now in
    each_done _ c.deliver.result
    (record {
      image = c.in_ok-verified.verified;
      words = words;
      begins = subst
          (BeginsAt (g.F.Files.holds c.args.files.now) c.args.asked.now.execution c.args.asked.now.initial_store
          c.in_ok-verified.verified)
          (sym c.deref-in-Ok-Some.ensures.value) c.in_ok-verified.ensures.begins;
      counts = c.in_ok-put_count-in-Ok-Some.ensures.counted unnoted
          (subst (λ w. Halts (run_of c.in_ok-verified.verified w c.in_ok-budget.budget))
          (c.deref.ensures.value ∙ sym c.deref-in-Ok-Some.ensures.value)
          (left_halts _ c.in_ok-verified.verified c.deref.result.now c.in_ok-budget.budget c.in-Ok-Some.text.items _
          ran.1));
    })

pub returns-in_err-verified-clause-failed : goal.returns-in_err-verified-clause-failed
returns-in_err-verified-clause-failed g c =
    let holds = g.F.Files.holds c.args.files.now in
    let old = g.W.Write.contents (device_of c.args.output.now) in
    failed_by (Unstarted holds c.args.asked.now.execution c.args.asked.now.initial_store)
    (WhyRun holds c.args.asked.now.execution c.args.asked.now.initial_store c.args.asked.now.has_trace old old)
    (LacksBoundAt holds c.args.asked.now.execution.image.now c.args.asked.now.execution.budget)
    (λ reason is. elim is [
      | inl refused ↦ inl refused
      | inr refused ↦ inr (inl refused)
    ])
    c.from_residual.result c.in_err-verified.field-0.0 c.from_residual.ensures.1 c.in_err-verified.ensures.failed

pub returns-in_err-budget-clause-failed : goal.returns-in_err-budget-clause-failed
returns-in_err-budget-clause-failed g c =
    let holds = g.F.Files.holds c.args.files.now in
    let old = g.W.Write.contents (device_of c.args.output.now) in
    let asked = c.args.asked.now in
    unbounded_failed holds asked.execution.image.now asked.execution.budget c.in_ok-verified.verified
    (WhyRun holds asked.execution asked.initial_store asked.has_trace old old)
    (LacksBoundAt holds asked.execution.image.now asked.execution.budget)
    c.from_residual-in_err-budget.result c.in_err-budget.field-0.0 c.in_ok-verified.ensures.begins.image
    (λ s lacks. lacks) c.from_residual-in_err-budget.ensures.1 c.in_err-budget.ensures.failed

pub returns-in-Ok-Some-clause-failed : goal.returns-in-Ok-Some-clause-failed
returns-in-Ok-Some-clause-failed g c =
    let holds = g.F.Files.holds c.args.files.now in
    let why = WhyRun holds c.args.asked.now.execution c.args.asked.now.initial_store c.args.asked.now.has_trace
    (g.W.Write.contents (device_of c.args.output.now)) (g.W.Write.contents (device_of c.deliver.new.output)) in
    handed_late why
    (LacksBoundAt holds c.args.asked.now.execution.image.now c.args.asked.now.execution.budget)
    c.deliver.result c.deliver.ensures.failure

pub returns-in_err-put_count-in-Ok-Some-clause-failed : goal.returns-in_err-put_count-in-Ok-Some-clause-failed
returns-in_err-put_count-in-Ok-Some-clause-failed g c =
    let holds = g.F.Files.holds c.args.files.now in
    let why = WhyRun holds c.args.asked.now.execution c.args.asked.now.initial_store c.args.asked.now.has_trace
    (g.W.Write.contents (device_of c.args.output.now)) (g.W.Write.contents (device_of c.run_words.new.writer)) in
    memory_failed why
    (LacksBoundAt holds c.args.asked.now.execution.image.now c.args.asked.now.execution.budget)
    c.from_residual-in_err-put_count-in-Ok-Some.result c.in_err-put_count-in-Ok-Some.field-0.0
    c.from_residual-in_err-put_count-in-Ok-Some.ensures.1 c.in_err-put_count-in-Ok-Some.ensures.memory

pub returns-in_err-put_count-in-Ok-None-clause-failed : goal.returns-in_err-put_count-in-Ok-None-clause-failed
returns-in_err-put_count-in-Ok-None-clause-failed g c =
    let holds = g.F.Files.holds c.args.files.now in
    let why = WhyRun holds c.args.asked.now.execution c.args.asked.now.initial_store c.args.asked.now.has_trace
    (g.W.Write.contents (device_of c.args.output.now)) (g.W.Write.contents (device_of c.run_words.new.writer)) in
    memory_failed why
    (LacksBoundAt holds c.args.asked.now.execution.image.now c.args.asked.now.execution.budget)
    c.from_residual-in_err-put_count-in-Ok-None.result c.in_err-put_count-in-Ok-None.field-0.0
    c.from_residual-in_err-put_count-in-Ok-None.ensures.1 c.in_err-put_count-in-Ok-None.ensures.memory

pub returns-in-Ok-None-clause-failed : goal.returns-in-Ok-None-clause-failed
returns-in-Ok-None-clause-failed g c =
    let ran = rw c.in-Ok-None.field-0-is at c.in-Ok-None.ensures.ran in
    inr (inr (
      refl,
      record {
        trace = ran.0;
        image = c.in_ok-verified.verified;
        words = c.deref.result.now;
        begins = subst
            (BeginsAt (g.F.Files.holds c.args.files.now) c.args.asked.now.execution c.args.asked.now.initial_store
            c.in_ok-verified.verified)
            (sym c.deref.ensures.value) c.in_ok-verified.ensures.begins;
        budget = c.in_ok-budget.budget;
        within = c.in_ok-budget.ensures.budget;
        ran = ran.1;
        written = ran.2;
      },
    ))

pub returns-clause-failed : goal.returns-clause-failed
returns-clause-failed g c =
    let holds = g.F.Files.holds c.args.files.now in
    let why = WhyRun holds c.args.asked.now.execution c.args.asked.now.initial_store c.args.asked.now.has_trace
    (g.W.Write.contents (device_of c.args.output.now)) (g.W.Write.contents (device_of c.run_words.new.writer)) in
    ended_fails why
    (LacksBoundAt holds c.args.asked.now.execution.image.now c.args.asked.now.execution.budget)
    c.in-Err.error c.device_failure.result c.in-Err.ensures.only c.device_failure.ensures.write
    c.device_failure.ensures.memory

pub returns-in_err-verified-clause-left : goal.returns-in_err-verified-clause-left
returns-in_err-verified-clause-left g c = kept_leaves _ 3 _ c.from_residual.result

pub returns-in_err-budget-clause-left : goal.returns-in_err-budget-clause-left
returns-in_err-budget-clause-left g c = kept_leaves _ 3 _ c.from_residual-in_err-budget.result

pub returns-in-Ok-Some-clause-left : goal.returns-in-Ok-Some-clause-left
returns-in-Ok-Some-clause-left g c =
    let asked = c.args.asked.now in
    let holds = g.F.Files.holds c.args.files.now in
    let old = g.W.Write.contents (device_of c.args.output.now) in
    let mid = g.W.Write.contents (device_of c.run_words.new.writer) in
    let ran = rw c.in-Ok-Some.field-0-is at c.in-Ok-Some.ensures.ran in
    spent_leaves (AnswersRun holds asked.execution asked.initial_store asked.has_trace) old
    (g.W.Write.contents (device_of c.deliver.new.output)) c.deliver.result c.deliver.ensures.failure
    (shown_part holds asked.execution asked.initial_store asked.has_trace c.in_ok-verified.verified c.deref.result.now _
    c.in_ok-budget.budget c.in-Ok-Some.text.items c.deref-in-Ok-Some-2.result.now ran.0 old mid
    (g.W.Write.contents (device_of c.deliver.new.output)) c.in_ok-budget.ensures.budget
    c.in_ok-verified.ensures.begins c.deref.ensures.value ran.1
    ran.2 c.deref-in-Ok-Some-2.ensures.value c.deliver.ensures.part)

pub returns-in_err-put_count-in-Ok-Some-clause-left : goal.returns-in_err-put_count-in-Ok-Some-clause-left
returns-in_err-put_count-in-Ok-Some-clause-left g c =
    let asked = c.args.asked.now in
    let holds = g.F.Files.holds c.args.files.now in
    let old = g.W.Write.contents (device_of c.args.output.now) in
    let mid = g.W.Write.contents (device_of c.run_words.new.writer) in
    let ran = rw c.in-Ok-Some.field-0-is at c.in-Ok-Some.ensures.ran in
    memory_handed (AnswersRun holds asked.execution asked.initial_store asked.has_trace) old mid
    c.from_residual-in_err-put_count-in-Ok-Some.result c.in_err-put_count-in-Ok-Some.field-0.0
    c.from_residual-in_err-put_count-in-Ok-Some.ensures.1 c.in_err-put_count-in-Ok-Some.ensures.memory
    (traced_part holds asked.execution asked.initial_store asked.has_trace c.in_ok-verified.verified c.deref.result.now _
    c.in_ok-budget.budget _ ran.0 old mid c.in_ok-budget.ensures.budget
    c.in_ok-verified.ensures.begins c.deref.ensures.value ran.1 ran.2)

pub returns-in_err-put_count-in-Ok-None-clause-left : goal.returns-in_err-put_count-in-Ok-None-clause-left
returns-in_err-put_count-in-Ok-None-clause-left g c =
    let asked = c.args.asked.now in
    let holds = g.F.Files.holds c.args.files.now in
    let old = g.W.Write.contents (device_of c.args.output.now) in
    let mid = g.W.Write.contents (device_of c.run_words.new.writer) in
    let ran = rw c.in-Ok-None.field-0-is at c.in-Ok-None.ensures.ran in
    memory_handed (AnswersRun holds asked.execution asked.initial_store asked.has_trace) old mid
    c.from_residual-in_err-put_count-in-Ok-None.result c.in_err-put_count-in-Ok-None.field-0.0
    c.from_residual-in_err-put_count-in-Ok-None.ensures.1 c.in_err-put_count-in-Ok-None.ensures.memory
    (traced_part holds asked.execution asked.initial_store asked.has_trace c.in_ok-verified.verified c.deref.result.now _
    c.in_ok-budget.budget _ ran.0 old mid c.in_ok-budget.ensures.budget
    c.in_ok-verified.ensures.begins c.deref.ensures.value ran.1 ran.2)

pub returns-in-Ok-None-clause-left : goal.returns-in-Ok-None-clause-left
returns-in-Ok-None-clause-left g c =
    let asked = c.args.asked.now in
    let holds = g.F.Files.holds c.args.files.now in
    let old = g.W.Write.contents (device_of c.args.output.now) in
    let mid = g.W.Write.contents (device_of c.run_words.new.writer) in
    let ran = rw c.in-Ok-None.field-0-is at c.in-Ok-None.ensures.ran in
    spent_leaf (AnswersRun holds asked.execution asked.initial_store asked.has_trace) old mid _ (omega arith)
    (traced_part holds asked.execution asked.initial_store asked.has_trace c.in_ok-verified.verified c.deref.result.now _
    c.in_ok-budget.budget _ ran.0 old mid c.in_ok-budget.ensures.budget
    c.in_ok-verified.ensures.begins c.deref.ensures.value ran.1 ran.2)

pub returns-clause-left : goal.returns-clause-left
returns-clause-left g c =
    let asked = c.args.asked.now in
    let holds = g.F.Files.holds c.args.files.now in
    let old = g.W.Write.contents (device_of c.args.output.now) in
    let mid = g.W.Write.contents (device_of c.run_words.new.writer) in
    device_leaf (AnswersRun holds asked.execution asked.initial_store asked.has_trace) c.in-Err.error old mid
    c.device_failure.result c.in-Err.ensures.only c.device_failure.ensures.write c.device_failure.ensures.memory
    (cut_part holds asked.execution asked.initial_store asked.has_trace c.in_ok-verified.verified c.deref.result.now _
    c.in_ok-budget.budget c.in-Err.error old mid c.in_ok-budget.ensures.budget
    c.in_ok-verified.ensures.begins c.deref.ensures.value c.in-Err.ensures.only
    (λ e. c.in-Err.ensures.prefix (ap Err e)) (λ e. c.in-Err.ensures.memory (ap Err e)))

pub returns-in_err-verified-clause-state : goal.returns-in_err-verified-clause-state
returns-in_err-verified-clause-state g c = any_failure _ c.from_residual.result
    (beside_same c.args.asked.now.initial_store.out _)

pub returns-in_err-budget-clause-state : goal.returns-in_err-budget-clause-state
returns-in_err-budget-clause-state g c = any_failure _ c.from_residual-in_err-budget.result
    (beside_same c.args.asked.now.initial_store.out _)

pub returns-in-Ok-Some-clause-state : goal.returns-in-Ok-Some-clause-state
returns-in-Ok-Some-clause-state g c =
    IfErr-weaker c.deliver.result _ _
    (λ failure stays. (stays, c.deliver.ensures.touched))
    c.deliver.ensures.stays

pub returns-in_err-put_count-in-Ok-Some-clause-state : goal.returns-in_err-put_count-in-Ok-Some-clause-state
returns-in_err-put_count-in-Ok-Some-clause-state g c =
    any_failure _ c.from_residual-in_err-put_count-in-Ok-Some.result
    (beside_same c.args.asked.now.initial_store.out _)

pub returns-in_err-put_count-in-Ok-None-clause-state : goal.returns-in_err-put_count-in-Ok-None-clause-state
returns-in_err-put_count-in-Ok-None-clause-state g c =
    any_failure _ c.from_residual-in_err-put_count-in-Ok-None.result
    (beside_same c.args.asked.now.initial_store.out _)

pub returns-in-Ok-None-clause-state : goal.returns-in-Ok-None-clause-state
returns-in-Ok-None-clause-state g c =
    beside_same c.args.asked.now.initial_store.out _

pub returns-clause-state : goal.returns-clause-state
returns-clause-state g c = beside_same c.args.asked.now.initial_store.out _
