use Rattle.std.proofs.Common.{◌≡◌, ◌∙◌, ap, false, subst}
use Rattle.std.specs.Prelude.{Err, IfErr, IfOk}
use Rattle.std.proofs.lemmas.Result.{IfErr-weaker, on_ok_weaker}
use Rattle.std.specs.Io.KnownBytes.{Appends}
use Rattle.vsi_answers.specs.Answers.{Because}
use Rattle.vsi_answers.specs.Judged.{TellsSource}
use Rattle.vsi_answers.specs.Requests.{FlowsTo, WalksTo}
use Rattle.vsi_drive.specs.Counted.{device_of}
use Rattle.vsi_subject.specs.Files.{OfFiles}
use Rattle.vsi_subject.specs.Partly.{AnswersFlows}
use Rattle.vsi_subject.specs.Performed.{ToldFlows}
use Rattle.vsi_subject.specs.Refusals.{AsksFlows, FailsBy, NoOther, RefusesFiles}
use Rattle.vsi_subject.proofs.Partly.{fault_leaves, kept_leaf, kept_leaves}
use Rattle.vsi_subject.proofs.Reasons.{fails_by, handed, late_fails}
use Rattle.vsi_subject.proofs.RefusalLemmas.{refuses_by, refuses_lattice, tells_program}
use Rattle.vsi_subject.proofs.Unrun.{fault_failed}
use Rattle.vsi_requests.proofs.Walked.{walks_cut, walks_fail, walks_left, walks_performed, walks_whole}
use Rattle.vsi_requests.proofs.Written.{told_by}
use Rattle.vsi_requests.proofs.texts.put_flows.Goals as goal

pub table_walks-requires : goal.table_walks-requires
table_walks-requires g c = c.in_ok-table.ensures.table

pub write_walks-requires-clause-walks : goal.write_walks-requires-clause-walks
write_walks-requires-clause-walks g c = c.in_ok-walks.ensures.walks

pub returns-in_err-classes-clause-left : goal.returns-in_err-classes-clause-left
returns-in_err-classes-clause-left g c = kept_leaves _ 4 _ c.from_residual.result

pub returns-in_err-classes-clause-failed : goal.returns-in_err-classes-clause-failed
returns-in_err-classes-clause-failed g c =
    refuses_lattice (g.F.Files.holds c.args.subject.now.files.now) c.args.compilation
    (AsksFlows c.args.has_walks c.args.compilation.is_strict) c.from_residual.result c.in_err-classes.field-0.0
    c.from_residual.ensures.1 c.in_err-classes.ensures.failed

pub returns-in_err-lines-clause-left : goal.returns-in_err-lines-clause-left
returns-in_err-lines-clause-left g c = kept_leaves _ 4 _ c.from_residual-in_err-lines.result

pub returns-in_err-lines-clause-failed : goal.returns-in_err-lines-clause-failed
returns-in_err-lines-clause-failed g c = rw c.if-not-has_walks.true
    (let fails = FailsBy (RefusesFiles (g.F.Files.holds c.args.subject.now.files.now) c.args.compilation
    (AsksFlows false c.args.compilation.is_strict)) NoOther in
    handed fails c.in_err-lines.field-0.0 c.from_residual-in_err-lines.result c.from_residual-in_err-lines.ensures.1
    (subst (λ r. IfErr r fails) c.in_err-lines.was
    (refuses_by _ _ (λ l P s a. FlowsTo l P s a) _ _ _ _ c.flows.result c.answered.result
    c.in_ok-classes.ensures.told c.as_slice-text.ensures.value c.profile-profile.ensures c.answered.ensures
    c.flows.ensures.flows)))

pub returns-then-not-has_walks-clause-left : goal.returns-then-not-has_walks-clause-left
returns-then-not-has_walks-clause-left g c = rw c.if-not-has_walks.true
    (fault_leaves (AnswersFlows false (g.F.Files.holds c.args.subject.now.files.now) c.args.compilation) _ _
    c.as_slice.result.now c.write.result (
      c.in_ok-lines.lines,
      (subst
          (λ r. IfOk r (OfFiles (g.F.Files.holds c.args.subject.now.files.now) c.args.compilation
          (ToldFlows false c.args.compilation.is_strict)))
          c.in_ok-lines.was
          (told_by _ _ FlowsTo _ _ _ _ c.flows.result c.answered.result c.in_ok-classes.ensures.told
          c.as_slice-text.ensures.value c.profile-profile.ensures c.answered.ensures c.flows.ensures.flows)),
      c.as_slice.ensures.value,
    )
    c.write.ensures.failure c.write.ensures.part)

pub returns-then-not-has_walks-clause-performed : goal.returns-then-not-has_walks-clause-performed
returns-then-not-has_walks-clause-performed g c = rw c.if-not-has_walks.true
    (on_ok_weaker c.write.result
    (λ whole. record {
      text = c.in_ok-lines.lines;
      is = (subst
          (λ r. IfOk r (OfFiles (g.F.Files.holds c.args.subject.now.files.now) c.args.compilation
          (ToldFlows false c.args.compilation.is_strict)))
          c.in_ok-lines.was
          (told_by _ _ FlowsTo _ _ _ _ c.flows.result c.answered.result c.in_ok-classes.ensures.told
          c.as_slice-text.ensures.value c.profile-profile.ensures c.answered.ensures c.flows.ensures.flows));
      written = subst (Appends (g.W.Write.contents (device_of c.args.output.now))
          (g.W.Write.contents (device_of c.write.new.output))) c.as_slice.ensures.value whole;
    })
    c.write.ensures.whole)

pub returns-then-not-has_walks-clause-failed : goal.returns-then-not-has_walks-clause-failed
returns-then-not-has_walks-clause-failed g c =
    fault_failed (RefusesFiles (g.F.Files.holds c.args.subject.now.files.now) c.args.compilation
    (AsksFlows c.args.has_walks c.args.compilation.is_strict)) NoOther c.write.result c.write.ensures.failure

pub returns-in-Err-clause-left : goal.returns-in-Err-clause-left
returns-in-Err-clause-left g c = kept_leaf _ 4 _ c.refused.result

pub returns-in-Err-clause-failed : goal.returns-in-Err-clause-failed
returns-in-Err-clause-failed g c = rw c.if-not-has_walks.false
    (let l = c.in_ok-classes.classes in
    let text = c.as_slice-text.result.now in
    walks_fail _ _ _ _ _ _ c.in_ok-classes.ensures.told c.as_slice-text.ensures.value c.profile-profile.ensures
    c.refused.result
    (fails_by (Because (TellsSource (λ e. e ≡ c.in-Err.error) l text) ⊥)
    (λ reason. WalksTo l c.profile-profile.result text (Err reason)) NoOther
    (tells_program l text c.in-Err.error c.in-Err.ensures.refused
    (λ program. c.in-Err.ensures.exact program.tree program.commands program.reads program.resolution))
    c.refused.result c.refused.ensures))

pub returns-in_err-table-clause-left : goal.returns-in_err-table-clause-left
returns-in_err-table-clause-left g c = kept_leaves _ 4 _ c.from_residual-in_err-table.result

pub returns-in_err-walks-clause-left : goal.returns-in_err-walks-clause-left
returns-in_err-walks-clause-left g c = kept_leaves _ 4 _ c.from_residual-in_err-walks.result

pub returns-clause-left : goal.returns-clause-left
returns-clause-left g c = rw c.if-not-has_walks.false
    (walks_left _ _ _ _ _ _ c.in_ok-classes.ensures.told c.as_slice-text.ensures.value c.profile-profile.ensures _ _
    c.write_walks.result
    (walks_cut c.in_ok-walks.walks c.in_ok-classes.classes c.profile-profile.result c.as_slice-text.result.now
    (ap (λ t. t.source.now.lattice) c.in_ok-walks.ensures.table ∙ ap (λ s. s.lattice) c.in_ok-table.ensures.source
    ∙ c.in-Ok.ensures.lattice)
    (ap (λ t. t.profile) c.in_ok-walks.ensures.table ∙ c.in_ok-table.ensures.profile)
    (ap (λ t. t.source.now.text) c.in_ok-walks.ensures.table ∙ ap (λ s. s.text) c.in_ok-table.ensures.source
    ∙ c.in-Ok.ensures.text) _ _ c.write_walks.result c.write_walks.ensures.late c.write_walks.ensures.cut))

pub returns-clause-performed : goal.returns-clause-performed
returns-clause-performed g c = rw c.if-not-has_walks.false
    (walks_performed _ _ _ _ _ _ c.in_ok-classes.ensures.told c.as_slice-text.ensures.value
    c.profile-profile.ensures c.in_ok-classes.text _ _ c.write_walks.result
    (walks_whole c.in_ok-walks.walks c.in_ok-classes.classes c.profile-profile.result c.as_slice-text.result.now
    (ap (λ t. t.source.now.lattice) c.in_ok-walks.ensures.table ∙ ap (λ s. s.lattice) c.in_ok-table.ensures.source
    ∙ c.in-Ok.ensures.lattice)
    (ap (λ t. t.profile) c.in_ok-walks.ensures.table ∙ c.in_ok-table.ensures.profile)
    (ap (λ t. t.source.now.text) c.in_ok-walks.ensures.table ∙ ap (λ s. s.text) c.in_ok-table.ensures.source
    ∙ c.in-Ok.ensures.text) _ _ c.write_walks.result c.write_walks.ensures.written))

pub returns-clause-failed : goal.returns-clause-failed
returns-clause-failed g c =
    IfErr-weaker c.write_walks.result _ _
    (late_fails (RefusesFiles (g.F.Files.holds c.args.subject.now.files.now) c.args.compilation
    (AsksFlows c.args.has_walks c.args.compilation.is_strict)) NoOther)
    c.write_walks.ensures.late
