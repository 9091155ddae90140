use Rattle.std.proofs.Common.{inl, subst}
use Rattle.std.specs.Prelude.{IfOk}
use Rattle.vsi_subject.specs.Shaping.{ShapedText}
use Rattle.vsi_subject.proofs.CarriedOut.{each_failure}
use Rattle.vsi_subject.proofs.Partly.{on_ok_of}
use Rattle.vsi_subject.proofs.Ended.{good_done, good_failed, good_told}
use Rattle.vsi.proofs.answers.answer.Goals as goal

-- ---- the answers.

pub returns-in-Try-clause-told : goal.returns-in-Try-clause-told
returns-in-Try-clause-told g c = rw c.in-Try.is
    (good_told _ c.try_source.result c.good.result c.good.ensures c.try_source.ensures.told)

pub returns-in-Check-clause-told : goal.returns-in-Check-clause-told
returns-in-Check-clause-told g c = rw c.in-Check.is c.check.ensures.told

pub returns-in-Survey-clause-told : goal.returns-in-Survey-clause-told
returns-in-Survey-clause-told g c = rw c.in-Survey.is c.survey.ensures.told

pub returns-in-Project-clause-told : goal.returns-in-Project-clause-told
returns-in-Project-clause-told g c = rw c.in-Project.is c.project.ensures.told

pub returns-in-Document-clause-told : goal.returns-in-Document-clause-told
returns-in-Document-clause-told g c = rw c.in-Document.is c.document.ensures.told

pub returns-in-Conform-clause-told : goal.returns-in-Conform-clause-told
returns-in-Conform-clause-told g c = rw c.in-Conform.is c.conform.ensures.told

pub returns-in-Classes-clause-told : goal.returns-in-Classes-clause-told
returns-in-Classes-clause-told g c = rw c.in-Classes.is
    (good_told _ c.classes.result c.good-in-Classes.result c.good-in-Classes.ensures c.classes.ensures.told)

pub returns-in-Mend-clause-told : goal.returns-in-Mend-clause-told
returns-in-Mend-clause-told g c = rw c.in-Mend.is c.mend.ensures.told

pub returns-in-Build-clause-told : goal.returns-in-Build-clause-told
returns-in-Build-clause-told g c = rw c.in-Build.is
    (good_told _ c.built.result c.good-in-Build.result c.good-in-Build.ensures c.built.ensures.told)

pub returns-in-List-clause-told : goal.returns-in-List-clause-told
returns-in-List-clause-told g c = rw c.in-List.is
    (good_told _ c.list.result c.good-in-List.result c.good-in-List.ensures c.list.ensures.told)

pub returns-in-Audit-clause-told : goal.returns-in-Audit-clause-told
returns-in-Audit-clause-told g c = rw c.in-Audit.is
    (good_told _ c.audit.result c.good-in-Audit.result c.good-in-Audit.ensures c.audit.ensures.told)

pub returns-in-Source-clause-told : goal.returns-in-Source-clause-told
returns-in-Source-clause-told g c = rw c.in-Source.is
    (good_told _ c.source.result c.good-in-Source.result c.good-in-Source.ensures c.source.ensures.told)

pub returns-in-EmitC-clause-told : goal.returns-in-EmitC-clause-told
returns-in-EmitC-clause-told g c = rw c.in-EmitC.is
    (good_told _ c.emit.result c.good-in-EmitC.result c.good-in-EmitC.ensures c.emit.ensures.told)

pub returns-in-Bound-clause-told : goal.returns-in-Bound-clause-told
returns-in-Bound-clause-told g c = rw c.in-Bound.is c.bound.ensures.told

pub returns-in-View-clause-told : goal.returns-in-View-clause-told
returns-in-View-clause-told g c = rw c.in-View.is
    (good_told _ c.view.result c.good-in-View.result c.good-in-View.ensures c.view.ensures.told)

pub returns-in-ViewWithin-clause-told : goal.returns-in-ViewWithin-clause-told
returns-in-ViewWithin-clause-told g c = rw c.in-ViewWithin.is
    (good_told _ c.view_within.result c.good-in-ViewWithin.result c.good-in-ViewWithin.ensures c.view_within.ensures.told)

pub returns-in-Compare-clause-told : goal.returns-in-Compare-clause-told
returns-in-Compare-clause-told g c = rw c.in-Compare.is c.compare.ensures.told

pub returns-in-CompareSteps-clause-told : goal.returns-in-CompareSteps-clause-told
returns-in-CompareSteps-clause-told g c = rw c.in-CompareSteps.is c.compare_steps.ensures.told

pub returns-in-Steps-clause-told : goal.returns-in-Steps-clause-told
returns-in-Steps-clause-told g c = rw c.in-Steps.is c.steps.ensures.told

pub returns-in-Monitor-clause-told : goal.returns-in-Monitor-clause-told
returns-in-Monitor-clause-told g c = rw c.in-Monitor.is c.monitor.ensures.told

pub returns-in-Leak-clause-told : goal.returns-in-Leak-clause-told
returns-in-Leak-clause-told g c = rw c.in-Leak.is
    (good_told _ c.leak.result c.good-in-Leak.result c.good-in-Leak.ensures c.leak.ensures.told)

pub returns-in-Report-clause-told : goal.returns-in-Report-clause-told
returns-in-Report-clause-told g c = rw c.in-Report.is
    (good_told _ c.report.result c.good-in-Report.result c.good-in-Report.ensures c.report.ensures.told)

pub returns-in-Draw-clause-told : goal.returns-in-Draw-clause-told
returns-in-Draw-clause-told g c = rw c.in-Draw.is
    (good_told _ c.draw.result c.good-in-Draw.result c.good-in-Draw.ensures c.draw.ensures.told)

pub returns-in-Policy-clause-told : goal.returns-in-Policy-clause-told
returns-in-Policy-clause-told g c = rw c.in-Policy.is c.policy.ensures.told

pub returns-in-Visible-clause-told : goal.returns-in-Visible-clause-told
returns-in-Visible-clause-told g c = rw c.in-Visible.is c.visible.ensures.told

pub returns-in-Format-clause-told : goal.returns-in-Format-clause-told
returns-in-Format-clause-told g c = rw c.in-Format.is
    (good_told _ c.format.result c.good-in-Format.result c.good-in-Format.ensures c.format.ensures.told)

pub returns-in-Lattice-clause-told : goal.returns-in-Lattice-clause-told
returns-in-Lattice-clause-told g c = rw c.in-Lattice.is
    (good_told (ShapedText c.in-Lattice.arguments.items) c.lattice.result c.good-in-Lattice.result
    c.good-in-Lattice.ensures
    (subst (λ a. IfOk c.lattice.result (ShapedText a)) c.as_slice.ensures.value c.lattice.ensures.told))

pub returns-in-Explain-clause-told : goal.returns-in-Explain-clause-told
returns-in-Explain-clause-told g c = rw c.in-Explain.is
    (good_told _ c.copied.result c.good-in-Explain.result c.good-in-Explain.ensures c.copied.ensures.told)

-- ---- the failures.

pub returns-in-Try-clause-failed : goal.returns-in-Try-clause-failed
returns-in-Try-clause-failed g c = rw c.in-Try.is
    (good_failed _ c.try_source.result c.good.result c.good.ensures c.try_source.ensures.failed)

pub returns-in-Check-clause-failed : goal.returns-in-Check-clause-failed
returns-in-Check-clause-failed g c = rw c.in-Check.is c.check.ensures.failed

pub returns-in-Survey-clause-failed : goal.returns-in-Survey-clause-failed
returns-in-Survey-clause-failed g c = rw c.in-Survey.is c.survey.ensures.failed

pub returns-in-New-clause-failed : goal.returns-in-New-clause-failed
returns-in-New-clause-failed g c = rw c.in-New.is c.apart.ensures

pub returns-in-Project-clause-failed : goal.returns-in-Project-clause-failed
returns-in-Project-clause-failed g c = rw c.in-Project.is c.project.ensures.failed

pub returns-in-Document-clause-failed : goal.returns-in-Document-clause-failed
returns-in-Document-clause-failed g c = rw c.in-Document.is c.document.ensures.failed

pub returns-in-Conform-clause-failed : goal.returns-in-Conform-clause-failed
returns-in-Conform-clause-failed g c = rw c.in-Conform.is c.conform.ensures.failed

pub returns-in-Classes-clause-failed : goal.returns-in-Classes-clause-failed
returns-in-Classes-clause-failed g c = rw c.in-Classes.is
    (good_failed _ c.classes.result c.good-in-Classes.result c.good-in-Classes.ensures c.classes.ensures.failed)

pub returns-in-Mend-clause-failed : goal.returns-in-Mend-clause-failed
returns-in-Mend-clause-failed g c = rw c.in-Mend.is c.mend.ensures.failed

pub returns-in-Build-clause-failed : goal.returns-in-Build-clause-failed
returns-in-Build-clause-failed g c = rw c.in-Build.is
    (good_failed _ c.built.result c.good-in-Build.result c.good-in-Build.ensures c.built.ensures.failed)

pub returns-in-List-clause-failed : goal.returns-in-List-clause-failed
returns-in-List-clause-failed g c = rw c.in-List.is
    (good_failed _ c.list.result c.good-in-List.result c.good-in-List.ensures c.list.ensures.failed)

pub returns-in-Audit-clause-failed : goal.returns-in-Audit-clause-failed
returns-in-Audit-clause-failed g c = rw c.in-Audit.is
    (good_failed _ c.audit.result c.good-in-Audit.result c.good-in-Audit.ensures c.audit.ensures.failed)

pub returns-in-Source-clause-failed : goal.returns-in-Source-clause-failed
returns-in-Source-clause-failed g c = rw c.in-Source.is
    (good_failed _ c.source.result c.good-in-Source.result c.good-in-Source.ensures c.source.ensures.failed)

pub returns-in-EmitC-clause-failed : goal.returns-in-EmitC-clause-failed
returns-in-EmitC-clause-failed g c = rw c.in-EmitC.is
    (good_failed _ c.emit.result c.good-in-EmitC.result c.good-in-EmitC.ensures c.emit.ensures.failed)

pub returns-in-Bound-clause-failed : goal.returns-in-Bound-clause-failed
returns-in-Bound-clause-failed g c = rw c.in-Bound.is c.bound.ensures.failed

pub returns-in-View-clause-failed : goal.returns-in-View-clause-failed
returns-in-View-clause-failed g c = rw c.in-View.is
    (good_failed _ c.view.result c.good-in-View.result c.good-in-View.ensures c.view.ensures.failed)

pub returns-in-ViewWithin-clause-failed : goal.returns-in-ViewWithin-clause-failed
returns-in-ViewWithin-clause-failed g c = rw c.in-ViewWithin.is
    (good_failed _ c.view_within.result c.good-in-ViewWithin.result c.good-in-ViewWithin.ensures c.view_within.ensures.failed)

pub returns-in-Compare-clause-failed : goal.returns-in-Compare-clause-failed
returns-in-Compare-clause-failed g c = rw c.in-Compare.is c.compare.ensures.failed

pub returns-in-CompareSteps-clause-failed : goal.returns-in-CompareSteps-clause-failed
returns-in-CompareSteps-clause-failed g c = rw c.in-CompareSteps.is c.compare_steps.ensures.failed

pub returns-in-Steps-clause-failed : goal.returns-in-Steps-clause-failed
returns-in-Steps-clause-failed g c = rw c.in-Steps.is c.steps.ensures.failed

pub returns-in-Monitor-clause-failed : goal.returns-in-Monitor-clause-failed
returns-in-Monitor-clause-failed g c = rw c.in-Monitor.is c.monitor.ensures.failed

pub returns-in-Leak-clause-failed : goal.returns-in-Leak-clause-failed
returns-in-Leak-clause-failed g c = rw c.in-Leak.is
    (good_failed _ c.leak.result c.good-in-Leak.result c.good-in-Leak.ensures c.leak.ensures.failed)

pub returns-in-Report-clause-failed : goal.returns-in-Report-clause-failed
returns-in-Report-clause-failed g c = rw c.in-Report.is
    (good_failed _ c.report.result c.good-in-Report.result c.good-in-Report.ensures c.report.ensures.failed)

pub returns-in-Draw-clause-failed : goal.returns-in-Draw-clause-failed
returns-in-Draw-clause-failed g c = rw c.in-Draw.is
    (good_failed _ c.draw.result c.good-in-Draw.result c.good-in-Draw.ensures c.draw.ensures.failed)

pub returns-in-Policy-clause-failed : goal.returns-in-Policy-clause-failed
returns-in-Policy-clause-failed g c = rw c.in-Policy.is c.policy.ensures.failed

pub returns-in-Visible-clause-failed : goal.returns-in-Visible-clause-failed
returns-in-Visible-clause-failed g c = rw c.in-Visible.is c.visible.ensures.failed

pub returns-in-Format-clause-failed : goal.returns-in-Format-clause-failed
returns-in-Format-clause-failed g c = rw c.in-Format.is
    (good_failed _ c.format.result c.good-in-Format.result c.good-in-Format.ensures c.format.ensures.failed)

pub returns-in-Lattice-clause-failed : goal.returns-in-Lattice-clause-failed
returns-in-Lattice-clause-failed g c = rw c.in-Lattice.is
    (good_failed _ c.lattice.result c.good-in-Lattice.result c.good-in-Lattice.ensures c.lattice.ensures.failed)

pub returns-in-Explain-clause-failed : goal.returns-in-Explain-clause-failed
returns-in-Explain-clause-failed g c = rw c.in-Explain.is
    (good_failed _ c.copied.result c.good-in-Explain.result c.good-in-Explain.ensures c.copied.ensures.failed)

pub returns-in-Flows-clause-failed : goal.returns-in-Flows-clause-failed
returns-in-Flows-clause-failed g c = rw c.in-Flows.is tt

pub returns-in-Run-clause-failed : goal.returns-in-Run-clause-failed
returns-in-Run-clause-failed g c = rw c.in-Run.is tt

pub returns-in-Drive-clause-failed : goal.returns-in-Drive-clause-failed
returns-in-Drive-clause-failed g c = rw c.in-Drive.is tt

pub returns-in-Layout-clause-failed : goal.returns-in-Layout-clause-failed
returns-in-Layout-clause-failed g c = rw c.in-Layout.is tt

pub returns-clause-failed : goal.returns-clause-failed
returns-clause-failed g c = rw c.in-Lsp.is tt

-- ---- the lines about them.

pub returns-in-Conform-clause-noted : goal.returns-in-Conform-clause-noted
returns-in-Conform-clause-noted g c = rw c.in-Conform.is (λ fresh. on_ok_of c.conform.result (c.conform.ensures.warned fresh))

pub returns-in-Conform-clause-hushed : goal.returns-in-Conform-clause-hushed
returns-in-Conform-clause-hushed g c = rw c.in-Conform.is
    (λ fresh. each_failure _ c.conform.result (λ failure. c.conform.ensures.warned fresh))

pub returns-in-Document-clause-noted : goal.returns-in-Document-clause-noted
returns-in-Document-clause-noted g c = rw c.in-Document.is c.document.ensures.noted

pub returns-in-Document-clause-hushed : goal.returns-in-Document-clause-hushed
returns-in-Document-clause-hushed g c = rw c.in-Document.is c.document.ensures.hushed

pub returns-in-Compare-clause-noted : goal.returns-in-Compare-clause-noted
returns-in-Compare-clause-noted g c = rw c.in-Compare.is c.compare.ensures.noted

pub returns-in-Compare-clause-hushed : goal.returns-in-Compare-clause-hushed
returns-in-Compare-clause-hushed g c = rw c.in-Compare.is c.compare.ensures.hushed

pub returns-in-ViewWithin-clause-noted : goal.returns-in-ViewWithin-clause-noted
returns-in-ViewWithin-clause-noted g c = rw c.in-ViewWithin.is
    (λ fresh. good_done _ c.view_within.result c.good-in-ViewWithin.result c.good-in-ViewWithin.ensures
    (c.view_within.ensures.noted fresh))

pub returns-in-ViewWithin-clause-hushed : goal.returns-in-ViewWithin-clause-hushed
returns-in-ViewWithin-clause-hushed g c = rw c.in-ViewWithin.is
    (λ fresh. good_failed _ c.view_within.result c.good-in-ViewWithin.result c.good-in-ViewWithin.ensures
    (c.view_within.ensures.hushed fresh))

pub returns-in-Drive-clause-hushed : goal.returns-in-Drive-clause-hushed
returns-in-Drive-clause-hushed g c = rw c.in-Drive.is (λ fresh. inl fresh)
