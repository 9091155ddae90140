use Rattle.vsi_subject.proofs.Ended.{good_done, good_failed, good_told}
use Rattle.vsi.proofs.answers.document.Goals as goal

pub returns-in-Sarif-clause-told : goal.returns-in-Sarif-clause-told
returns-in-Sarif-clause-told g c = rw c.in-Sarif.is c.checked_sarif.ensures.told

pub returns-in-Sarif-clause-failed : goal.returns-in-Sarif-clause-failed
returns-in-Sarif-clause-failed g c = rw c.in-Sarif.is c.checked_sarif.ensures.failed

pub returns-in-Classes-clause-told : goal.returns-in-Classes-clause-told
returns-in-Classes-clause-told g c = rw c.in-Classes.is c.classes_line.ensures.told

pub returns-in-Classes-clause-failed : goal.returns-in-Classes-clause-failed
returns-in-Classes-clause-failed g c = rw c.in-Classes.is c.classes_line.ensures.failed

pub returns-in-Flows-clause-told : goal.returns-in-Flows-clause-told
returns-in-Flows-clause-told g c = rw c.in-Flows.is c.flows_line.ensures.told

pub returns-in-Flows-clause-failed : goal.returns-in-Flows-clause-failed
returns-in-Flows-clause-failed g c = rw c.in-Flows.is c.flows_line.ensures.failed

pub returns-in-Audit-clause-told : goal.returns-in-Audit-clause-told
returns-in-Audit-clause-told g c = rw c.in-Audit.is c.audit_document.ensures.told

pub returns-in-Audit-clause-failed : goal.returns-in-Audit-clause-failed
returns-in-Audit-clause-failed g c = rw c.in-Audit.is c.audit_document.ensures.failed

pub returns-in-AuditSarif-clause-told : goal.returns-in-AuditSarif-clause-told
returns-in-AuditSarif-clause-told g c = rw c.in-AuditSarif.is c.audit_document-in-AuditSarif.ensures.told

pub returns-in-AuditSarif-clause-failed : goal.returns-in-AuditSarif-clause-failed
returns-in-AuditSarif-clause-failed g c = rw c.in-AuditSarif.is c.audit_document-in-AuditSarif.ensures.failed

pub returns-in-Bound-clause-told : goal.returns-in-Bound-clause-told
returns-in-Bound-clause-told g c = rw c.in-Bound.is c.bound.ensures.told

pub returns-in-Bound-clause-failed : goal.returns-in-Bound-clause-failed
returns-in-Bound-clause-failed g c = rw c.in-Bound.is c.bound.ensures.failed

pub returns-in-Run-clause-told : goal.returns-in-Run-clause-told
returns-in-Run-clause-told g c = rw c.in-Run.is c.run_line.ensures.told

pub returns-in-Run-clause-failed : goal.returns-in-Run-clause-failed
returns-in-Run-clause-failed g c = rw c.in-Run.is c.run_line.ensures.failed

pub returns-in-Compare-clause-told : goal.returns-in-Compare-clause-told
returns-in-Compare-clause-told g c = rw c.in-Compare.is c.compare.ensures.told

pub returns-in-Compare-clause-failed : goal.returns-in-Compare-clause-failed
returns-in-Compare-clause-failed g c = rw c.in-Compare.is c.compare.ensures.failed

pub returns-in-Leak-clause-told : goal.returns-in-Leak-clause-told
returns-in-Leak-clause-told g c = rw c.in-Leak.is c.leak_line.ensures.told

pub returns-in-Leak-clause-failed : goal.returns-in-Leak-clause-failed
returns-in-Leak-clause-failed g c = rw c.in-Leak.is c.leak_line.ensures.failed

pub returns-in-Compare-clause-noted : goal.returns-in-Compare-clause-noted
returns-in-Compare-clause-noted g c = rw c.in-Compare.is c.compare.ensures.noted

pub returns-in-Compare-clause-hushed : goal.returns-in-Compare-clause-hushed
returns-in-Compare-clause-hushed g c = rw c.in-Compare.is c.compare.ensures.hushed

pub returns-in-List-clause-told : goal.returns-in-List-clause-told
returns-in-List-clause-told g c = rw c.in-List.is
    (good_told _ c.list_line.result c.good.result c.good.ensures c.list_line.ensures.told)

pub returns-in-List-clause-failed : goal.returns-in-List-clause-failed
returns-in-List-clause-failed g c = rw c.in-List.is
    (good_failed _ c.list_line.result c.good.result c.good.ensures c.list_line.ensures.failed)

pub returns-in-Policy-clause-told : goal.returns-in-Policy-clause-told
returns-in-Policy-clause-told g c = rw c.in-Policy.is c.policy.ensures.told

pub returns-in-Policy-clause-failed : goal.returns-in-Policy-clause-failed
returns-in-Policy-clause-failed g c = rw c.in-Policy.is c.policy.ensures.failed

pub returns-in-Visible-clause-told : goal.returns-in-Visible-clause-told
returns-in-Visible-clause-told g c = rw c.in-Visible.is c.visible.ensures.told

pub returns-in-Visible-clause-failed : goal.returns-in-Visible-clause-failed
returns-in-Visible-clause-failed g c = rw c.in-Visible.is c.visible.ensures.failed

pub returns-in-Layout-clause-told : goal.returns-in-Layout-clause-told
returns-in-Layout-clause-told g c = rw c.in-Layout.is c.layout_line.ensures.told

pub returns-in-Layout-clause-failed : goal.returns-in-Layout-clause-failed
returns-in-Layout-clause-failed g c = rw c.in-Layout.is c.layout_line.ensures.failed
