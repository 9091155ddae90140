use Rattle.std.proofs.Common.{take}
use Rattle.vsi_scope.specs.View.{sequence}
use Rattle.vsi_audit.specs.Fitting.{Fits}
use Rattle.vsi_audit.proofs.audit.+fitting.Given as goal

abbrev pub invariant-fit_all-loop-c : goal.invariant-fit_all-loop-c
invariant-fit_all-loop-c l = Fits l.scope l.room l.letvars (sequence (take l.c-index l.body))
