use Rattle.std.proofs.Common.{◌<◌, All, sym, subst, List}
use Rattle.vsi_lattice.specs.LatticeView.{class_named}
use Rattle.vsi_scope.specs.declared.resolved.Global.{Global}
use Rattle.vsi_audit.specs.Standing.{HaveClasses}
use Rattle.vsi_audit.proofs.Standing.{classless_below}
use Rattle.vsi_audit.proofs.Structured.{passed_unread}
use Rattle.vsi_audit.proofs.audit.program_of.Goals as goal

pub returns-clause-named : goal.returns-clause-named
returns-clause-named c =
    subst (λ (gs : List Global). HaveClasses (class_named c.args.lattice.now) gs) (sym c.in_ok-program.ensures.globals)
    c.in_ok-base.ensures.named

pub returns-clause-classes : goal.returns-clause-classes
returns-clause-classes c = λ n below.
    record {
      globals = subst (λ (gs : List Global). All (λ g. g.class < n) gs) (sym c.in_ok-program.ensures.globals)
          (c.in_ok-base.ensures.classes n below).globals;
      letvars = classless_below n c.in_ok-program.program.letvars c.in_ok-program.ensures.letvars;
    }

pub returns-in_err-base-clause-unread : goal.returns-in_err-base-clause-unread
returns-in_err-base-clause-unread c =
    passed_unread c.args.image.now c.from_residual.result c.in_err-base.field-0.0 c.from_residual.ensures.1
    (c.in_err-base.ensures.unread c.args.image.now)
