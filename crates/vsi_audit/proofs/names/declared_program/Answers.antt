use Rattle.vsi_lattice.specs.LatticeView.{class_named}
use Rattle.vsi_syntax.specs.ProgramView.{whole}
use Rattle.vsi_compiler.proofs.Programs.{have_classes}
use Rattle.vsi_audit.proofs.names.declared_program.Goals as goal

pub returns-clause-named : goal.returns-clause-named
returns-clause-named c =
    have_classes (class_named c.args.lattice.now) (whole c.in-Ok.program) c.in-Ok-resolve.resolved
    c.in-Ok-resolve.ensures.resolved
