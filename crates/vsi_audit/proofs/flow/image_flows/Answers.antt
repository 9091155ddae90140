use Rattle.std.proofs.Common.{subst}
use Rattle.vsi_compiler.proofs.Compiled.{globals_of, declared_of}
use Rattle.vsi_audit.specs.Standing.{StandsFor}
use Rattle.vsi_audit.proofs.flow.image_flows.Goals as goal

pub flows_in-requires-clause-globals : goal.flows_in-requires-clause-globals
flows_in-requires-clause-globals c =
    globals_of c.args.lattice.now c.in_ok-program.program c.in_ok-program.ensures.classes

pub flows_in-requires-clause-declared : goal.flows_in-requires-clause-declared
flows_in-requires-clause-declared c =
    declared_of c.args.lattice.now c.in_ok-program.program c.in_ok-program.ensures.classes

pub returns-in-Ok-clause-table : goal.returns-in-Ok-clause-table
returns-in-Ok-clause-table c = record {
  read = c.in_ok-program.program;
  classes = c.in_ok-program.ensures.named;
  stands = subst (StandsFor c.in_ok-program.program) c.image-image.ensures.same c.in_ok-program.ensures.stands;
  table = c.in-Ok.ensures.table;
}
