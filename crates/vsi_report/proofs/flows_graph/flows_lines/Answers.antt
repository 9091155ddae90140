use Rattle.vsi_compiler.proofs.Compiled.{globals_of, declared_of}
use Rattle.vsi_report.proofs.flows_graph.flows_lines.Goals as goal

pub program_lines-requires-clause-globals : goal.program_lines-requires-clause-globals
program_lines-requires-clause-globals c =
    globals_of c.args.lattice.now c.in_ok-program.program c.in_ok-program.ensures.classes

pub program_lines-requires-clause-declared : goal.program_lines-requires-clause-declared
program_lines-requires-clause-declared c =
    declared_of c.args.lattice.now c.in_ok-program.program c.in_ok-program.ensures.classes
