use Rattle.std.proofs.Common.{drop, map}
use Rattle.vsi_syntax.specs.CommandView as syntax
use Rattle.vsi_lattice.specs.LatticeView.{class_named}
use Rattle.vsi_scope.proofs.Declaring.{Halfway}
use Rattle.vsi_scope.proofs.resolution.whole.read_globals.Given as goal

abbrev pub invariant-loop-d : goal.invariant-loop-d
invariant-loop-d l =
    Halfway (class_named l.lattice) l.globals (map syntax.declared l.declarations)
    (map syntax.declared (drop l.d-index l.declarations))
