use Rattle.std.proofs.Common.{◌≡◌}
use Rattle.vsi_image.specs.Fields.{globals}
use Rattle.vsi_documents.specs.Rows.{globals_below}
use Rattle.vsi_documents.proofs.roles.own_globals.Given as goal

-- These are the classes so far.
abbrev pub invariant-loop-class : goal.invariant-loop-class
invariant-loop-class l = globals l.found.items ≡ globals_below l.lattice l.class
