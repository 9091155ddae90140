use Rattle.std.proofs.Common.{◌≡◌}
use Rattle.vsi_image.specs.Fields.{globals}
use Rattle.vsi_documents.specs.Rows.{each_below, numbered_warning}
use Rattle.vsi_documents.proofs.roles.unused_warnings.Given as goal

-- The text has the warnings about the classes so far.
abbrev pub invariant-loop-class : goal.invariant-loop-class
invariant-loop-class l =
    l.text.items ≡ each_below (numbered_warning l.lattice (globals l.interface.globals.items)) l.class
