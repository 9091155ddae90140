use Rattle.std.proofs.Common.{◌≡◌, drop}
use Rattle.vsi_image.specs.Fields.{globals}
use Rattle.vsi_conform.specs.Points.{entries}
use Rattle.vsi_conform.specs.Reading as spec
use Rattle.vsi_conform.proofs.keys.Section.entries.Given as goal

-- All names are names of globals exactly if the remaining ones are.
abbrev pub invariant-loop-entry : goal.invariant-loop-entry
invariant-loop-entry l =
    spec.are_named (globals l.self.globals.now) (entries (drop l.entry-index l.entry-items))
    ≡ spec.are_named (globals l.self.globals.now) (entries l.entry-items)
