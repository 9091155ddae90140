use Rattle.vsi_project.specs.Paths.{IsWithin}
use Rattle.vsi_project.specs.Programs.{IsOf}
use Rattle.std.specs.List.{All}
use Rattle.vsi_project.proofs.reader.Section.entries.Given as goal

-- The programs so far are those of the project file, if the lattice is.
abbrev pub invariant-loop-start : goal.invariant-loop-start
invariant-loop-start l = IsWithin l.self.path.now l.lattice → All (IsOf l.self.path.now) l.programs.items
