use Rattle.std.proofs.Common.{sym, subst}
use Rattle.vsi_project.specs.Paths.{IsWithin}
use Rattle.vsi_project.proofs.reader.read_project.Goals as goal

pub returns-clause-below : goal.returns-clause-below
returns-clause-below c k d within =
    (c.in_ok-programs.ensures.all
    (subst (IsWithin c.args.path.now) (sym c.as_str.ensures.value) c.in_ok-lattice.ensures) k d within).1
