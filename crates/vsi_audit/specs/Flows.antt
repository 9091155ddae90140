-- The table of flows of an image.
use Rattle.std.specs.Prelude.{List}
use Rattle.vsi_lattice.specs.Order.{Lattice}
use Rattle.vsi_lattice.specs.Known.{Known}
use Rattle.vsi_image.specs.declared.instr.Image.{Image}
use Rattle.vsi_scope.specs.Program.{Resolved}
use Rattle.vsi_types.specs.declared.rules.Profile.{Profile}
use Rattle.vsi_types.specs.Security.{program}
use Rattle.vsi_flows.specs.Table.{IsTable}
use Rattle.vsi_flows.specs.declared.table.Pair.{Pair}
use Rattle.vsi_audit.specs.Standing.{HaveClasses, StandsFor}

-- The image is that of a program, and these pairs are the program's table of flows.
pub record IsTableOfImage (known : Known) (L : Lattice) (P : Profile) (im : Image) (pairs : List Pair) : Type 0 where
  pub read : Resolved
  pub classes : HaveClasses known read.globals
  pub stands : StandsFor read im
  pub table : IsTable L P (program read) pairs
