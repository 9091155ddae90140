-- Raises as a line of JSON, whose verdict is defined.
use Rattle.std.specs.Prelude.{◌≡◌, ℕ, Bool, List, codes}
use Rattle.serde_json.specs.Data.{Data}
use Rattle.vsi_lattice.specs.declared.lattice.Lattice.{Lattice}
use Rattle.vsi_lattice.specs.LatticeView.{class_named, order}
use Rattle.vsi_scope.specs.Program.{Resolved}
use Rattle.vsi_types.specs.declared.rules.Profile.{Profile}
use Rattle.vsi_types.specs.Security.{program}
use Rattle.vsi_compiler.specs.Stands.{Stands}
use Rattle.vsi_flows.specs.declared.least.Raise.{Raise}
use Rattle.vsi_flows.specs.Raising.{AreLeastRaises}
use Rattle.vsi_documents.specs.Objects.{verdict_line}

-- There are raises to the least policy under which the text's program is accepted, and the line has this verdict beside
-- some objects.
pub record IsRaisesJson (l : Lattice) (P : Profile) (source : List ℕ) (accepted : Bool) (out : List ℕ) : Type 0 where
  pub resolved : Resolved
  pub stands : Stands (class_named l) source resolved
  pub raises : List Raise
  pub least : AreLeastRaises (order l) P (program resolved) raises
  pub objects : List Data
  pub line : out ≡ verdict_line accepted (codes "raises") objects
