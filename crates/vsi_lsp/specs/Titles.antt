-- The title of the fix that raises classes.
use Rattle.std.specs.Prelude.{◌≡◌, ℕ, List, [], ◌∷◌, ◌++◌, codes}
use Rattle.std.specs.List.{All, flat_map}
use Rattle.vsi_lattice.specs.Order as orders
use Rattle.vsi_lattice.specs.Order.{IsClass}
use Rattle.vsi_lattice.specs.LatticeView.{class_named, order}
use Rattle.vsi_lattice.specs.declared.lattice.Lattice.{Lattice}
use Rattle.vsi_scope.specs.Program.{Resolved}
use Rattle.vsi_types.specs.declared.rules.Profile.{Profile}
use Rattle.vsi_types.specs.Security.{program}
use Rattle.vsi_infer.specs.Explanation.{name_of}
use Rattle.vsi_compiler.specs.Stands.{Stands}
use Rattle.vsi_flows.specs.declared.least.Raise.{Raise}
use Rattle.vsi_flows.specs.Raising.{AreLeastRaises}
use Rattle.vsi_flows.specs.Lines.{class_name}

-- The old classes of the raises are of the lattice.
abbrev pub HasOldClassesIn : orders.Lattice → List Raise → Type 0
HasOldClassesIn L raises = All (λ r. IsClass L r.old) raises

-- A raise in a title: the name of the variable, its declared class and the new one.
abbrev pub raise_words : Lattice → Resolved → Raise → List ℕ
raise_words l r raise =
    name_of r raise.variable ++ codes " from " ++ class_name l raise.old ++ codes " to " ++ class_name l raise.new

-- A raise after others in a title.
abbrev pub further_words : Lattice → Resolved → Raise → List ℕ
further_words l r raise = codes ", " ++ raise_words l r raise

-- The title of the fix that makes these raises, with commas between them.
abbrev pub raises_title : Lattice → Resolved → List Raise → List ℕ
raises_title l r [] = codes "Raise "
raises_title l r (first ∷ rest) = codes "Raise " ++ raise_words l r first ++ flat_map (further_words l r) rest

-- The title has the raises to the least policy under which the text's program is accepted.
pub record IsTitle (l : Lattice) (P : Profile) (source title : List ℕ) : Type 0 where
  pub resolved : Resolved
  pub stands : Stands (class_named l) source resolved
  pub raises : List Raise
  pub least : AreLeastRaises (order l) P (program resolved) raises
  pub words : title ≡ raises_title l resolved raises
