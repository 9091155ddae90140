-- The steps of a refused flow as locations.
use Rattle.std.specs.Prelude.{◌≡◌, ℕ, List, ◌++◌, map, codes, Option, Some, None}
use Rattle.serde_json.specs.Data.{Data, object, Members, no_members}
use Rattle.vsi_lattice.specs.declared.lattice.Lattice.{Lattice}
use Rattle.vsi_lattice.specs.LatticeView.{class_named}
use Rattle.vsi_scope.specs.Program.{Resolved}
use Rattle.vsi_types.specs.declared.rules.Step.{Step}
use Rattle.vsi_infer.specs.Explanation.{name_of, rule_text}
use Rattle.vsi_compiler.specs.Stands.{Stands}
use Rattle.vsi_answers.specs.Source.{line_of, column_of}
use Rattle.vsi_documents.specs.Location.{location_members}
use Rattle.vsi_documents.specs.Objects.{with_object, text_members}

-- The message of a step: its two variables and its rule.
abbrev pub step_text : Resolved → Step → List ℕ
step_text r s =
    name_of r s.source ++ codes " flows to " ++ name_of r s.target ++ codes " by " ++ rule_text s.rule

-- The line and the column of a position in the text.
abbrev pub position_in : List ℕ → ℕ → ℕ × ℕ
position_in source at = (line_of source at, column_of source at)

-- The members of the location of a step: its message, and the position where its source is read.
abbrev pub step_location : List ℕ → List ℕ → Resolved → Step → Members
step_location uri source r s =
    with_object (codes "message") (text_members (codes "text") (step_text r s))
    (location_members uri (Some (position_in source s.read.start)))

-- The members of the object of a step.
abbrev pub step_members : List ℕ → List ℕ → Resolved → Step → Members
step_members uri source r s = with_object (codes "location") (step_location uri source r s) no_members

-- The objects of steps, in their order.
abbrev pub step_objects : List ℕ → List ℕ → Resolved → List Step → List Data
step_objects uri source r steps = map (λ s. object (step_members uri source r s)) steps

-- The objects are those of the steps, by the names of the text's program.
pub record LocatesSteps (l : Lattice) (uri source : List ℕ) (steps : List Step) (objects : List Data) : Type 0 where
  pub resolved : Resolved
  pub stands : Stands (class_named l) source resolved
  pub are : objects ≡ step_objects uri source resolved steps

-- The objects of the steps of a flow, or none for any other refusal.
abbrev pub LocatesFlow : Lattice → List ℕ → List ℕ → Option (List Step) → Option (List Data) → Type 0
LocatesFlow l uri source None None = Unit {0}
LocatesFlow l uri source None (Some objects) = ⊥
LocatesFlow l uri source (Some steps) None = ⊥
LocatesFlow l uri source (Some steps) (Some objects) = LocatesSteps l uri source steps objects
