-- A refusal as a line of JSON.
use Rattle.std.specs.Prelude.{◌≡◌, ◌⊎◌, ℕ, false, List, [], map, codes, Option, Some, None}
use Rattle.serde_json.specs.Data.{Data, boolean, array, object, Members, no_members, put}
use Rattle.serde_json.specs.View.{items_of}
use Rattle.vsi_lattice.specs.declared.lattice.Lattice.{Lattice}
use Rattle.vsi_lattice.specs.LatticeView.{class_named}
use Rattle.vsi_scope.specs.Program.{Resolved}
use Rattle.vsi_types.specs.declared.rules.Step.{Step}
use Rattle.vsi_infer.specs.Explanation.{name_of, rule_text}
use Rattle.vsi_compiler.specs.Stands.{Stands}
use Rattle.vsi_answers.specs.Diagnostic.{Field, nothing, number, pair, place, word, numbered, Diagnostic}
use Rattle.vsi_answers.specs.Members.{with_text, with_natural, without_end, object_line}
use Rattle.vsi_answers.specs.Source.{line_of, column_of}

-- ---- the steps of a flow.

-- The object of a step: the position where its source is read, its rule, and the names of both ends.
abbrev pub step_members : List ℕ → Resolved → Step → Members
step_members source r s =
    with_text (codes "to") (name_of r s.target) (with_text (codes "from") (name_of r s.source)
    (with_text (codes "kind") (rule_text s.rule) (with_natural (codes "column") (column_of source s.read.start)
    (with_natural (codes "line") (line_of source s.read.start) no_members))))

-- The objects of steps, in their order.
abbrev pub step_objects : List ℕ → Resolved → List Step → List Data
step_objects source r steps = map (λ s. object (step_members source r s)) steps

-- The objects are those of the steps, by the names of the text's program.
pub record NamesSteps (l : Lattice) (source : List ℕ) (steps : List Step) (objects : List Data) : Type 0 where
  pub resolved : Resolved
  pub stands : Stands (class_named l) source resolved
  pub are : objects ≡ step_objects source resolved steps

-- The text has no program, and there are no objects.
pub record NamesNothing (l : Lattice) (source : List ℕ) (objects : List Data) : Type 0 where
  pub unreadable : (r : Resolved) → ¬ (Stands (class_named l) source r)
  pub nothing : objects ≡ []

-- The objects of the steps of a walk of the text.
abbrev pub NamesWalk : Lattice → List ℕ → List Step → List Data → Type 0
NamesWalk l source steps objects = NamesSteps l source steps objects ⊎ NamesNothing l source objects

-- The objects of the steps of a flow, or none for any other refusal.
abbrev pub NamesFlow : Lattice → List ℕ → Option (List Step) → Option (List Data) → Type 0
NamesFlow l source None None = Unit {0}
NamesFlow l source None (Some objects) = ⊥
NamesFlow l source (Some steps) None = ⊥
NamesFlow l source (Some steps) (Some objects) = NamesWalk l source steps objects

-- ---- the whole.

-- `line` and `column`, if a refusal has a position.
abbrev pub with_place : Field → Members → Members
with_place nothing ms = ms
with_place (number n) ms = ms
with_place (pair a b) ms = ms
with_place (place line column) ms = with_natural (codes "column") column (with_natural (codes "line") line ms)
with_place (word w) ms = ms
with_place (numbered w n) ms = ms

-- `steps`, if a refusal is that of a flow.
abbrev pub with_steps : Option (List Data) → Members → Members
with_steps None ms = ms
with_steps (Some objects) ms = put (codes "steps") (array (items_of objects)) ms

-- The members of the object of a refusal with these lines.
abbrev pub refusal_members : Diagnostic → Option (List Data) → List ℕ → Members
refusal_members d steps lines =
    with_text (codes "text") (without_end lines) (with_steps steps (with_place d.field
    (with_text (codes "name") d.name (with_natural (codes "number") d.code
    (put (codes "accepted") (boolean false) no_members)))))

-- The line of that object.
abbrev pub refusal_line : Diagnostic → Option (List Data) → List ℕ → List ℕ
refusal_line d steps lines = object_line (refusal_members d steps lines)

-- The line of JSON of a refusal with these lines.
pub record IsRefusalJson (l : Lattice) (source : List ℕ) (d : Diagnostic) (lines out : List ℕ) : Type 0 where
  pub steps : Option (List Data)
  pub names : NamesFlow l source d.steps steps
  pub line : out ≡ refusal_line d steps lines

-- The beginning of a refusal's line.
abbrev pub refused_begin : List ℕ
refused_begin = codes "{\"accepted\":false,"

-- The line that says that a text is accepted.
abbrev pub accepted_line : List ℕ
accepted_line = codes "{\"accepted\":true}\n"
