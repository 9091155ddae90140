-- The document of a refusal of a source text.
use Rattle.std.specs.Prelude.{◌≡◌, ℕ, ◌-◌, List, [], ◌∷◌, length, codes, decimal, Option, Some, None, option_map, slice_get}
use Rattle.serde_json.specs.Data.{Data, object, Members, no_members}
use Rattle.vsi_lattice.specs.declared.lattice.Lattice.{Lattice}
use Rattle.vsi_types.specs.declared.rules.Step.{Step}
use Rattle.vsi_answers.specs.Diagnostic.{nothing, number, pair, place, word, numbered, Diagnostic, Field}
use Rattle.vsi_answers.specs.Members.{without_end, with_text, with_natural}
use Rattle.vsi_documents.specs.Document.{document_text}
use Rattle.vsi_documents.specs.Location.{location_members}
use Rattle.vsi_documents.specs.Objects.{array_members, text_members, with_array, with_object}
use Rattle.vsi_documents.specs.Steps.{LocatesFlow, position_in}

-- ---- the position.

-- The position at which the last of these steps writes, if there is one.
abbrev pub last_place : List ℕ → List Step → Option (ℕ × ℕ)
last_place source steps =
    option_map (λ s. position_in source s.written.start) (slice_get steps (length steps - 1))

-- The position at which the last step of a flow writes, if there is one.
abbrev pub written_place : List ℕ → Option (List Step) → Option (ℕ × ℕ)
written_place source None = None
written_place source (Some steps) = last_place source steps

-- The position in a field, or another one.
abbrev pub place_or : Field → Option (ℕ × ℕ) → Option (ℕ × ℕ)
place_or nothing other = other
place_or (number n) other = other
place_or (pair a b) other = other
place_or (place line column) other = Some (line, column)
place_or (word w) other = other
place_or (numbered w n) other = other

-- The position of a refusal: its own, or for a flow that at which the last step writes.
abbrev pub place_of : List ℕ → Diagnostic → Option (ℕ × ℕ)
place_of source d = place_or d.field (written_place source d.steps)

-- ---- the rule and the result.

-- The members of a rule: the number and the name of the refusal.
abbrev pub rule_members : List ℕ → Diagnostic → Members
rule_members id d = with_text (codes "name") d.name (text_members (codes "id") id)

-- The flow whose locations are these objects.
abbrev pub flow_members : List Data → Members
flow_members objects =
    array_members (codes "threadFlows") (object (array_members (codes "locations") objects) ∷ [])

-- `codeFlows`, if a refusal is that of a flow.
abbrev pub with_flow : Option (List Data) → Members → Members
with_flow None ms = ms
with_flow (Some objects) ms = with_array (codes "codeFlows") (object (flow_members objects) ∷ []) ms

-- The members of a result of the rule with an identifier and an index, at a location, with the steps of a flow and the
-- lines that are printed.
abbrev pub result_members : List ℕ → ℕ → Members → Option (List Data) → List ℕ → Members
result_members id index location steps lines =
    with_natural (codes "ruleIndex") index (with_text (codes "ruleId") id
    (with_object (codes "message") (text_members (codes "text") (without_end lines))
    (with_array (codes "locations") (object location ∷ [])
    (with_text (codes "level") (codes "error") (with_flow steps no_members)))))

-- The rules of the document of a refusal.
abbrev pub rules_of : Diagnostic → List Data
rules_of d = object (rule_members (decimal d.code) d) ∷ []

-- The results of the document of a refusal.
abbrev pub results_of : List ℕ → List ℕ → Diagnostic → Option (List Data) → List ℕ → List Data
results_of uri source d steps lines =
    object (result_members (decimal d.code) 0 (location_members uri (place_of source d)) steps lines) ∷ []

-- The document of a refusal with these lines.
pub record IsRefusalDocument (l : Lattice) (uri source : List ℕ) (d : Diagnostic) (lines out : List ℕ) : Type 0 where
  pub steps : Option (List Data)
  pub locates : LocatesFlow l uri source d.steps steps
  pub text : out ≡ document_text (rules_of d) (results_of uri source d steps lines)
