-- Refusals, from whichever layer, and their lines.
use Rattle.std.specs.Prelude.{ℕ, List, [], ◌∷◌, ◌++◌, codes, decimal, Option, Some, None}
use Rattle.vsi_types.specs.declared.rules.Step.{Step}

-- The field of a refusal.
pub data Field : Type 0 where
  nothing : Field
  number : ℕ → Field
  pair : ℕ → ℕ → Field
  place : (line : ℕ) → (column : ℕ) → Field
  word : List ℕ → Field
  numbered : List ℕ → ℕ → Field

-- A refusal: its number, its name, its field and, for a flow of a text, the steps of its walk.
pub record Diagnostic : Type 0 where
  pub code : ℕ
  pub name : List ℕ
  pub field : Field
  pub steps : Option (List Step)

-- A refusal that has no walk.
abbrev pub refusal : ℕ → List ℕ → Field → Diagnostic
refusal code name field = record { code = code; name = name; field = field; steps = None }

-- A refused flow of a text.
abbrev pub refused_flow : List Step → Diagnostic
refused_flow steps = record { code = 25; name = codes "Refused"; field = nothing; steps = Some steps }

-- A field as it is printed, after a space.
abbrev pub field_text : Field → List ℕ
field_text nothing = []
field_text (number n) = codes " " ++ decimal n
field_text (pair a b) = codes " " ++ decimal a ++ codes " " ++ decimal b
field_text (place line column) = codes " " ++ decimal line ++ codes ":" ++ decimal column
field_text (word w) = codes " " ++ w
field_text (numbered w n) = codes " " ++ w ++ codes " " ++ decimal n

-- `refused: NUMBER NAME`, the field and a line feed.
abbrev pub line_text : Diagnostic → List ℕ
line_text d = codes "refused: " ++ decimal d.code ++ codes " " ++ d.name ++ field_text d.field ++ 10 ∷ []
