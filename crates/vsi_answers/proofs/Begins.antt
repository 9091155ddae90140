-- The beginning of a refusal's line.
use Rattle.std.proofs.Common.{◌≡◌, ℕ, true, List, ◌++◌, drop, codes, Option, Some, None, refl}
use Rattle.serde_json.proofs.OnLiterals.{serde_json_on_literals}
use Rattle.serde_json.specs.Data.{Data, Members, no_members, member}
use Rattle.serde_json.specs.Written.{members_text}
use Rattle.vsi_answers.specs.Diagnostic.{Field, nothing, number, pair, place, word, numbered, Diagnostic}
use Rattle.vsi_answers.specs.Json as json

-- All members but the first.
abbrev tail_of : Members → Members
tail_of no_members = no_members
tail_of (member k d ms) = ms

-- The text after the comma that follows the first of two or more members.
abbrev after_first : Members → List ℕ
after_first ms = drop 1 (members_text true (tail_of ms)) ++ codes "\n"

-- A refusal with these parts.
abbrev made : ℕ → List ℕ → Field → Diagnostic
made code name field = record { code = code; name = name; field = field; steps = None }

-- The line has this beginning, whatever the field and the steps are.
begins_with : (code : ℕ) (name : List ℕ) (field : Field) (steps : Option (List Data)) (lines : List ℕ) →
    json.refusal_line (made code name field) steps lines
    ≡ json.refused_begin ++ after_first (json.refusal_members (made code name field) steps lines)
unfolding serde_json_on_literals
begins_with code name nothing None lines = refl
begins_with code name nothing (Some ds) lines = refl
begins_with code name (number n) None lines = refl
begins_with code name (number n) (Some ds) lines = refl
begins_with code name (pair a b) None lines = refl
begins_with code name (pair a b) (Some ds) lines = refl
begins_with code name (place line column) None lines = refl
begins_with code name (place line column) (Some ds) lines = refl
begins_with code name (word w) None lines = refl
begins_with code name (word w) (Some ds) lines = refl
begins_with code name (numbered w n) None lines = refl
begins_with code name (numbered w n) (Some ds) lines = refl

-- The line of a refusal has this beginning.
pub begins : (d : Diagnostic) (steps : Option (List Data)) (lines : List ℕ) →
    (rest : List ℕ) × (json.refusal_line d steps lines ≡ json.refused_begin ++ rest)
begins d steps lines =
    (after_first (json.refusal_members d steps lines), begins_with d.code d.name d.field steps lines)
