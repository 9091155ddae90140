-- The text of a document after changes.
use Rattle.std.specs.Prelude.{ℕ, max, List, [], ◌∷◌, ◌++◌, Option, Some, None, take, drop}
use Rattle.vsi_client.specs.declared.changes.Change.{Change}
use Rattle.vsi_client.specs.declared.places.Encoding.{Encoding}
use Rattle.vsi_client.specs.declared.places.Place.{Place}
use Rattle.vsi_client.specs.Places.{offset_in}

-- A text with a part between two offsets replaced; nothing is replaced if the second is before the first.
abbrev pub spliced : ℕ → ℕ → List ℕ → List ℕ → List ℕ
spliced start stop new text = take start text ++ new ++ drop (max start stop) text

-- The text after a change: the new text alone, or the new text in place of the part between two positions.
abbrev pub changed_at : Encoding → Option (Place × Place) → List ℕ → List ℕ → List ℕ
changed_at encoding None new text = new
changed_at encoding (Some range) new text =
    spliced (offset_in encoding text range.0) (offset_in encoding text range.1) new text

-- The text after a change.
abbrev pub changed : Encoding → Change → List ℕ → List ℕ
changed encoding change text = changed_at encoding change.range change.text.now text

-- The text after changes, each of the text that the one before it left.
abbrev pub changed_by : Encoding → List Change → List ℕ → List ℕ
changed_by encoding [] text = text
changed_by encoding (change ∷ changes) text = changed_by encoding changes (changed encoding change text)
