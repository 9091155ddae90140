-- A text with a name in place of each mention of a variable.
use Rattle.std.specs.Prelude.{ℕ, ◌-◌, ◌==◌, ◌≤◌, List, [], ◌∷◌, ◌++◌, map, filter, take, drop}
use Rattle.vsi_syntax.specs.declared.token.Span.{Span}
use Rattle.vsi_client.specs.declared.renaming.Mention.{Mention}

-- The parts of a text that mention a variable.
abbrev pub parts_of : ℕ → List Mention → List Span
parts_of variable mentions = map (λ m. m.span) (filter (λ m. m.variable == variable) mentions)

-- The text from a byte on, with a name in place of each part.
abbrev pub respelled : List ℕ → List ℕ → ℕ → List Span → List ℕ
respelled name text at [] = drop at text
respelled name text at (part ∷ parts) =
    take (part.start - at) (drop at text) ++ name ++ respelled name text part.stop parts

-- The parts follow one another from a byte on, in a text of this length.
abbrev pub AreInOrder : ℕ → ℕ → List Span → Type 0
AreInOrder size at [] = at ≤ size
AreInOrder size at (part ∷ parts) = (at ≤ part.start) × (part.start ≤ part.stop) × AreInOrder size part.stop parts
