-- The lattice file that a source text names in its first comment.
use Rattle.std.specs.Prelude.{ℕ, suc, ◌==◌, ◌||◌, List, [], ◌∷◌, Option, Some, None, option_map, codes, take, if◌then◌else◌}
use Rattle.std.specs.Option.{option_and_then}

-- The text after the first `#`, which begins a comment wherever it is.
abbrev pub first_comment : List ℕ → Option (List ℕ)
first_comment [] = None
first_comment (byte ∷ rest) = if byte == 35 then Some rest else first_comment rest

-- The text after a prefix, if it begins with the prefix.
abbrev pub behind : List ℕ → List ℕ → Option (List ℕ)
behind [] text = Some text
behind (wanted ∷ more) [] = None
behind (wanted ∷ more) (byte ∷ rest) = if byte == wanted then behind more rest else None

-- The number of bytes before the first line feed or carriage return.
abbrev pub line_length : List ℕ → ℕ
line_length [] = 0
line_length (byte ∷ rest) = if byte == 10 || byte == 13 then 0 else suc (line_length rest)

-- The bytes before the first line feed or carriage return.
abbrev pub first_line : List ℕ → List ℕ
first_line text = take (line_length text) text

-- The path of the lattice file: the text after `# policy: ` on its line, if the first comment begins like this.
abbrev pub named_policy : List ℕ → Option (List ℕ)
named_policy text = option_map first_line (option_and_then (behind (codes " policy: ")) (first_comment text))
