-- How a text is written in a page.
use Rattle.std.specs.Prelude.{ℕ, ◌==◌, if◌then◌else◌, List, [], ◌∷◌, codes}
use Rattle.std.specs.List.{flat_map}

-- A byte that could begin or end markup is written as its number; any other byte is written as it is.
abbrev pub escape : ℕ → List ℕ
escape b =
    if b == 60 then codes "&#60;" else if b == 62 then codes "&#62;" else if b == 38 then codes "&#38;"
    else if b == 34 then codes "&#34;" else if b == 39 then codes "&#39;" else b ∷ []

-- A text is escaped byte by byte.
abbrev pub escaped : List ℕ → List ℕ
escaped text = flat_map escape text
