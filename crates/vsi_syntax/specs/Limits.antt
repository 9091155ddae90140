-- The limits of a text and of a program's tree.
use Rattle.std.specs.Prelude.{ℕ}

-- The most bytes a text may have.
abbrev pub max_text_length : ℕ
max_text_length = 1048576

-- The greatest depth of a body.
abbrev pub max_depth : ℕ
max_depth = 200
