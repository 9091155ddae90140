-- The arguments that read the input.
use Rattle.std.specs.Prelude.{ℕ, Bool, true, false, ◌||◌, List, [], ◌∷◌, Option, Some, String, string_bytes, bytes_eq, codes, if◌then◌else◌}
use Rattle.std.specs.declared.alloc.Global.{Global}

-- The arguments begin with `drive` or `lsp`.
abbrev pub reads_input : List (String Global) → Bool
reads_input [] = false
reads_input (word ∷ words) =
    bytes_eq (string_bytes word) (codes "drive") || bytes_eq (string_bytes word) (codes "lsp")

-- `--explain` is among the arguments.
abbrev pub has_explain : List (String Global) → Bool
has_explain [] = false
has_explain (word ∷ words) = if bytes_eq (string_bytes word) (codes "--explain") then true else has_explain words

-- The bytes that the arguments can read from the input: nothing, unless they begin with `drive` or `lsp`.
abbrev pub given_to : List (String Global) → Option (List ℕ) → Option (List ℕ)
given_to words remaining = if reads_input words then remaining else Some []
