-- How the arguments after a subcommand are read.
use Rattle.std.specs.Prelude.{ℕ, ◌==◌, Bool, true, false, List, [], ◌∷◌, ◌++◌, Option, Some, None, option_to_list, map, bytes_eq, codes, if◌then◌else◌, is_some, String, string_bytes}
use Rattle.std.specs.declared.alloc.Global.{Global}
use Rattle.std.specs.Borrow.{Bor}

-- The texts of arguments.
abbrev pub texts : List (String Global) → List (List ℕ)
texts words = map string_bytes words

-- The texts that references show.
abbrev pub shown : List (Bor (List ℕ)) → List (List ℕ)
shown references = map (λ r. r.now) references

-- The argument is `--`, after which every argument is an operand.
abbrev pub is_end : List ℕ → Bool
is_end word = bytes_eq word (codes "--")

-- The argument is one of these.
abbrev pub is_among : List (List ℕ) → List ℕ → Bool
is_among [] word = false
is_among (name ∷ names) word = if bytes_eq word name then true else is_among names word

-- The options that take a value.
abbrev pub VALUED : List (List ℕ)
VALUED =
    codes "--budget" ∷ codes "--class" ∷ codes "--color" ∷ codes "--format" ∷ codes "--from" ∷ codes "--init"
    ∷ codes "--inputs" ∷ codes "--interface" ∷ codes "--lattice" ∷ codes "--name" ∷ codes "--out" ∷ codes "--outputs"
    ∷ codes "--project" ∷ codes "--release" ∷ codes "--rule" ∷ codes "--save" ∷ codes "--save-every"
    ∷ codes "--seed" ∷ codes "--set" ∷ codes "--store" ∷ codes "--to" ∷ codes "--tries" ∷ []

-- The argument begins with a hyphen and is longer than that.
abbrev pub is_dashed : List ℕ → Bool
is_dashed [] = false
is_dashed (byte ∷ []) = false
is_dashed (byte ∷ next ∷ rest) = byte == 45

-- The operands among arguments, the first of which may be the value of an option: each argument that is neither an
-- option nor its value, and every argument after the first `--`.
abbrev pub operands_in : Bool → List (List ℕ) → List (List ℕ)
operands_in is_value [] = []
operands_in true (word ∷ rest) = operands_in false rest
operands_in false (word ∷ rest) =
    if is_end word then rest
    else (if is_among VALUED word then operands_in true rest
    else (if is_dashed word then operands_in false rest else word ∷ operands_in false rest))

-- The operands among arguments, each of which is one if `--` came before them.
abbrev pub left : Bool → Bool → List (List ℕ) → List (List ℕ)
left is_over is_value words = if is_over then words else operands_in is_value words

-- The flag is one of the arguments before the first `--`.
abbrev pub has_flag : List ℕ → List (List ℕ) → Bool
has_flag flag [] = false
has_flag flag (word ∷ rest) =
    if is_end word then false else (if bytes_eq word flag then true else has_flag flag rest)

-- The part of an argument after the option and `=`.
abbrev pub joined : List ℕ → List ℕ → Option (List ℕ)
joined [] [] = None
joined [] (byte ∷ value) = if byte == 61 then Some value else None
joined (wanted ∷ more) [] = None
joined (wanted ∷ more) (byte ∷ rest) = if byte == wanted then joined more rest else None

-- The values that the arguments before the first `--`, the first of which may be the option's value, give for an
-- option: the argument after the option, or the part of its argument after `=`.
abbrev pub values_in : List ℕ → Bool → List (List ℕ) → List (List ℕ)
values_in option is_value [] = []
values_in option true (word ∷ rest) = word ∷ values_in option false rest
values_in option false (word ∷ rest) =
    if is_end word then []
    else (if bytes_eq word option then values_in option true rest
    else option_to_list (joined option word) ++ values_in option false rest)

-- The flags and options among arguments, the first of which may be the value of an option: each argument before the
-- first `--` that begins with a hyphen and isn't the value of an option.
abbrev pub dashed_in : Bool → List (List ℕ) → List (List ℕ)
dashed_in is_value [] = []
dashed_in true (word ∷ rest) = dashed_in false rest
dashed_in false (word ∷ rest) =
    if is_end word then []
    else (if is_dashed word then word ∷ dashed_in (is_among VALUED word) rest else dashed_in false rest)

-- The argument is one of these options, alone or with `=` and its value.
abbrev pub is_option : List (List ℕ) → List ℕ → Bool
is_option [] word = false
is_option (option ∷ options) word =
    if bytes_eq word option then true else (if is_some (joined option word) then true else is_option options word)

-- The argument is one of these flags or options.
abbrev pub is_own : List (List ℕ) → List (List ℕ) → List ℕ → Bool
is_own flags options word = if is_among flags word then true else is_option options word
