-- Arguments that ask for help.
use Rattle.std.specs.Prelude.{ℕ, ◌==◌, Bool, true, false, ◌&&◌, ◌||◌, List, [], ◌∷◌, IsTrue, bytes_eq, codes, if◌then◌else◌, String}
use Rattle.std.specs.List.{list_any}
use Rattle.std.specs.declared.alloc.Global.{Global}
use Rattle.vsi_arguments.specs.Words.{VALUED, is_among, is_end, texts}

-- The argument begins with `-h` or `-V`.
abbrev pub is_short : List ℕ → Bool
is_short (first ∷ second ∷ rest) = (first == 45) && (second == 104 || second == 86)
is_short word = false

-- The argument asks for help or for the version: it begins with `-h` or `-V`, or is `--help` or `--version`.
abbrev pub is_help : List ℕ → Bool
is_help word = is_short word || bytes_eq word (codes "--help") || bytes_eq word (codes "--version")

-- The first argument is `help`.
abbrev pub is_first : List (List ℕ) → Bool
is_first [] = false
is_first (first ∷ rest) = bytes_eq first (codes "help")

-- The arguments before the first `--` that isn't the value of an option; the first argument may be such a value.
abbrev pub front_of : Bool → List (List ℕ) → List (List ℕ)
front_of is_value [] = []
front_of true (word ∷ rest) = word ∷ front_of false rest
front_of false (word ∷ rest) = if is_end word then [] else word ∷ front_of (is_among VALUED word) rest

-- The first argument is `help`, or an argument before the first `--` asks for help or for the version.
abbrev pub AsksHelp : List (String Global) → Type 0
AsksHelp words = IsTrue (is_first (texts words) || list_any is_help (front_of false (texts words)))
