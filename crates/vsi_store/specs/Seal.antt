-- The first line of a store that is saved, by which a change or a cut is noticed.
use Rattle.std.specs.Prelude.{ℕ, nat_eq, nat_lt, Bool, false, not, if◌then◌else◌, bytes_eq, List, ◌++◌, codes, drop, length, take}
use Rattle.std.specs.List.{starts_with}
use Rattle.hex.specs.Hex.{encode_lower}
use Rattle.sha2.specs.Sha256.{sha256}

-- The beginning of the line.
abbrev pub MARK : List ℕ
MARK = codes "# sha256 "

-- The number of bytes of the line: the mark, 64 digits and a line feed.
abbrev pub LENGTH : ℕ
LENGTH = 74

-- The line of a text: a comment of TOML with the text's SHA-256 in hexadecimal.
abbrev pub seal : List ℕ → List ℕ
seal text = MARK ++ encode_lower (sha256 text) ++ codes "\n"

-- A text after its line.
abbrev pub sealed : List ℕ → List ℕ
sealed text = seal text ++ text

-- The first line of bytes is that of all bytes after it.
abbrev pub has_own_line : List ℕ → Bool
has_own_line bytes =
    if nat_lt (length bytes) LENGTH then false else bytes_eq (take LENGTH bytes) (seal (drop LENGTH bytes))

-- Bytes are a mark that was cut: some of its bytes, from its first on, and no others.
abbrev pub is_cut_mark : List ℕ → Bool
is_cut_mark bytes = if nat_eq (length bytes) 0 then false else starts_with nat_eq MARK bytes

-- Bytes that begin with the mark are whole if their first line is that of all bytes after it. Others are whole unless
-- they are a mark that was cut.
abbrev pub is_whole : List ℕ → Bool
is_whole bytes = if starts_with nat_eq bytes MARK then has_own_line bytes else not (is_cut_mark bytes)
