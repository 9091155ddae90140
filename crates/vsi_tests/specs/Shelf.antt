-- The contents of the files of the tests.
use Rattle.std.specs.Prelude.{ℕ, Bool, false, List, Option, Some, None, bytes_eq, codes, if◌then◌else◌}
use Rattle.vsi_tests.specs.declared.files.WrittenFile.{WrittenFile}
use Rattle.vsi_tests.specs.declared.files.WrittenFile.TheVariants.{Blank, Filled}

-- The lattice of one class below another.
abbrev pub two : List ℕ
two = codes "classes = [\"L\", \"H\"]\nbelow = [[\"L\", \"H\"]]\n"

-- The bytes of the files with texts; the bytes of the image aren't known.
abbrev pub stored : List ℕ → Option (List ℕ)
stored path =
    if bytes_eq path (codes "two") then Some two
    else if bytes_eq path (codes "torn") then Some two
    else if bytes_eq path (codes "sum") then Some (codes "var x : L; x := 1 + 2")
    else if bytes_eq path (codes "leak") then Some (codes "var h : H; var l : L; l := h")
    else None

-- The file at the path has been written.
abbrev pub is_written : WrittenFile → List ℕ → Bool
is_written Blank path = false
is_written (Filled at written) path = bytes_eq at.items path

-- The bytes of the file at each path: what has been written, or else what was stored.
abbrev pub held : WrittenFile → List ℕ → Option (List ℕ)
held Blank path = stored path
held (Filled at written) path = if bytes_eq at.items path then Some written.items else stored path
