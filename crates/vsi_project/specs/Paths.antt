-- The paths that a project file may name.
use Rattle.std.specs.Prelude.{◌≡◌, ℕ, ◌+◌, ◌-◌, ◌==◌, Bool, true, false, ◌||◌, ◌&&◌, not, List, [], ◌∷◌, if◌then◌else◌, Option, None, Some, bytes_eq, codes}
use Rattle.std.specs.List.{slice_split}
use Rattle.std.specs.Option.{is_some}
use Rattle.std.specs.Str.Lossy.{utf8_lossy}
use Rattle.vsi_conform.specs.Beside.{beside}

-- From a folder that is so far below another one, a part of a path leads up by two dots, nowhere by none or one, and
-- down by any other name: how far below it is then, or nothing above that other folder.
abbrev pub moved : ℕ → List ℕ → Option ℕ
moved depth part =
    if bytes_eq part (codes "..") then (if depth == 0 then None else Some (depth - 1))
    else if bytes_eq part [] || bytes_eq part (codes ".") then Some depth
    else Some (depth + 1)

-- How far below it the parts of a path lead, one after another, or nothing if they once lead out.
abbrev pub reached : Option ℕ → List (List ℕ) → Option ℕ
reached None parts = None
reached (Some depth) [] = Some depth
reached (Some depth) (part ∷ parts) = reached (moved depth part) parts

-- The path stays in the folder that it is taken in.
abbrev pub stays : List ℕ → Bool
stays path = is_some (reached (Some 0) (slice_split (λ b. b == 47) path))

-- The path is neither empty nor from the root, and isn't taken for an option.
abbrev pub is_relative : List ℕ → Bool
is_relative [] = false
is_relative (b ∷ bs) = not (b == 47 || b == 45)

-- The path is relative, and stays in the folder that it is taken in.
abbrev pub is_inside : List ℕ → Bool
is_inside path = is_relative path && stays path

-- This path leads to a file in the folder of the project file at another path, or in a folder below it.
abbrev pub IsWithin : List ℕ → List ℕ → Type 0
IsWithin project path = (name : List ℕ) × (is_inside name ≡ true) × (path ≡ utf8_lossy (beside project name))
