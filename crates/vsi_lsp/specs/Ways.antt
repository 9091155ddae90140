-- The ways to files, and what a project requires of the text at a path.
use Rattle.std.specs.Prelude.{◌≡◌, ℕ, ◌-◌, ◌==◌, ◌||◌, true, List, [], ◌∷◌, ◌++◌, if◌then◌else◌, bytes_eq, codes, length, take, string_bytes, Contains}
use Rattle.std.specs.List.{slice_split}
use Rattle.vsi_project.specs.declared.reader.Program.{Program}

-- The names on a way after one more part of its path: a part that is empty or `.` leads nowhere, and `..` leads back.
abbrev pub led : List (List ℕ) → List ℕ → List (List ℕ)
led names part =
    if bytes_eq part [] || bytes_eq part (codes ".") then names
    else if bytes_eq part (codes "..") then take (length names - 1) names
    else names ++ part ∷ []

-- The names on a way after further parts of its path.
abbrev pub led_on : List (List ℕ) → List (List ℕ) → List (List ℕ)
led_on names [] = names
led_on names (part ∷ parts) = led_on (led names part) parts

-- The names on the way to the file at a path.
abbrev pub way : List ℕ → List (List ℕ)
way path = led_on [] (slice_split (λ b. b == 47) path)

-- The program is strict, and its source is at this path.
pub record IsStrictAt (path : List ℕ) (p : Program) : Type 0 where
  pub strict : p.is_strict ≡ true
  pub same : way (string_bytes p.source) ≡ way path

-- One of these programs is strict, and its source is at this path.
pub record RequiresStrict (programs : List Program) (path : List ℕ) : Type 0 where
  pub program : Program
  pub among : Contains programs program
  pub strict : IsStrictAt path program
