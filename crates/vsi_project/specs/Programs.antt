-- The programs of a project.
use Rattle.std.specs.Prelude.{◌≡◌, ◌≤◌, ℕ, true, List, length, IfSome, string_bytes}
use Rattle.std.specs.List.{All}
use Rattle.vsi_project.specs.Names.{AreApart, is_program_name}
use Rattle.vsi_project.specs.Paths.{IsWithin}
use Rattle.vsi_project.specs.declared.reader.Program.{Program}

-- A program has a name that it can have.
abbrev pub IsNamed : Program → Type 0
IsNamed p = is_program_name (string_bytes p.name) ≡ true

-- Each path of a program leads to a file in the folder of the project file, or in a folder below it.
abbrev pub IsBelow : List ℕ → Program → Type 0
IsBelow project p =
    IsWithin project (string_bytes p.lattice) × IsWithin project (string_bytes p.source)
    × IfSome p.interface (λ path. IsWithin project (string_bytes path))
    × IfSome p.store (λ path. IsWithin project (string_bytes path))

-- A program as a project file at a path can have it.
abbrev pub IsOf : List ℕ → Program → Type 0
IsOf project p = IsNamed p × IsBelow project p
