-- The name that every name in the emitted C begins with.
use Rattle.std.specs.Prelude.{ℕ, suc, ◌==◌, List, [], ◌∷◌, Option, Some, None, codes, take, if◌then◌else◌}
use Rattle.std.specs.Borrow.{Bor}
use Rattle.vsi_emit.specs.Names.{is_function_name}

-- The part of a path after its last slash, or the part found before if there is none.
abbrev pub after_slash : List ℕ → List ℕ → List ℕ
after_slash found [] = found
after_slash found (byte ∷ rest) = if byte == 47 then after_slash rest rest else after_slash found rest

-- How many bytes come before the first dot.
abbrev pub plain_length : List ℕ → ℕ
plain_length [] = 0
plain_length (byte ∷ rest) = if byte == 46 then 0 else suc (plain_length rest)

-- A file's name without its folder, up to its first dot.
abbrev pub stem : List ℕ → List ℕ
stem path = take (plain_length (after_slash path path)) (after_slash path path)

-- The given name, or else that of the file.
abbrev pub proposed : Option (Bor (List ℕ)) → List ℕ → List ℕ
proposed (Some name) path = name.now
proposed None path = stem path

-- The proposed name if functions may have it, and `image` if they may not.
abbrev pub function_name : Option (Bor (List ℕ)) → List ℕ → List ℕ
function_name name path = if is_function_name (proposed name path) then proposed name path else codes "image"
