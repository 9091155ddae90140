-- The path of a file that an interface names.
use Rattle.std.specs.Prelude.{◌≡◌, ℕ, ◌==◌, Bool, true, false, ◌&&◌, ◌||◌, List, [], ◌∷◌, ◌++◌, if◌then◌else◌}
use Rattle.std.specs.List.{list_any}
use Rattle.vsi_conform.specs.declared.reader.Policy.{Policy}
use Rattle.vsi_conform.specs.declared.reader.Policy.TheVariants.{File, Tables}

-- A slash.
abbrev pub is_slash : ℕ → Bool
is_slash b = b == 47

-- The folder of a path: everything through its last slash.
abbrev pub folder : List ℕ → List ℕ
folder [] = []
folder (b ∷ bs) = if list_any is_slash (b ∷ bs) then b ∷ folder bs else []

-- The path begins at the root.
abbrev pub is_rooted : List ℕ → Bool
is_rooted [] = false
is_rooted (b ∷ bs) = is_slash b

-- The path, relative to the folder of the interface unless it begins at the root.
abbrev pub beside : List ℕ → List ℕ → List ℕ
beside interface path = if is_rooted path then path else folder interface ++ path

-- A part of a path ends here: at a slash, or with the path.
abbrev pub ends_part : List ℕ → Bool
ends_part [] = true
ends_part (b ∷ bs) = is_slash b

-- The first part of the path is `..`.
abbrev pub is_parent : List ℕ → Bool
is_parent (a ∷ b ∷ rest) = a == 46 && b == 46 && ends_part rest
is_parent _ = false

-- A part after the first is `..`.
abbrev pub climbs : List ℕ → Bool
climbs [] = false
climbs (b ∷ bs) = (is_slash b && is_parent bs) || climbs bs

-- The path leads out of the folder that it is taken in: it begins at the root, or one of its parts is `..`.
abbrev pub leads_out : List ℕ → Bool
leads_out path = is_rooted path || is_parent path || climbs path

-- The lattice is in a file of the interface's folder, or of a folder in it, or in the interface itself.
abbrev pub IsInside : Policy → Type 0
IsInside (File path) = leads_out path.items ≡ false
IsInside (Tables text) = Unit {0}
