-- The shape of a lattice file, in terms of the table that its text denotes.
use Rattle.std.specs.Prelude.{◌≡◌, ℕ, ◌+◌, ◌==◌, List, [], ◌∷◌, Option, Some, None, option_map, option_and_then, if◌then◌else◌, codes, IsUtf8}
use Rattle.std.specs.Borrow.{Bor}
use Rattle.vsi_lattice.specs.NamePlaces.{texts, text_pairs}
use Rattle.toml.specs.Data.{Data, Items, no_items, item, Members, no_members, member, get_member, as_str, as_array}
use Rattle.toml.specs.Parse.{parse_document}

-- The names of the classes, and the pairs of names, in order.
pub record File : Type 0 where
  pub names : List (List ℕ)
  pub pairs : List (List ℕ × List ℕ)

-- The file whose texts these references point to.
abbrev pub shown : List (Bor (List ℕ)) → List (Bor (List ℕ) × Bor (List ℕ)) → File
shown names pairs = record { names = texts names; pairs = text_pairs pairs }

-- The text is UTF-8 and denotes this table.
abbrev pub IsToml : List ℕ → Members → Type 0
IsToml text ms = IsUtf8 text × (parse_document text ≡ Some ms)

-- The number of keys of a table.
abbrev pub member_count : Members → ℕ
member_count no_members = 0
member_count (member k d ms) = member_count ms + 1

-- The results of f for all items.
abbrev pub all_of : {X : Type 0} → (Data → Option X) → Items → Option (List X)
all_of f no_items = Some []
all_of f (item d ds) = option_and_then (λ x. option_map (λ xs. x ∷ xs) (all_of f ds)) (f d)

-- The two strings of exactly two items.
abbrev pub pair_items : Items → Option (List ℕ × List ℕ)
pair_items (item a (item b no_items)) = option_and_then (λ x. option_map (λ y. (x, y)) (as_str b)) (as_str a)
pair_items _ = None

-- An array of two strings.
abbrev pub pair_of : Data → Option (List ℕ × List ℕ)
pair_of d = option_and_then pair_items (as_array d)

-- The results of f for the items of the array at a key.
abbrev pub array_at : {X : Type 0} → (Data → Option X) → List ℕ → Members → Option (List X)
array_at f key ms = option_and_then (all_of f) (option_and_then as_array (get_member key ms))

-- The names and the pairs, if the table has exactly the two keys, with an array of strings and an array of pairs of
-- strings.
abbrev pub file_of : Members → Option File
file_of ms =
    if member_count ms == 2
    then option_and_then (λ names. option_map (λ pairs. record { names = names; pairs = pairs })
    (array_at pair_of (codes "below") ms))
    (array_at as_str (codes "classes") ms)
    else None

-- The text is a lattice file.
abbrev pub IsFile : List ℕ → File → Type 0
IsFile text f = (ms : Members) × IsToml text ms × (file_of ms ≡ Some f)
