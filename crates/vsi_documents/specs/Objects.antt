-- Objects and arrays as members of JSON objects, with keys in byte order.
use Rattle.std.specs.Prelude.{ℕ, Bool, List, codes}
use Rattle.serde_json.specs.Data.{Data, boolean, array, object, Members, no_members, put}
use Rattle.serde_json.specs.View.{items_of}
use Rattle.vsi_answers.specs.Members.{with_text, object_line}

-- An object at a key.
abbrev pub with_object : List ℕ → Members → Members → Members
with_object key inner ms = put key (object inner) ms

-- An array at a key.
abbrev pub with_array : List ℕ → List Data → Members → Members
with_array key items ms = put key (array (items_of items)) ms

-- The members of an object with one text.
abbrev pub text_members : List ℕ → List ℕ → Members
text_members key text = with_text key text no_members

-- The members of an object with one array.
abbrev pub array_members : List ℕ → List Data → Members
array_members key items = with_array key items no_members

-- The line of a verdict and of the objects in an array at a key.
abbrev pub verdict_line : Bool → List ℕ → List Data → List ℕ
verdict_line accepted key objects =
    object_line (with_array key objects (put (codes "accepted") (boolean accepted) no_members))
