-- The map of a table, compared with its members.
use Rattle.std.proofs.Common.{◌≡◌, List, [], ◌∷◌, Ordering, Less, Equal, Greater, String, Global, string_bytes, string_cmp, refl, ◌∙◌}
use Rattle.std.specs.Ordering.{match_ordering}
use Rattle.std.specs.BTreeMap.{insert_entry}
use Rattle.toml.specs.View.{view, members_view}
use Rattle.toml.specs.declared.value.Value.{Value}
use Rattle.vsi_conform.specs.Tables.{put}

-- An entry of the map of a table.
abbrev Entry : Type 0
Entry = String Global × Value

-- One of three lists of entries, seen as members.
one_of_three : (o : Ordering) (a b c : List Entry) →
    members_view (match_ordering o a b c) ≡ match_ordering o (members_view a) (members_view b) (members_view c)
one_of_three Less a b c = refl
one_of_three Equal a b c = refl
one_of_three Greater a b c = refl

-- One more entry in the map is one more member.
pub put_entry : (es : List Entry) (k : String Global) (v : Value) →
    members_view (insert_entry string_cmp es k v) ≡ put (string_bytes k) (view v) (members_view es)
put_entry [] k v = refl
put_entry (e ∷ es) k v =
    one_of_three (string_cmp k e.0) ((k, v) ∷ e ∷ es) ((e.0, v) ∷ es) (e ∷ insert_entry string_cmp es k v)
    ∙ rw (put_entry es k v)
