-- The tables of a lattice file in an interface.
use Rattle.std.specs.Prelude.{◌≡◌, ◌≤◌, ℕ, List, false, codes, Option, Some, None}
use Rattle.std.specs.Ordering.{nat_cmp, match_ordering}
use Rattle.std.specs.Cmp.Lexicographic.{slice_cmp}
use Rattle.toml.specs.Data.{Data, Members, no_members, member, get_member, members_depth}
use Rattle.toml.specs.Parse.{parse_document}
use Rattle.toml.specs.Text.{IsDocumentText}

-- The members, with their keys in byte order, and with a value put at a key.
abbrev pub put : List ℕ → Data → Members → Members
put k d no_members = member k d no_members
put k d (member l e ms) =
    match_ordering (slice_cmp nat_cmp k l) (member k d (member l e ms)) (member l d ms) (member l e (put k d ms))

-- The members with a value put at a key, if there is a value.
abbrev pub put_found : List ℕ → Option Data → Members → Members
put_found k None ms = ms
put_found k (Some d) ms = put k d ms

-- The members with a copy of another table's value at a key.
abbrev pub with_copy : List ℕ → Members → Members → Members
with_copy k others ms = put_found k (get_member k others) ms

-- The values of an interface at the keys of a lattice file.
abbrev pub lattice_tables : Members → Members
lattice_tables ms = with_copy (codes "below") ms (with_copy (codes "classes") ms no_members)

-- The text is that of a document with these tables, and TOML reads it back if they aren't nested too deeply.
pub record IsTablesText (ms : Members) (text : List ℕ) : Type 0 where
  pub written : IsDocumentText false (lattice_tables ms) text
  pub read : members_depth (lattice_tables ms) ≤ 80 → parse_document text ≡ Some (lattice_tables ms)
