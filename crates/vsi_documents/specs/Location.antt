-- Locations: files and positions in them.
use Rattle.std.specs.Prelude.{ℕ, List, Option, Some, None, codes}
use Rattle.percent_encoding.specs.Percent.{percent_encode}
use Rattle.serde_json.specs.Data.{Members, no_members}
use Rattle.vsi_answers.specs.Members.{with_natural}
use Rattle.vsi_documents.specs.Objects.{with_object, text_members}
use Rattle.vsi_documents.specs.declared.refusal.TheConstants.{ESCAPED}

-- The path of a file as a URI: letters, digits and `-._~/` stay, and any other byte becomes `%` and its two digits.
abbrev pub uri_of : List ℕ → List ℕ
uri_of path = percent_encode ESCAPED path

-- The members of the region that begins at this line and column.
abbrev pub region_members : ℕ → ℕ → Members
region_members line column =
    with_natural (codes "startLine") line (with_natural (codes "startColumn") column no_members)

-- `region`, if a position is known.
abbrev pub with_region : Option (ℕ × ℕ) → Members → Members
with_region None ms = ms
with_region (Some place) ms = with_object (codes "region") (region_members place.0 place.1) ms

-- The members of a place in the file with this URI.
abbrev pub physical_members : List ℕ → Option (ℕ × ℕ) → Members
physical_members uri place =
    with_region place (with_object (codes "artifactLocation") (text_members (codes "uri") uri) no_members)

-- The members of a location.
abbrev pub location_members : List ℕ → Option (ℕ × ℕ) → Members
location_members uri place = with_object (codes "physicalLocation") (physical_members uri place) no_members
