-- The evidence of an audit that has accepted an image, and of a text or an image that conforms to an interface.
use Rattle.std.specs.Prelude.{ℕ, ◌==◌, Bool, ◌||◌, if◌then◌else◌, List, [], ◌∷◌, ◌++◌, Option, Some, None, codes, decimal}
use Rattle.std.specs.List.{flat_map, list_any}
use Rattle.hex.specs.Hex.{encode_lower}
use Rattle.sha2.specs.Sha256.{sha256}
use Rattle.vsi_store.specs.declared.reader.Filed as code
use Rattle.vsi_store.specs.declared.reader.AuditProfile.{AuditProfile}
use Rattle.vsi_store.specs.declared.reader.AuditProfile.TheVariants.{Base, Strict, Steady}

-- A path and the bytes of the file.
abbrev pub Filed : Type 0
Filed = List ℕ × List ℕ

-- A file of the code.
abbrev pub filed : code.Filed → Filed
filed f = (f.path.now, f.bytes.now)

-- The name of a profile.
abbrev pub profile_name : AuditProfile → List ℕ
profile_name Base = codes "base"
profile_name Strict = codes "strict"
profile_name Steady = codes "steady"

-- A backslash, a line feed or a carriage return.
abbrev pub is_special : ℕ → Bool
is_special b = b == 92 || b == 10 || b == 13

-- A byte of a path: a backslash, a line feed and a carriage return are written as two bytes.
abbrev pub escaped_byte : ℕ → List ℕ
escaped_byte b =
    if b == 92 then codes "\\\\" else if b == 10 then codes "\\n" else if b == 13 then codes "\\r" else b ∷ []

-- A line begins with a backslash if a byte of its path is written as two.
abbrev pub mark : List ℕ → List ℕ
mark path = if list_any is_special path then codes "\\" else []

-- The line of a file: its SHA-256 in hexadecimal, two blanks and its path.
abbrev pub sum_line : Filed → List ℕ
sum_line f =
    mark f.0 ++ encode_lower (sha256 f.1) ++ codes "  " ++ flat_map escaped_byte f.0 ++ codes "\n"

-- The version of the program, a judgement, and the lines of the files that were judged.
abbrev pub block_text : List ℕ → List ℕ → List Filed → List ℕ
block_text version judgement files =
    codes "# vsi " ++ version ++ codes "\n# " ++ judgement ++ codes "\n" ++ flat_map sum_line files

-- The evidence of an audit by a profile.
abbrev pub evidence_text : List ℕ → AuditProfile → List Filed → List ℕ
evidence_text version profile files =
    block_text version (codes "audit " ++ profile_name profile ++ codes ": accepted") files

-- The most instructions of a run.
abbrev pub most_text : ℕ → List ℕ
most_text most = codes ", halts within " ++ decimal most ++ codes " instructions"

-- The most instructions of a run, if a bound is named.
abbrev pub bound_text : Option ℕ → List ℕ
bound_text None = []
bound_text (Some most) = most_text most

-- The evidence of a judgement by an interface that requires this profile and, if one is named, this bound.
abbrev pub conformity_text : List ℕ → AuditProfile → Option ℕ → List Filed → List ℕ
conformity_text version profile most files =
    block_text version (codes "conform " ++ profile_name profile ++ codes ": conforms" ++ bound_text most) files
