-- The answer about a text or an image beside an interface as a document: a result for each row.
use Rattle.std.specs.Prelude.{ℕ, List, [], ◌∷◌, map, codes, None}
use Rattle.serde_json.specs.Data.{Data, object, Members}
use Rattle.vsi_conform.specs.declared.rows.Kind.{Kind}
use Rattle.vsi_conform.specs.declared.rows.Kind.TheVariants.{Refused, Missing, Unexpected, Class, Order, Budget, Word, Bound}
use Rattle.vsi_conform.specs.Lines.{line}
use Rattle.vsi_conform.specs.Rows.{Row, word_of}
use Rattle.vsi_documents.specs.Document.{document_text}
use Rattle.vsi_documents.specs.Location.{location_members, uri_of}
use Rattle.vsi_documents.specs.Objects.{text_members}
use Rattle.vsi_documents.specs.Refusals.{result_members}

-- The index of a kind's rule.
abbrev pub index_of : Kind → ℕ
index_of Refused = 0
index_of Missing = 1
index_of Unexpected = 2
index_of Class = 3
index_of Order = 4
index_of Budget = 5
index_of Word = 6
index_of Bound = 7

-- The kinds, in the order of their rules.
abbrev pub kinds : List Kind
kinds = Refused ∷ Missing ∷ Unexpected ∷ Class ∷ Order ∷ Budget ∷ Word ∷ Bound ∷ []

-- The members of the rule of a kind.
abbrev pub rule_members : Kind → Members
rule_members k = text_members (codes "id") (word_of k)

-- The rules of kinds.
abbrev pub rules_of : List Kind → List Data
rules_of ks = map (λ k. object (rule_members k)) ks

-- The members of the result of a row, in the file with this URI: its position, if there is one, and its lines.
abbrev pub finding : List ℕ → Row → Members
finding uri r =
    result_members (word_of r.kind) (index_of r.kind) (location_members uri r.place) None (line r)

-- The results of rows.
abbrev pub results : List ℕ → List Row → List Data
results uri rows = map (λ r. object (finding uri r)) rows

-- The document about the file at a path with the results of rows, whose rules are all kinds of points.
abbrev pub rows_sarif : List ℕ → List Row → List ℕ
rows_sarif path rows = document_text (rules_of kinds) (results (uri_of path) rows)
