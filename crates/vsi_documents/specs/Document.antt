-- The text of a document of SARIF 2.1.0, from its rules and results.
use Rattle.std.specs.Prelude.{◌≡◌, ℕ, List, [], ◌∷◌, ◌++◌, codes, length}
use Rattle.serde_json.specs.Data.{Data, object, Members, no_members}
use Rattle.serde_json.specs.Written.{compact_text}
use Rattle.vsi_answers.specs.Members.{with_text}
use Rattle.vsi_documents.specs.Objects.{array_members, text_members, with_array, with_object}

-- The members of the driver: its name, its rules and its version.
abbrev pub driver_members : List Data → Members
driver_members rules =
    with_text (codes "version") (codes "0.1.0") (with_array (codes "rules") rules
    (with_text (codes "name") (codes "vsi") no_members))

-- The members of the tool.
abbrev pub tool_members : List Data → Members
tool_members rules = with_object (codes "driver") (driver_members rules) no_members

-- The members of the run: the unit of its columns, its results and the tool.
abbrev pub run_members : List Data → List Data → Members
run_members rules results =
    with_object (codes "tool") (tool_members rules) (with_array (codes "results") results
    (with_text (codes "columnKind") (codes "unicodeCodePoints") no_members))

-- The URI of the schema.
abbrev pub schema : List ℕ
schema = codes "https://json.schemastore.org/sarif-2.1.0.json"

-- The members of the document of a run.
abbrev pub document_members : Members → Members
document_members run =
    with_text (codes "version") (codes "2.1.0") (with_text (codes "$schema") schema
    (array_members (codes "runs") (object run ∷ [])))

-- The text of the document of a run, a line.
abbrev pub run_text : Members → List ℕ
run_text run = compact_text (object (document_members run)) ++ codes "\n"

-- The text of the document of these rules and results.
abbrev pub document_text : List Data → List Data → List ℕ
document_text rules results = run_text (run_members rules results)

-- The members of the run of a check of files, which has an identifier.
abbrev pub check_members : List Data → List Data → Members
check_members rules results =
    with_object (codes "automationDetails") (text_members (codes "id") (codes "vsi/check"))
    (run_members rules results)

-- The text of the document of a check of files.
abbrev pub check_text : List Data → List Data → List ℕ
check_text rules results = run_text (check_members rules results)

-- The text is the document of a check of files with so many results.
pub record IsReport (n : ℕ) (text : List ℕ) : Type 0 where
  pub rules : List Data
  pub results : List Data
  pub count : length results ≡ n
  pub is : text ≡ check_text rules results
