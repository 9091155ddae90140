-- How the arguments of a command line spell a request.
use Rattle.std.specs.Prelude.{◌≡◌, ℕ, Bool, true, false, not, ◌&&◌, ◌||◌, if◌then◌else◌, List, [], ◌∷◌, ◌++◌, map, Option, Some, None, is_some, option_map, option_to_list, codes, IsTrue, String}
use Rattle.std.specs.List.{list_all}
use Rattle.std.specs.Option.{option_and_then, option_or}
use Rattle.std.specs.declared.alloc.Global.{Global}
use Rattle.std.specs.Borrow.{Bor}
use Rattle.vsi_arguments.specs.declared.request.Audit.{Audit as Auditing}
use Rattle.vsi_arguments.specs.declared.request.Bounding.{Bounding}
use Rattle.vsi_arguments.specs.declared.request.Budget.{Budget}
use Rattle.vsi_arguments.specs.declared.request.Budget.TheVariants.{Number, Auto}
use Rattle.vsi_arguments.specs.declared.request.Comparison.{Comparison}
use Rattle.vsi_arguments.specs.declared.request.Compilation.{Compilation}
use Rattle.vsi_arguments.specs.declared.request.Document.{Document}
use Rattle.vsi_arguments.specs.declared.request.Document.TheVariants as document
use Rattle.vsi_arguments.specs.declared.request.DrivePolicy.{DrivePolicy}
use Rattle.vsi_arguments.specs.declared.request.DrivePolicy.TheVariants as policy
use Rattle.vsi_arguments.specs.declared.request.Driving.{Driving}
use Rattle.vsi_arguments.specs.declared.request.Execution.{Execution}
use Rattle.vsi_arguments.specs.declared.request.Judging.{Judging}
use Rattle.vsi_arguments.specs.declared.request.Layout.{Layout as Laid}
use Rattle.vsi_arguments.specs.declared.request.Mending.{Mending}
use Rattle.vsi_arguments.specs.declared.request.MonitorRule.{MonitorRule}
use Rattle.vsi_arguments.specs.declared.request.MonitorRule.TheVariants.{NoSensitiveUpgrade, PermissiveUpgrade}
use Rattle.vsi_arguments.specs.declared.request.NameLists.{NameLists}
use Rattle.vsi_arguments.specs.declared.request.InitialStore.{InitialStore}
use Rattle.vsi_arguments.specs.declared.request.Search.{Search}
use Rattle.vsi_arguments.specs.declared.request.StepComparison.{StepComparison}
use Rattle.vsi_arguments.specs.declared.request.Stepping.{Stepping}
use Rattle.vsi_arguments.specs.declared.request.Survey.{Survey}
use Rattle.vsi_arguments.specs.declared.request.Viewing.{Viewing}
use Rattle.vsi_arguments.specs.declared.request.Visibility.{Visibility}
use Rattle.vsi_arguments.specs.declared.request.Looking.{Looking}
use Rattle.vsi_arguments.specs.declared.request.AnswerForm.{AnswerForm}
use Rattle.vsi_arguments.specs.declared.request.AnswerForm.TheVariants.{Lines, Json, Sarif}
use Rattle.vsi_arguments.specs.declared.request.Page.{Page}
use Rattle.vsi_arguments.specs.declared.request.Projecting.{Projecting}
use Rattle.vsi_arguments.specs.declared.request.Request.{Request}
use Rattle.vsi_arguments.specs.declared.request.Request.TheVariants.{Try, Lsp, Check, Survey as Surveyed, Project, New, Document as Documented, Conform, Classes, Flows, Mend, Build, List as Listing, Audit, Source, EmitC, Bound, Run, View, ViewWithin, Drive, Compare, CompareSteps, Steps, Monitor, Leak, Report, Draw, Policy, Visible, Format, Layout, Lattice as Shaped, Explain}
use Rattle.vsi_arguments.specs.declared.request.TheConstants.{EVERY, RUNS_BUDGET, SEARCH, STEPS, TRY_BUDGET}
use Rattle.vsi_arguments.specs.Numbers.{GivesBudget, number_in}
use Rattle.vsi_arguments.specs.Pages.{page_of}
use Rattle.vsi_arguments.specs.Subjects.{subject_page}
use Rattle.vsi_arguments.specs.Words.{dashed_in, has_flag, is_own, operands_in, shown, texts, values_in}

-- The name of the subcommand of a request for a document.
abbrev pub document_name : Document → List ℕ
document_name (document.Sarif judging) = codes "check"
document_name (document.Classes compilation) = codes "classes"
document_name (document.Flows compilation) = codes "flows"
document_name (document.Audit audit) = codes "audit"
document_name (document.AuditSarif audit) = codes "audit"
document_name (document.Bound bounding) = codes "bound"
document_name (document.Run execution initial_store) = codes "run"
document_name (document.Compare comparison) = codes "compare"
document_name (document.Leak search) = codes "leak"
document_name (document.List image) = codes "list"
document_name (document.Policy looking) = codes "policy"
document_name (document.Visible visibility) = codes "policy"
document_name (document.Layout source) = codes "fmt"

-- The name of the request's subcommand.
abbrev pub name_of : Request → List ℕ
name_of (Try attempt) = codes "try"
name_of (Check judging) = codes "check"
name_of (Surveyed survey) = codes "check"
name_of (Project projecting) = codes "check"
name_of (New folder) = codes "new"
name_of (Documented asked) = document_name asked
name_of (Conform conformance) = codes "conform"
name_of (Classes compilation) = codes "classes"
name_of (Flows compilation has_walks) = codes "flows"
name_of (Mend mending) = codes "mend"
name_of (Build compilation image) = codes "build"
name_of (Listing image) = codes "list"
name_of (Audit audit) = codes "audit"
name_of (Source image) = codes "source"
name_of (EmitC emission) = codes "emit-c"
name_of (Bound bounding) = codes "bound"
name_of (Run execution initial_store has_trace has_count) = codes "run"
name_of (View lattice class execution initial_store) = codes "view"
name_of (ViewWithin viewing) = codes "view"
name_of (Drive driving) = codes "drive"
name_of (Compare comparison) = codes "compare"
name_of (CompareSteps comparison is_json) = codes "compare"
name_of (Steps stepping is_json) = codes "steps"
name_of (Monitor stepping rule is_json) = codes "monitor"
name_of (Leak search) = codes "leak"
name_of (Report page) = codes "report"
name_of (Draw drawing) = codes "draw"
name_of (Policy looking) = codes "policy"
name_of (Visible visibility) = codes "policy"
name_of (Format source) = codes "fmt"
name_of (Layout layout) = codes "fmt"
name_of (Shaped arguments) = codes "lattice"
name_of (Lsp serving) = codes "lsp"
name_of (Explain page) = codes "explain"

-- An optional path, as a list.
abbrev pub given : Option (Bor (List ℕ)) → List (List ℕ)
given path = option_to_list (option_map (λ p. p.now) path)

-- The lattice file of a drive or of a view, which has none with an interface.
abbrev pub lattice_of : DrivePolicy → Option (Bor (List ℕ))
lattice_of (policy.Lattice path lists) = Some path
lattice_of (policy.Interface path) = None

-- The interface file of a drive or of a view, if it has one.
abbrev pub interface_of : DrivePolicy → Option (Bor (List ℕ))
interface_of (policy.Lattice path lists) = None
interface_of (policy.Interface path) = Some path

-- The lists of a drive or of a view, which aren't given with an interface.
abbrev pub lists_of : DrivePolicy → NameLists
lists_of (policy.Lattice path lists) = lists
lists_of (policy.Interface path) = record { inputs = None; outputs = None; released = None }

-- The lattice file and the source text of a compilation.
abbrev pub compiled : Compilation → List (List ℕ)
compiled compilation = compilation.lattice.now ∷ compilation.source.now ∷ []

-- The lattice file and the source texts of a survey.
abbrev pub surveyed : Survey → List (List ℕ)
surveyed survey = survey.lattice.now ∷ shown survey.sources.items

-- The lattice file and the image of an audit.
abbrev pub audited : Auditing → List (List ℕ)
audited audit = audit.lattice.now ∷ audit.image.now ∷ []

-- The files of a search for a bound.
abbrev pub searched : Bounding → List (List ℕ)
searched bounding = given bounding.lattice ++ bounding.file.now ∷ []

-- The lattice file and the image of a comparison.
abbrev pub compared : Comparison → List (List ℕ)
compared comparison = comparison.lattice.now ∷ comparison.image.now ∷ []

-- The lattice file and the source text of a search for a leak.
abbrev pub leaking : Search → List (List ℕ)
leaking search = search.lattice.now ∷ search.source.now ∷ []

-- The lattice file and the source text of a run in steps.
abbrev pub stepped : Stepping → List (List ℕ)
stepped stepping = stepping.lattice.now ∷ stepping.source.now ∷ []

-- The lattice files of a look at one, the older one last.
abbrev pub looked : Looking → List (List ℕ)
looked looking = looking.lattice.now ∷ given looking.old

-- The operands of a request for a document.
abbrev pub document_operands : Document → List (List ℕ)
document_operands (document.Sarif judging) = compiled judging.compilation
document_operands (document.Classes compilation) = compiled compilation
document_operands (document.Flows compilation) = compiled compilation
document_operands (document.Audit audit) = audited audit
document_operands (document.AuditSarif audit) = audited audit
document_operands (document.Bound bounding) = searched bounding
document_operands (document.Run execution initial_store) = execution.image.now ∷ []
document_operands (document.Compare comparison) = compared comparison
document_operands (document.Leak search) = leaking search
document_operands (document.List image) = image.now ∷ []
document_operands (document.Policy looking) = looked looking
document_operands (document.Visible visibility) = given visibility.old
document_operands (document.Layout source) = source.now ∷ []

-- The operands of a request, in their order: paths or, for `lattice`, a shape and names. `AsksPage` covers the operand
-- of `explain`, and `AsksPolicy` files that options of `policy` name instead.
abbrev pub operands_of : Request → List (List ℕ)
operands_of (Try attempt) = attempt.source.now ∷ []
operands_of (Check judging) = compiled judging.compilation
operands_of (Surveyed survey) = surveyed survey
operands_of (Project projecting) = given projecting.name
operands_of (New folder) = folder.now ∷ []
operands_of (Documented asked) = document_operands asked
operands_of (Conform conformance) = conformance.interface.now ∷ conformance.source.now ∷ []
operands_of (Classes compilation) = compiled compilation
operands_of (Flows compilation has_walks) = compiled compilation
operands_of (Mend mending) = compiled mending.compilation
operands_of (Build compilation image) = compilation.lattice.now ∷ compilation.source.now ∷ image.now ∷ []
operands_of (Listing image) = image.now ∷ []
operands_of (Audit audit) = audited audit
operands_of (Source image) = image.now ∷ []
operands_of (EmitC emission) = emission.file.now ∷ []
operands_of (Bound bounding) = searched bounding
operands_of (Run execution initial_store has_trace has_count) = execution.image.now ∷ []
operands_of (View lattice class execution initial_store) = lattice.now ∷ execution.image.now ∷ []
operands_of (ViewWithin viewing) = given (lattice_of viewing.policy) ++ viewing.execution.image.now ∷ []
operands_of (Drive driving) = given (lattice_of driving.policy) ++ driving.execution.image.now ∷ []
operands_of (Compare comparison) = compared comparison
operands_of (CompareSteps comparison is_json) = comparison.lattice.now ∷ comparison.source.now ∷ []
operands_of (Steps stepping is_json) = stepped stepping
operands_of (Monitor stepping rule is_json) = stepped stepping
operands_of (Leak search) = leaking search
operands_of (Report page) = compiled page.compilation
operands_of (Draw drawing) = drawing.lattice.now ∷ given drawing.source
operands_of (Policy looking) = looked looking
operands_of (Visible visibility) = given visibility.old
operands_of (Format source) = source.now ∷ []
operands_of (Layout layout) = layout.source.now ∷ []
operands_of (Shaped arguments) = shown arguments.items
operands_of (Lsp serving) = []
operands_of (Explain page) = []

-- The flags of `check`, each with whether it is set.
abbrev pub check_flags : Judging → Bool → List (List ℕ × Bool)
check_flags judging is_sarif =
    (codes "--strict", judging.compilation.is_strict) ∷ (codes "--steady", judging.is_steady)
    ∷ (codes "--json", judging.is_json) ∷ (codes "--sarif", is_sarif)
    ∷ (codes "--warnings", judging.has_warnings) ∷ []

-- The answer is written as a line of JSON.
abbrev pub is_json : AnswerForm → Bool
is_json Lines = false
is_json Json = true
is_json Sarif = false

-- The answer is written as a document of SARIF.
abbrev pub is_sarif : AnswerForm → Bool
is_sarif Lines = false
is_sarif Json = false
is_sarif Sarif = true

-- The flags of the form of an answer, each with whether it is set.
abbrev pub form_flags : AnswerForm → List (List ℕ × Bool)
form_flags form = (codes "--json", is_json form) ∷ (codes "--sarif", is_sarif form) ∷ []

-- The flags of `check` with source texts that are judged each by itself, each with whether it is set.
abbrev pub survey_flags : Survey → List (List ℕ × Bool)
survey_flags survey =
    (codes "--strict", survey.is_strict) ∷ (codes "--steady", survey.is_steady)
    ∷ form_flags survey.form

-- The flags of `classes`, each with whether it is set.
abbrev pub classes_flags : Compilation → Bool → List (List ℕ × Bool)
classes_flags compilation is_json = (codes "--strict", compilation.is_strict) ∷ (codes "--json", is_json) ∷ []

-- The flags of `flows`, each with whether it is set.
abbrev pub flows_flags : Compilation → Bool → Bool → List (List ℕ × Bool)
flows_flags compilation has_walks is_json =
    (codes "--strict", compilation.is_strict) ∷ (codes "--walks", has_walks) ∷ (codes "--json", is_json) ∷ []

-- The flags of `audit`, each with whether it is set.
abbrev pub audit_flags : Auditing → Bool → Bool → List (List ℕ × Bool)
audit_flags audit is_json is_sarif =
    (codes "--strict", audit.is_strict) ∷ (codes "--steady", audit.is_steady)
    ∷ (codes "--evidence", audit.has_evidence) ∷ (codes "--json", is_json) ∷ (codes "--sarif", is_sarif) ∷ []

-- The flag of a subcommand that has no other one, with whether it is set.
abbrev pub json_flag : Bool → List (List ℕ × Bool)
json_flag is_json = (codes "--json", is_json) ∷ []

-- The flags of `run`, each with whether it is set.
abbrev pub run_flags : InitialStore → Bool → Bool → Bool → List (List ℕ × Bool)
run_flags initial_store has_trace has_count is_json =
    (codes "--full-store", initial_store.is_full) ∷ (codes "--trace", has_trace) ∷ (codes "--count", has_count)
    ∷ (codes "--json", is_json) ∷ []

-- The flags of `compare`, each with whether it is set.
abbrev pub compare_flags : Comparison → Bool → List (List ℕ × Bool)
compare_flags comparison is_json = (codes "--unbounded", comparison.is_unbounded) ∷ (codes "--json", is_json) ∷ []

-- The flags of `leak`, each with whether it is set.
abbrev pub leak_flags : Search → Bool → List (List ℕ × Bool)
leak_flags search is_json =
    (codes "--endings", search.has_endings) ∷ (codes "--steps", search.has_steps) ∷ (codes "--json", is_json) ∷ []

-- The flags of a run in steps, each with whether it is set.
abbrev pub step_flags : Stepping → Bool → List (List ℕ × Bool)
step_flags stepping is_json = (codes "--full-store", stepping.is_full) ∷ (codes "--json", is_json) ∷ []

-- The flags of `policy`, each with whether it is set.
abbrev pub policy_flags : Bool → Bool → List (List ℕ × Bool)
policy_flags is_denying is_json = (codes "--deny", is_denying) ∷ (codes "--json", is_json) ∷ []

-- The flags of a request for a document, each with whether it is set.
abbrev pub document_flags : Document → List (List ℕ × Bool)
document_flags (document.Sarif judging) = check_flags judging true
document_flags (document.Classes compilation) = classes_flags compilation true
document_flags (document.Flows compilation) = flows_flags compilation false true
document_flags (document.Audit audit) = audit_flags audit true false
document_flags (document.AuditSarif audit) = audit_flags audit false true
document_flags (document.Bound bounding) = json_flag true
document_flags (document.Run execution initial_store) = run_flags initial_store false false true
document_flags (document.Compare comparison) = compare_flags comparison true
document_flags (document.Leak search) = leak_flags search true
document_flags (document.List image) = json_flag true
document_flags (document.Policy looking) = policy_flags looking.is_denying true
document_flags (document.Visible visibility) = policy_flags visibility.is_denying true
document_flags (document.Layout source) = (codes "--check", true) ∷ (codes "--json", true) ∷ []

-- The flags of a request, each with whether it is set.
abbrev pub flags_of : Request → List (List ℕ × Bool)
flags_of (Try attempt) = []
flags_of (Check judging) = check_flags judging false
flags_of (Surveyed survey) = survey_flags survey
flags_of (Project projecting) = form_flags projecting.form
flags_of (New folder) = []
flags_of (Documented asked) = document_flags asked
flags_of (Conform conformance) =
    (codes "--json", is_json conformance.form) ∷ (codes "--sarif", is_sarif conformance.form)
    ∷ (codes "--evidence", conformance.has_evidence) ∷ []
flags_of (Classes compilation) = classes_flags compilation false
flags_of (Flows compilation has_walks) = flows_flags compilation has_walks false
flags_of (Mend mending) =
    (codes "--strict", mending.compilation.is_strict) ∷ (codes "--apply", mending.is_applied)
    ∷ (codes "--json", mending.is_json) ∷ []
flags_of (Build compilation image) = (codes "--strict", compilation.is_strict) ∷ []
flags_of (Listing image) = json_flag false
flags_of (Audit audit) = audit_flags audit false false
flags_of (Source image) = []
flags_of (EmitC emission) =
    (codes "--header", emission.is_header) ∷ (codes "--bounded", emission.is_bounded) ∷ []
flags_of (Bound bounding) = json_flag false
flags_of (Run execution initial_store has_trace has_count) = run_flags initial_store has_trace has_count false
flags_of (View lattice class execution initial_store) = (codes "--full-store", initial_store.is_full) ∷ []
flags_of (ViewWithin viewing) =
    (codes "--full-store", viewing.initial_store.is_full) ∷ (codes "--unbounded", viewing.is_unbounded) ∷ []
flags_of (Drive driving) =
    (codes "--full-store", driving.is_full) ∷ (codes "--unbounded", driving.is_unbounded) ∷ []
flags_of (Compare comparison) = compare_flags comparison false
flags_of (CompareSteps comparison is_json) = (codes "--steps", true) ∷ (codes "--json", is_json) ∷ []
flags_of (Steps stepping is_json) = step_flags stepping is_json
flags_of (Monitor stepping rule is_json) = step_flags stepping is_json
flags_of (Leak search) = leak_flags search false
flags_of (Report page) = (codes "--strict", page.compilation.is_strict) ∷ []
flags_of (Draw drawing) = (codes "--strict", drawing.is_strict) ∷ (codes "--flows", drawing.is_alone) ∷ []
flags_of (Policy looking) = policy_flags looking.is_denying false
flags_of (Visible visibility) = policy_flags visibility.is_denying false
flags_of (Format source) = []
flags_of (Layout layout) =
    (codes "--keep-comments", layout.is_kept) ∷ (codes "--check", layout.is_checked)
    ∷ (codes "--write", layout.is_written) ∷ []
flags_of (Shaped arguments) = []
flags_of (Lsp serving) = (codes "--strict", serving.is_strict) ∷ []
flags_of (Explain page) = []

-- The options for a run's beginning and end, each with its values.
abbrev pub starting : Execution → InitialStore → List (List ℕ × List (List ℕ))
starting execution initial_store =
    (codes "--store", given execution.store) ∷ (codes "--out", given initial_store.out)
    ∷ (codes "--set", shown initial_store.settings.items) ∷ []

-- The options that bound a controller, each with its values.
abbrev pub bounding : NameLists → List (List ℕ × List (List ℕ))
bounding lists =
    (codes "--inputs", given lists.inputs) ∷ (codes "--outputs", given lists.outputs)
    ∷ (codes "--release", given lists.released) ∷ []

-- The options of a drive by this interface, if there is one, or by these lists, each with its values.
abbrev pub drive_options : Driving → Option (Bor (List ℕ)) → NameLists → List (List ℕ × List (List ℕ))
drive_options driving interface lists =
    (codes "--class", driving.class.now ∷ []) ∷ (codes "--store", given driving.execution.store)
    ∷ (codes "--init", given driving.start) ∷ (codes "--save", given driving.save)
    ∷ (codes "--interface", given interface) ∷ bounding lists

-- The options that bound a view, each with its values.
abbrev pub listing : Option (Bor (List ℕ)) → Option (Bor (List ℕ)) → Option (Bor (List ℕ)) →
    List (List ℕ × List (List ℕ))
listing interface outputs released =
    (codes "--interface", given interface) ∷ (codes "--outputs", given outputs)
    ∷ (codes "--release", given released) ∷ []

-- The options of a view by this interface, if there is one, or by these lists, each with its values.
abbrev pub view_options : Viewing → Option (Bor (List ℕ)) → NameLists → List (List ℕ × List (List ℕ))
view_options viewing interface lists =
    (codes "--class", viewing.class.now ∷ [])
    ∷ starting viewing.execution viewing.initial_store ++ listing interface lists.outputs lists.released

-- The options for a run's beginning, each with its values, of a run whose answer goes to no file.
abbrev pub beginning : Execution → InitialStore → List (List ℕ × List (List ℕ))
beginning execution initial_store =
    (codes "--store", given execution.store) ∷ (codes "--out", [])
    ∷ (codes "--set", shown initial_store.settings.items) ∷ []

-- The options of `compare`, each with its values.
abbrev pub compare_options : Comparison → List (List ℕ × List (List ℕ))
compare_options comparison =
    (codes "--class", comparison.class.now ∷ [])
    ∷ (codes "--store", comparison.stores.0.now ∷ comparison.stores.1.now ∷ []) ∷ []

-- The options of `compare --steps`, each with its values.
abbrev pub step_comparison_options : StepComparison → List (List ℕ × List (List ℕ))
step_comparison_options comparison =
    (codes "--class", comparison.class.now ∷ [])
    ∷ (codes "--store", comparison.stores.0.now ∷ comparison.stores.1.now ∷ []) ∷ []

-- The options for the beginning of a run in steps, each with its values.
abbrev pub step_options : Stepping → List (List ℕ × List (List ℕ))
step_options stepping =
    (codes "--store", given stepping.store) ∷ (codes "--set", shown stepping.settings.items) ∷ []

-- The options of a monitored run, each with its values; those of `--rule` are these.
abbrev pub monitor_options : Stepping → List (List ℕ) → List (List ℕ × List (List ℕ))
monitor_options stepping rules = (codes "--rule", rules) ∷ step_options stepping

-- The name of a monitor's rule.
abbrev pub rule_name : MonitorRule → List ℕ
rule_name NoSensitiveUpgrade = codes "no-sensitive-upgrade"
rule_name PermissiveUpgrade = codes "permissive-upgrade"

-- These values of an option give the rule: the only value is its name, or there is none and the rule is the default.
abbrev pub GivesRule : List (List ℕ) → MonitorRule → Type 0
GivesRule [] rule = rule ≡ NoSensitiveUpgrade
GivesRule (value ∷ []) rule = value ≡ rule_name rule
GivesRule (value ∷ next ∷ rest) rule = ⊥

-- The option of `leak`, with its values.
abbrev pub leak_options : Search → List (List ℕ × List (List ℕ))
leak_options search = (codes "--class", given search.class) ∷ []

-- The options of `policy`, each with its values: the interface, and the newer and the older file that it names.
abbrev pub policy_options : Option (Bor (List ℕ)) → List (List ℕ) → List (List ℕ) → List (List ℕ × List (List ℕ))
policy_options interface new old =
    (codes "--interface", given interface) ∷ (codes "--to", new) ∷ (codes "--from", old) ∷ []

-- The option of `check` that says where each line of the answer begins, with these values.
abbrev pub place_options : List (List ℕ) → List (List ℕ × List (List ℕ))
place_options formats = (codes "--format", formats) ∷ []

-- These values of `--format` say whether each line of the answer begins with its place: the only value is `line` or
-- `text`, or there is none.
abbrev pub GivesPlaces : List (List ℕ) → Bool → Type 0
GivesPlaces [] has_places = has_places ≡ false
GivesPlaces (value ∷ []) has_places = value ≡ (if has_places then codes "line" else codes "text")
GivesPlaces (value ∷ next ∷ rest) has_places = ⊥

-- Source texts are judged each by itself: several, or one in an answer with places before its lines.
abbrev pub is_survey : Bool → List (Bor (List ℕ)) → Bool
is_survey has_places [] = false
is_survey has_places (source ∷ []) = has_places
is_survey has_places (source ∷ next ∷ rest) = true

-- The options of a request for a document, each with its values.
abbrev pub document_options : Document → List (List ℕ × List (List ℕ))
document_options (document.Run execution initial_store) = beginning execution initial_store
document_options (document.Compare comparison) = compare_options comparison
document_options (document.Leak search) = leak_options search
document_options (document.Sarif judging) = place_options []
document_options (document.Policy looking) = policy_options None [] []
document_options (document.Visible visibility) = policy_options (Some visibility.interface) [] []
document_options asked = []

-- The options of a request, each with its values; `numbers_of` has the options that take numbers.
abbrev pub options_of : Request → List (List ℕ × List (List ℕ))
options_of (Try attempt) =
    (codes "--lattice", given attempt.lattice) ∷ (codes "--class", given attempt.class)
    ∷ (codes "--set", shown attempt.settings.items) ∷ []
options_of (EmitC emission) =
    (codes "--lattice", given emission.lattice) ∷ (codes "--name", given emission.name)
    ∷ (codes "--out", given emission.out) ∷ []
options_of (Report page) = (codes "--out", given page.out) ∷ []
options_of (Project projecting) = (codes "--project", projecting.project.now ∷ []) ∷ []
options_of (Run execution initial_store has_trace has_count) = starting execution initial_store
options_of (View lattice class execution initial_store) = (codes "--class", class.now ∷ []) ∷ starting execution initial_store
options_of (ViewWithin viewing) = view_options viewing (interface_of viewing.policy) (lists_of viewing.policy)
options_of (Drive driving) = drive_options driving (interface_of driving.policy) (lists_of driving.policy)
options_of (Compare comparison) = compare_options comparison
options_of (CompareSteps comparison is_json) = step_comparison_options comparison
options_of (Steps stepping is_json) = step_options stepping
options_of (Monitor stepping rule is_json) = monitor_options stepping (rule_name rule ∷ [])
options_of (Leak search) = leak_options search
options_of (Policy looking) = policy_options None [] []
options_of (Visible visibility) = policy_options (Some visibility.interface) [] []
options_of (Documented asked) = document_options asked
options_of (Lsp serving) = (codes "--lattice", given serving.lattice) ∷ []
options_of (Check judging) = place_options []
options_of (Surveyed survey) = place_options []
options_of request = []

-- The budget of a run, which is required.
abbrev pub budgeted : Budget → List (List ℕ × Option Budget × Budget)
budgeted budget = (codes "--budget", None, budget) ∷ []

-- The most steps of a run, with its default.
abbrev pub step_numbers : ℕ → List (List ℕ × Option Budget × Budget)
step_numbers budget = (codes "--budget", Some (Number STEPS), Number budget) ∷ []

-- The options of `leak` that take numbers, each with its default and the request's number.
abbrev pub leak_numbers : Search → List (List ℕ × Option Budget × Budget)
leak_numbers search =
    (codes "--budget", Some (Number SEARCH), Number search.budget)
    ∷ (codes "--tries", Some (Number SEARCH), Number search.tries)
    ∷ (codes "--seed", Some (Number 0), Number search.seed) ∷ []

-- The options of a request for a document that take numbers, each with its default, if it has one, and the request's
-- number.
abbrev pub document_numbers : Document → List (List ℕ × Option Budget × Budget)
document_numbers (document.Run execution initial_store) = budgeted execution.budget
document_numbers (document.Compare comparison) = budgeted comparison.budget
document_numbers (document.Leak search) = leak_numbers search
document_numbers asked = []

-- The options of a request that take numbers, each with its default, if it has one, and the request's number; some
-- budgets are `auto` instead.
abbrev pub numbers_of : Request → List (List ℕ × Option Budget × Budget)
numbers_of (Try attempt) = (codes "--budget", Some (Number TRY_BUDGET), Number attempt.budget) ∷ []
numbers_of (Conform conformance) = (codes "--budget", Some (Number RUNS_BUDGET), Number conformance.budget) ∷ []
numbers_of (Run execution initial_store has_trace has_count) = budgeted execution.budget
numbers_of (View lattice class execution initial_store) = budgeted execution.budget
numbers_of (ViewWithin viewing) = budgeted viewing.execution.budget
numbers_of (Drive driving) =
    (codes "--budget", Some Auto, driving.execution.budget)
    ∷ (codes "--save-every", Some (Number EVERY), Number driving.every) ∷ []
numbers_of (Compare comparison) = budgeted comparison.budget
numbers_of (CompareSteps comparison is_json) = budgeted (Number comparison.budget)
numbers_of (Steps stepping is_json) = step_numbers stepping.budget
numbers_of (Monitor stepping rule is_json) = step_numbers stepping.budget
numbers_of (Leak search) = leak_numbers search
numbers_of (Documented asked) = document_numbers asked
numbers_of request = []

-- Each of these flags is among the arguments exactly if it is set.
abbrev pub HasFlags : List (List ℕ) → List (List ℕ × Bool) → Type 0
HasFlags words [] = Unit {0}
HasFlags words (flag ∷ flags) = (has_flag flag.0 words ≡ flag.1) × HasFlags words flags

-- The arguments give exactly these values for each of these options.
abbrev pub HasOptions : List (List ℕ) → List (List ℕ × List (List ℕ)) → Type 0
HasOptions words [] = Unit {0}
HasOptions words (option ∷ options) = (values_in option.0 false words ≡ option.1) × HasOptions words options

-- The arguments give each of these options its number.
abbrev pub HasNumbers : List (List ℕ) → List (List ℕ × Option Budget × Budget) → Type 0
HasNumbers words [] = Unit {0}
HasNumbers words (option ∷ options) =
    GivesBudget (values_in option.0 false words) option.1 option.2 × HasNumbers words options

-- The first argument is the name, and the others have exactly these operands, flags, values of options and numbers.
pub record Asks (words : List (String Global)) (name : List ℕ) (operands : List (List ℕ))
    (flags : List (List ℕ × Bool)) (options : List (List ℕ × List (List ℕ)))
    (numbers : List (List ℕ × Option Budget × Budget)) : Type 0 where
  pub rest : List (List ℕ)
  pub named : texts words ≡ name ∷ rest
  pub has_operands : operands_in false rest ≡ operands
  pub has_flags : HasFlags rest flags
  pub has_options : HasOptions rest options
  pub has_numbers : HasNumbers rest numbers

-- The page that an argument names: the page of the subject with this name, or of the refusal whose number it spells.
abbrev pub named_page : List ℕ → Option (List ℕ)
named_page argument = option_or (subject_page argument) (option_and_then page_of (number_in argument))

-- The first argument is `explain`, and its one operand names this page.
pub record AsksPage (words : List (String Global)) (page : List ℕ) : Type 0 where
  pub argument : List ℕ
  pub asks : Asks words (codes "explain") (argument ∷ []) [] [] []
  pub is_named : named_page argument ≡ Some page

-- The arguments are `check` with two files, and no place is requested before each line of the answer.
pub record AsksCheck (words : List (String Global)) (judging : Judging) : Type 0 where
  pub formats : List (List ℕ)
  pub asks : Asks words (codes "check") (compiled judging.compilation) (check_flags judging false)
      (place_options formats) []
  pub is_text : GivesPlaces formats false

-- The arguments are `check` with a lattice file, several source texts, or one whose answer has places before its lines.
pub record AsksSurvey (words : List (String Global)) (survey : Survey) : Type 0 where
  pub formats : List (List ℕ)
  pub has_places : Bool
  pub asks : Asks words (codes "check") (surveyed survey) (survey_flags survey) (place_options formats) []
  pub given : GivesPlaces formats has_places
  pub each : is_survey has_places survey.sources.items ≡ true

-- The arguments are `check` with a project file and, at most, the name of one of its programs; all runs have the default
-- budget.
pub record AsksProject (words : List (String Global)) (projecting : Projecting) : Type 0 where
  pub asks : Asks words (codes "check") (given projecting.name) (form_flags projecting.form)
      (options_of (Project projecting)) []
  pub budgeted : projecting.budget ≡ RUNS_BUDGET

-- Comments are kept with any of the three flags, and `--check` doesn't go with `--write`.
abbrev pub keeps_comments : Laid → Bool
keeps_comments layout = if layout.is_checked then not layout.is_written else layout.is_written || layout.is_kept

-- The arguments are `fmt` with a source text and flags with which comments are kept.
pub record AsksLayout (words : List (String Global)) (layout : Laid) : Type 0 where
  pub asks : Asks words (codes "fmt") (layout.source.now ∷ []) (flags_of (Layout layout)) [] []
  pub kept : keeps_comments layout ≡ true

-- These paths, if this holds.
abbrev pub when : Bool → List (List ℕ) → List (List ℕ)
when holds paths = if holds then paths else []

-- The arguments after `policy` give a newer file, unless an interface is that, and maybe an older one: as operands, the
-- older one last, or by the options `--to` and `--from`, which name them.
pub record GivesFiles (words : List (List ℕ)) (new : List (List ℕ)) (old : Option (Bor (List ℕ))) : Type 0 where
  pub is_named : Bool
  pub operands : operands_in false words ≡ when (not is_named) (new ++ given old)
  pub to : values_in (codes "--to") false words ≡ when is_named new
  pub from : values_in (codes "--from") false words ≡ when is_named (given old)

-- The arguments are `policy` with its flags and its interface, if it has one, and with such files.
pub record AsksPolicy (words : List (String Global)) (interface : Option (Bor (List ℕ))) (new : List (List ℕ))
    (old : Option (Bor (List ℕ))) (is_denying is_json : Bool) : Type 0 where
  pub is_named : Bool
  pub asks : Asks words (codes "policy") (when (not is_named) (new ++ given old)) (policy_flags is_denying is_json)
      (policy_options interface (when is_named new) (when is_named (given old))) []

-- The same with a lattice file.
abbrev pub AsksLooking : List (String Global) → Looking → Bool → Type 0
AsksLooking words looking is_json =
    AsksPolicy words None (looking.lattice.now ∷ []) looking.old looking.is_denying is_json

-- The same with an interface.
abbrev pub AsksVisibility : List (String Global) → Visibility → Bool → Type 0
AsksVisibility words v is_json = AsksPolicy words (Some v.interface) [] v.old v.is_denying is_json

-- The arguments are `mend` with both files and flags that don't ask for a text as JSON.
pub record AsksRaises (words : List (String Global)) (mending : Mending) : Type 0 where
  pub asks : Asks words (codes "mend") (compiled mending.compilation) (flags_of (Mend mending)) [] []
  pub apart : (mending.is_applied && mending.is_json) ≡ false

-- The options of a view without a boundary: it gives no interface and no list.
abbrev pub unlisted : Bor (List ℕ) → Execution → InitialStore → List (List ℕ × List (List ℕ))
unlisted class execution initial_store =
    (codes "--class", class.now ∷ []) ∷ starting execution initial_store ++ listing None None None

-- A view is bounded by an interface, or by a list of outputs or of released outputs.
abbrev pub is_bounding : DrivePolicy → Bool
is_bounding (policy.Lattice path lists) = is_some lists.outputs || is_some lists.released
is_bounding (policy.Interface path) = true

-- The arguments are `view` with its operands, flags, options and numbers, and with an interface or at least one list; a
-- view has no list of inputs.
pub record AsksViewWithin (words : List (String Global)) (viewing : Viewing) : Type 0 where
  pub asks : Asks words (codes "view") (operands_of (ViewWithin viewing)) (flags_of (ViewWithin viewing))
      (options_of (ViewWithin viewing)) (numbers_of (ViewWithin viewing))
  pub unfed : (lists_of viewing.policy).inputs ≡ None
  pub listed : is_bounding viewing.policy ≡ true

-- A drive with a start store reads and saves its store at one path.
abbrev pub IsKept : Option (Bor (List ℕ)) → Option (Bor (List ℕ)) → Option (Bor (List ℕ)) → Type 0
IsKept None store save = Unit {0}
IsKept (Some start) store save = (is_some store ≡ true) × (given save ≡ given store)

-- The arguments are `drive` with its operands, flags, options and numbers, and if a start store is given, with one path
-- at which the store is read and saved.
pub record AsksDrive (words : List (String Global)) (driving : Driving) : Type 0 where
  pub asks : Asks words (codes "drive") (operands_of (Drive driving)) (flags_of (Drive driving))
      (options_of (Drive driving)) (numbers_of (Drive driving))
  pub kept : IsKept driving.start driving.execution.store driving.save

-- The arguments are `monitor` with its operands, flags, options and numbers, and give its rule.
pub record AsksMonitor (words : List (String Global)) (stepping : Stepping) (rule : MonitorRule) (is_json : Bool) :
    Type 0 where
  pub rules : List (List ℕ)
  pub asks : Asks words (codes "monitor") (stepped stepping) (step_flags stepping is_json)
      (monitor_options stepping rules) (step_numbers stepping.budget)
  pub given : GivesRule rules rule

-- The arguments spell the request for a document.
abbrev pub SpellsDocument : List (String Global) → Document → Type 0
SpellsDocument words (document.Policy looking) = AsksLooking words looking true
SpellsDocument words (document.Visible visibility) = AsksVisibility words visibility true
SpellsDocument words asked =
    Asks words (document_name asked) (document_operands asked) (document_flags asked) (document_options asked)
    (document_numbers asked)

-- The arguments spell the request: its subcommand, then its operands, flags, options and numbers or, for `explain`, an
-- operand that names its page.
abbrev pub Spells : List (String Global) → Request → Type 0
Spells words (Check judging) = AsksCheck words judging
Spells words (Surveyed survey) = AsksSurvey words survey
Spells words (Project projecting) = AsksProject words projecting
Spells words (Mend mending) = AsksRaises words mending
Spells words (View lattice class execution initial_store) =
    Asks words (codes "view") (operands_of (View lattice class execution initial_store))
    (flags_of (View lattice class execution initial_store)) (unlisted class execution initial_store)
    (numbers_of (View lattice class execution initial_store))
Spells words (ViewWithin viewing) = AsksViewWithin words viewing
Spells words (Drive driving) = AsksDrive words driving
Spells words (Layout layout) = AsksLayout words layout
Spells words (Policy looking) = AsksLooking words looking false
Spells words (Visible visibility) = AsksVisibility words visibility false
Spells words (Documented asked) = SpellsDocument words asked
Spells words (Monitor stepping rule is_json) = AsksMonitor words stepping rule is_json
Spells words (Explain page) = AsksPage words page.now
Spells words request =
    Asks words (name_of request) (operands_of request) (flags_of request) (options_of request) (numbers_of request)

-- The flags of a request for a document that no part of it depends on.
abbrev pub free_document_flags : Document → List (List ℕ)
free_document_flags (document.Run execution initial_store) = codes "--explain" ∷ codes "--all" ∷ codes "--force" ∷ []
free_document_flags asked = codes "--explain" ∷ codes "--all" ∷ []

-- The flags of a subcommand that no part of its request depends on: those that ask for an explanation and for all lines
-- of it, and, where a file is written, the one that lets it replace a file of another kind.
abbrev pub free_flags : Request → List (List ℕ)
free_flags (Build compilation image) = codes "--explain" ∷ codes "--all" ∷ codes "--force" ∷ []
free_flags (Run execution initial_store has_trace has_count) = codes "--explain" ∷ codes "--all" ∷ codes "--force" ∷ []
free_flags (View lattice class execution initial_store) = codes "--explain" ∷ codes "--all" ∷ codes "--force" ∷ []
free_flags (ViewWithin viewing) = codes "--explain" ∷ codes "--all" ∷ codes "--force" ∷ []
free_flags (Drive driving) = codes "--explain" ∷ codes "--all" ∷ codes "--force" ∷ []
free_flags (EmitC emission) = codes "--explain" ∷ codes "--all" ∷ codes "--force" ∷ []
free_flags (Report page) = codes "--explain" ∷ codes "--all" ∷ codes "--force" ∷ []
free_flags (Documented asked) = free_document_flags asked
free_flags request = codes "--explain" ∷ codes "--all" ∷ []

-- These flags, and the option that says how a refusal is explained, for each subcommand that one can end. A fault
-- of one of several texts, or of a program of a project, isn't explained. The flag of `lsp` changes nothing.
abbrev pub manner_of : Request → List (List ℕ) × List (List ℕ)
manner_of (Surveyed survey) = ([], codes "--color" ∷ [])
manner_of (Project projecting) = ([], codes "--color" ∷ [])
manner_of (New folder) = ([], [])
manner_of (Shaped arguments) = ([], [])
manner_of (Lsp serving) = (codes "--stdio" ∷ [], [])
manner_of (Explain page) = ([], [])
manner_of request = (free_flags request, codes "--color" ∷ [])

-- The flags that the request's subcommand has.
abbrev pub own_flags : Request → List (List ℕ)
own_flags request = map (λ f. f.0) (flags_of request) ++ (manner_of request).0

-- The options that the request's subcommand has.
abbrev pub own_options : Request → List (List ℕ)
own_options request =
    map (λ o. o.0) (options_of request) ++ map (λ n. n.0) (numbers_of request) ++ (manner_of request).1

-- The arguments make the request: they spell it, and each flag and option among them belongs to its subcommand.
pub record AsksFor (words : List (String Global)) (request : Request) : Type 0 where
  pub spelled : Spells words request
  pub own : IsTrue (list_all (is_own (own_flags request) (own_options request)) (dashed_in false (texts words)))
