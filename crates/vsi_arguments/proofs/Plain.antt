-- Arguments that don't look like options.
use Rattle.std.proofs.Common.{◌≡◌, ℕ, Bool, List, [], ◌∷◌, true, false, refl, ap, sym, ◌∙◌, inl, inr}
use Rattle.std.specs.Prelude.{None, bytes_eq, codes, ◌||◌, ◌==◌, String, IsTrue}
use Rattle.std.specs.Borrow.{Bor}
use Rattle.std.specs.List.{list_any}
use Rattle.std.specs.declared.alloc.Global.{Global}
use Rattle.std.proofs.lemmas.Bool.{cases_Bool}
use Rattle.std.proofs.lemmas.Slice.Eq.{bytes_eq-Decides}
use Rattle.vsi_arguments.specs.declared.request.Judging.{Judging}
use Rattle.vsi_arguments.specs.declared.request.Projecting.{Projecting}
use Rattle.vsi_arguments.specs.declared.request.Request.{Request}
use Rattle.vsi_arguments.specs.declared.request.Survey.{Survey}
use Rattle.vsi_arguments.specs.declared.request.Document.{Document}
use Rattle.vsi_arguments.specs.declared.request.Document.TheVariants as document
use Rattle.vsi_arguments.specs.declared.request.Request.TheVariants.{Check, Document as Documented, Drive, Explain, Layout, Mend, Monitor, Policy, Project, Survey as Surveyed, ViewWithin, Visible}
use Rattle.vsi_arguments.specs.Asked.{AsksFor, Spells, SpellsDocument, document_name, is_survey, name_of}
use Rattle.vsi_arguments.specs.Help.{front_of, is_first, is_help, is_short}
use Rattle.vsi_arguments.specs.Laws.{ArePlainCheck, CheckIsAsked, IsPlainCheck}
use Rattle.vsi_arguments.specs.Words.{VALUED, has_flag, is_among, is_dashed, joined, operands_in, shown, texts, values_in}

-- Two arguments differ if only one of them begins like an option.
pub apart : (word name : List ℕ) → is_dashed word ≡ false → is_dashed name ≡ true → bytes_eq word name ≡ false
apart word name plain dashed =
    elim (cases_Bool (bytes_eq word name)) [
      | inl e ↦ let same = (bytes_eq-Decides word name).0 e in
          let turned : false ≡ true = sym plain ∙ ap is_dashed same ∙ dashed in absurd cc
      | inr e ↦ e
    ]

-- An argument that doesn't look like an option takes no value.
pub unvalued : (word : List ℕ) → is_dashed word ≡ false → is_among VALUED word ≡ false
unvalued word plain =
    rw (
      apart word (codes "--budget") plain refl,
      apart word (codes "--class") plain refl,
      apart word (codes "--color") plain refl,
      apart word (codes "--format") plain refl,
      apart word (codes "--from") plain refl,
      apart word (codes "--init") plain refl,
      apart word (codes "--inputs") plain refl,
      apart word (codes "--interface") plain refl,
      apart word (codes "--lattice") plain refl,
      apart word (codes "--name") plain refl,
      apart word (codes "--out") plain refl,
      apart word (codes "--outputs") plain refl,
      apart word (codes "--project") plain refl,
      apart word (codes "--release") plain refl,
      apart word (codes "--rule") plain refl,
      apart word (codes "--save") plain refl,
      apart word (codes "--save-every") plain refl,
      apart word (codes "--seed") plain refl,
      apart word (codes "--set") plain refl,
      apart word (codes "--store") plain refl,
      apart word (codes "--to") plain refl,
      apart word (codes "--tries") plain refl,
    ) refl

-- Two arguments that don't look like options are operands.
pub both_operands : (first second : List ℕ) → is_dashed first ≡ false → is_dashed second ≡ false →
    operands_in false (first ∷ second ∷ []) ≡ first ∷ second ∷ []
both_operands first second a b =
    rw (apart first (codes "--") a refl, unvalued first a, a, apart second (codes "--") b refl, unvalued second b, b) refl

-- No flag is among arguments that don't look like options.
pub no_flag : (flag first second : List ℕ) → is_dashed flag ≡ true → is_dashed first ≡ false →
    is_dashed second ≡ false → has_flag flag (first ∷ second ∷ []) ≡ false
no_flag flag first second f a b =
    rw (apart first (codes "--") a refl, apart first flag a f, apart second (codes "--") b refl, apart second flag b f) refl

-- An argument that doesn't look like an option isn't a short option for help.
pub unshort : (word : List ℕ) → is_dashed word ≡ false → is_short word ≡ false
unshort [] plain = refl
unshort (first ∷ []) plain = refl
unshort (first ∷ second ∷ rest) plain = rw plain refl

-- An argument that doesn't look like an option doesn't ask for help.
pub unhelpful : (word : List ℕ) → is_dashed word ≡ false → is_help word ≡ false
unhelpful word plain =
    rw (unshort word plain, apart word (codes "--help") plain refl, apart word (codes "--version") plain refl) refl

-- `check` and two arguments that don't look like options don't ask for help either.
pub no_help : (words : List (List ℕ)) (first second : List ℕ) → words ≡ codes "check" ∷ first ∷ second ∷ [] →
    is_dashed first ≡ false → is_dashed second ≡ false → IsTrue (is_first words || list_any is_help (front_of false words)) → ⊥
no_help words first second are a b asks =
    let asked : IsTrue (list_any is_help (front_of false (codes "check" ∷ first ∷ second ∷ []))) = rw are at asks in
    let none : false ≡ true = rw (
      apart first (codes "--") a refl,
      unvalued first a,
      apart second (codes "--") b refl,
      unhelpful first a,
      unhelpful second b,
    ) at asked in
    absurd cc

-- Arguments whose first is `check` request no subcommand of another name.
pub unnamed : (words : List (List ℕ)) (behind rest : List (List ℕ)) (name : List ℕ) →
    words ≡ codes "check" ∷ behind → words ≡ name ∷ rest → bytes_eq name (codes "check") ≡ false → ⊥
unnamed words behind rest name are named other =
    let same : name ≡ codes "check" = cc in
    let turned : bytes_eq (codes "check") (codes "check") ≡ false = rw same at other in
    let wrong : true ≡ false = turned in absurd cc

-- The part of an argument after an option and `=`, if the argument doesn't look like an option.
pub unjoined : (more word : List ℕ) → is_dashed word ≡ false → joined (45 ∷ 45 ∷ more) word ≡ None
unjoined more [] plain = refl
unjoined more (byte ∷ []) plain =
    elim (cases_Bool (byte == 45)) [
      | inl e ↦ rw e refl
      | inr e ↦ rw e refl
    ]
unjoined more (byte ∷ next ∷ rest) plain = rw plain refl

-- Arguments that don't look like options give no values for an option.
pub no_values : (more first second : List ℕ) → is_dashed first ≡ false → is_dashed second ≡ false →
    values_in (45 ∷ 45 ∷ more) false (first ∷ second ∷ []) ≡ []
no_values more first second a b =
    rw (
      apart first (codes "--") a refl,
      apart first (45 ∷ 45 ∷ more) a refl,
      unjoined more first a,
      apart second (codes "--") b refl,
      apart second (45 ∷ 45 ∷ more) b refl,
      unjoined more second b,
    ) refl

-- The first argument is the name of the subcommand of the request for a document that the arguments spell.
pub document_is_named : (words : List (String Global)) (asked : Document) → SpellsDocument words asked →
    (rest : List (List ℕ)) × (texts words ≡ document_name asked ∷ rest)
document_is_named words (document.Policy looking) spells = (spells.asks.rest, spells.asks.named)
document_is_named words (document.Visible visibility) spells = (spells.asks.rest, spells.asks.named)
document_is_named words asked spells = (spells.rest, spells.named)

-- The first argument is the name of the subcommand of the request that the arguments spell.
pub is_named : (words : List (String Global)) (request : Request) → Spells words request →
    (rest : List (List ℕ)) × (texts words ≡ name_of request ∷ rest)
is_named words (Check judging) spells = (spells.asks.rest, spells.asks.named)
is_named words (Surveyed survey) spells = (spells.asks.rest, spells.asks.named)
is_named words (Project projecting) spells = (spells.asks.rest, spells.asks.named)
is_named words (Mend mending) spells = (spells.asks.rest, spells.asks.named)
is_named words (ViewWithin viewing) spells = (spells.asks.rest, spells.asks.named)
is_named words (Drive driving) spells = (spells.asks.rest, spells.asks.named)
is_named words (Layout layout) spells = (spells.asks.rest, spells.asks.named)
is_named words (Monitor stepping rule is_json) spells = (spells.asks.rest, spells.asks.named)
is_named words (Explain page) spells = (spells.asks.rest, spells.asks.named)
is_named words (Policy looking) spells = (spells.asks.rest, spells.asks.named)
is_named words (Visible visibility) spells = (spells.asks.rest, spells.asks.named)
is_named words (Documented asked) spells = document_is_named words asked spells
is_named words request spells = (spells.rest, spells.named)

-- `check` and two arguments that don't look like options request a plain judgement of the two files.
pub plain_check : (judging : Judging) (words : List (String Global)) (lattice source : List ℕ) →
    ArePlainCheck words lattice source → Spells words (Check judging) → IsPlainCheck lattice source judging
plain_check judging words lattice source plain spells =
    let asks = spells.asks in
    let rest_is : asks.rest ≡ lattice ∷ source ∷ [] = cc (plain.are, asks.named) in
    let given : judging.compilation.lattice.now ∷ judging.compilation.source.now ∷ [] ≡ lattice ∷ source ∷ [] =
    sym asks.has_operands ∙ ap (operands_in false) rest_is
    ∙ both_operands lattice source plain.plain_lattice plain.plain_source in
    let flags = rw rest_is at asks.has_flags in
    let none = λ (flag : List ℕ) (d : is_dashed flag ≡ true).
    no_flag flag lattice source d plain.plain_lattice plain.plain_source in
    record {
      lattice_is = cc;
      source_is = cc;
      base = sym flags.0 ∙ none (codes "--strict") refl;
      unsteady = sym flags.1.0 ∙ none (codes "--steady") refl;
      plain = sym flags.1.1.0 ∙ none (codes "--json") refl;
    }

-- `check` and two arguments that don't look like options request no document.
no_document : (asked : Document) (words : List (String Global)) (lattice source : List ℕ) →
    ArePlainCheck words lattice source → Spells words (Documented asked) → ⊥
no_document (document.Sarif judging) words lattice source plain asks =
    let rest_is : asks.rest ≡ lattice ∷ source ∷ [] = cc (plain.are, asks.named) in
    let flags = rw rest_is at asks.has_flags in
    let unset = no_flag (codes "--sarif") lattice source refl plain.plain_lattice plain.plain_source in
    let turned : true ≡ false = sym flags.1.1.1.0 ∙ unset in absurd cc
no_document asked words lattice source plain asks =
    let named = document_is_named words asked asks in
    absurd (unnamed (texts words) _ named.0 (document_name asked) plain.are named.1 refl)

-- One source text is judged as one of several only if its answer has places before its lines.
single : (sources : List (Bor (List ℕ))) (source : List ℕ) (has_places : Bool) → shown sources ≡ source ∷ [] →
    is_survey has_places sources ≡ true → has_places ≡ true
single [] source has_places are each = let turned : false ≡ true = each in absurd cc
single (only ∷ []) source has_places are each = each
single (first ∷ second ∷ rest) source has_places are each = absurd cc

-- `check` and two arguments that don't look like options don't request a judgement of texts each by itself.
no_survey : (survey : Survey) (words : List (String Global)) (lattice source : List ℕ) →
    ArePlainCheck words lattice source → Spells words (Surveyed survey) → ⊥
no_survey survey words lattice source plain spells =
    let asks = spells.asks in
    let rest_is : asks.rest ≡ lattice ∷ source ∷ [] = cc (plain.are, asks.named) in
    let files : survey.lattice.now ∷ shown survey.sources.items ≡ lattice ∷ source ∷ [] =
    sym asks.has_operands ∙ ap (operands_in false) rest_is
    ∙ both_operands lattice source plain.plain_lattice plain.plain_source in
    let options = rw rest_is at asks.has_options in
    let none : spells.formats ≡ [] =
    sym options.0 ∙ no_values (codes "format") lattice source plain.plain_lattice plain.plain_source in
    let one : shown survey.sources.items ≡ source ∷ [] = cc in
    let placed : spells.has_places ≡ true = single survey.sources.items source spells.has_places one spells.each in
    let unplaced : spells.has_places ≡ false = rw none at spells.given in
    let turned : true ≡ false = sym placed ∙ unplaced in absurd cc

-- `check` and two arguments that don't look like options don't request a judgement of a project.
no_project : (projecting : Projecting) (words : List (String Global)) (lattice source : List ℕ) →
    ArePlainCheck words lattice source → Spells words (Project projecting) → ⊥
no_project projecting words lattice source plain spells =
    let asks = spells.asks in
    let rest_is : asks.rest ≡ lattice ∷ source ∷ [] = cc (plain.are, asks.named) in
    let options = rw rest_is at asks.has_options in
    let none : projecting.project.now ∷ [] ≡ [] =
    sym options.0 ∙ no_values (codes "project") lattice source plain.plain_lattice plain.plain_source in absurd cc

-- Every request that such arguments make is a judgement of the two files.
pub one_request : (words : List (String Global)) (lattice source : List ℕ) → ArePlainCheck words lattice source →
    (request : Request) → AsksFor words request →
    (judging : Judging) × (request ≡ Check judging) × IsPlainCheck lattice source judging
one_request words lattice source plain (Check judging) asks =
    (judging, refl, plain_check judging words lattice source plain asks.spelled)
one_request words lattice source plain (Surveyed survey) asks =
    absurd (no_survey survey words lattice source plain asks.spelled)
one_request words lattice source plain (Project projecting) asks =
    absurd (no_project projecting words lattice source plain asks.spelled)
one_request words lattice source plain (Documented asked) asks =
    absurd (no_document asked words lattice source plain asks.spelled)
one_request words lattice source plain request asks =
    let named = is_named words request asks.spelled in
    absurd (unnamed (texts words) _ named.0 (name_of request) plain.are named.1 refl)

-- The law.
pub check_is_asked : CheckIsAsked
check_is_asked words lattice source plain = (
  no_help (texts words) lattice source plain.are plain.plain_lattice plain.plain_source,
  one_request words lattice source plain,
)
