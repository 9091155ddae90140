-- Documents, which programs read.
use Rattle.std.specs.Prelude.{ℕ, ℤ, Bool, true, false, List, if◌then◌else◌}
use Rattle.std.specs.Global.{Vec}
use Rattle.vsi_lattice.specs.declared.lattice.Lattice.{Lattice}
use Rattle.vsi_types.specs.declared.rules.Profile.{Profile}
use Rattle.vsi_conform.specs.declared.interface.Judgement.TheVariants as judgement
use Rattle.vsi_image.specs.declared.instr.Image.{Image}
use Rattle.vsi_conform.specs.declared.interface.Judgement.{Judgement}
use Rattle.vsi_documents.specs.Auditing as sarif
use Rattle.vsi_documents.specs.Checking.{TellsDocument}
use Rattle.vsi_documents.specs.Audits.{TellsJudged}
use Rattle.vsi_documents.specs.Classes.{TellsClasses}
use Rattle.vsi_documents.specs.Flows.{TellsFlows}
use Rattle.vsi_documents.specs.Runs.{TellsRun}
use Rattle.vsi_arguments.specs.declared.request.Audit.{Audit}
use Rattle.vsi_arguments.specs.declared.request.Execution.{Execution}
use Rattle.vsi_arguments.specs.declared.request.InitialStore.{InitialStore}
use Rattle.vsi_subject.specs.Files.{BeginsAt, IsBudgetOf}
use Rattle.vsi_subject.specs.Holding.{Holding, IsImageAt, IsLatticeAt}

-- The judgement with `--steady`, and with `--strict`.
abbrev pub judgement_of : Bool → Bool → Judgement
judgement_of is_steady is_strict =
    if is_steady then judgement.Steady else if is_strict then judgement.Strict else judgement.Base

-- The document of SARIF for the text of the file at a path, which is accepted or refused.
abbrev pub ToldSarif : Judgement → List ℕ → Bool → Lattice → List ℕ → Vec ℕ → Type 0
ToldSarif j path accepted l source text = TellsDocument l j path source accepted text.items

-- The line of JSON for a text with its classes, or for a refused one.
abbrev pub ToldClassesJson : Profile → Bool → Lattice → List ℕ → Vec ℕ → Type 0
ToldClassesJson P good l source text = TellsClasses l P source good text.items

-- The line of JSON for a text with its flows, or for one that has no program.
abbrev pub ToldFlowsJson : Profile → Bool → Lattice → List ℕ → Vec ℕ → Type 0
ToldFlowsJson P good l source text = TellsFlows l P source good text.items

-- The line of JSON for an image, or the document of SARIF for the image of the file at a path.
abbrev pub ToldAudit : Bool → Audit → Lattice → Image → Bool → Vec ℕ → Type 0
ToldAudit true a l image good text =
    sarif.TellsJudged l (judgement_of a.is_steady a.is_strict) a.image.now image good text.items
ToldAudit false a l image good text = TellsJudged l (judgement_of a.is_steady a.is_strict) image good text.items

-- The same for the files of an audit.
pub record AuditsDocument (is_sarif : Bool) (holds : Holding) (a : Audit) (good : Bool) (text : Vec ℕ) : Type 0 where
  pub lattice : Lattice
  pub declared : IsLatticeAt holds a.lattice.now lattice
  pub image : Image
  pub held : IsImageAt holds a.image.now image
  pub is : ToldAudit is_sarif a lattice image good text

-- The file is an image, whose parts a line of JSON has.
pub record ListsJson (holds : Holding) (path : List ℕ) (text : Vec ℕ) : Type 0 where
  pub image : Image
  pub held : IsImageAt holds path image

-- The line of JSON for the run of the image of a file, which halts within its budget or doesn't.
pub record RunsJson (holds : Holding) (e : Execution) (o : InitialStore) (good : Bool) (text : Vec ℕ) : Type 0 where
  pub image : Image
  pub words : List ℤ
  pub begins : BeginsAt holds e o image words
  pub budget : ℕ
  pub within : IsBudgetOf e.budget image budget
  pub is : TellsRun image words budget good text.items
