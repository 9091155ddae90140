-- Why a run in steps has no answer.
use Rattle.std.specs.Prelude.{◌≡◌, ◌⊎◌, ℕ, ℤ, false, List, Option, Some, Err}
use Rattle.std.specs.Borrow.{Bor}
use Rattle.vsi_lattice.specs.NamePlaces.{texts}
use Rattle.vsi_lattice.specs.declared.lattice.Lattice.{Lattice}
use Rattle.vsi_scope.specs.Program.{Resolved}
use Rattle.vsi_image.specs.declared.instr.Image.{Image}
use Rattle.vsi_answers.specs.Answers.{Because}
use Rattle.vsi_answers.specs.Judged.{IsProgramFault, IsStoreFault, TellsFault, TellsSource}
use Rattle.vsi_answers.specs.Requests.{BeginsWith}
use Rattle.vsi_answers.specs.declared.unanswered.Unanswered.{Unanswered}
use Rattle.vsi_answers.specs.declared.unanswered.Unanswered.TheVariants as unanswered
use Rattle.vsi_arguments.specs.declared.request.StepComparison.{StepComparison}
use Rattle.vsi_arguments.specs.declared.request.Stepping.{Stepping}
use Rattle.vsi_subject.specs.Files.{IsStoredAt}
use Rattle.vsi_subject.specs.Holding.{Holding, IsStoreAt}
use Rattle.vsi_subject.specs.Refusals.{RefusesLattice, RefusesSource}
use Rattle.vsi_subject.specs.Stepping.{AreStepsCompared, AreWritten, EndsTraced, OfStepFiles}

-- The words that the run of a text's program begins with are refused: the store file, or the settings applied to it.
pub record RefusesWords (s : Stepping) (l : Lattice) (text file : List ℕ) (reason : Unanswered) : Type 0 where
  pub program : Resolved
  pub image : Image
  pub written : AreWritten l text program image
  pub is : BeginsWith image file (texts s.settings.items) s.is_full (Err reason)

-- The text has no program, or the words that its run begins with are refused.
abbrev pub RefusesStepped : Stepping → Unanswered → Lattice → List ℕ → List ℕ → Type 0
RefusesStepped s reason l text file =
    Because (TellsSource (IsProgramFault l text) l text) ⊥ reason ⊎ RefusesWords s l text file reason

-- `steps`: the lattice is refused, or a source text without a program, or the words that its run begins with.
abbrev pub WhySteps : Holding → Stepping → Unanswered → Type 0
WhySteps holds s reason = RefusesLattice holds s.lattice.now reason ⊎ OfStepFiles holds s (RefusesStepped s reason)

-- `monitor`: the same, or the run is out of budget, of which nothing else is claimed.
abbrev pub WhyMonitor : Holding → Stepping → Unanswered → Type 0
WhyMonitor holds s reason = WhySteps holds s reason ⊎ (reason ≡ unanswered.OutOfBudget)

-- `compare --steps`: a store file is refused for the image of the source text.
pub record RefusesStepStore (holds : Holding) (c : StepComparison) (path : Option (Bor (List ℕ))) (reason : Unanswered)
    : Type 0 where
  pub lattice : Lattice
  pub class : ℕ
  pub program : Resolved
  pub image : Image
  pub read : AreStepsCompared holds c lattice class program image
  pub file : List ℕ
  pub stored : IsStoreAt holds path file
  pub is : Because (TellsFault (IsStoreFault image file)) ⊥ reason

-- The run of a program from one of two stores doesn't end within so many steps.
pub record Spends (r : Resolved) (first second : List ℤ) (budget : ℕ) (reason : Unanswered) : Type 0 where
  pub out : reason ≡ unanswered.OutOfBudget
  pub is : EndsTraced r first budget false ⊎ EndsTraced r second budget false

-- `compare --steps`: the run from one of the store files doesn't end within the budget.
pub record SpendsCompared (holds : Holding) (c : StepComparison) (reason : Unanswered) : Type 0 where
  pub lattice : Lattice
  pub class : ℕ
  pub program : Resolved
  pub image : Image
  pub read : AreStepsCompared holds c lattice class program image
  pub first : List ℤ
  pub second : List ℤ
  pub from_first : IsStoredAt holds (Some c.stores.0) image first
  pub from_second : IsStoredAt holds (Some c.stores.1) image second
  pub is : Spends program first second c.budget reason

-- `compare --steps`: the lattice is refused, or a text without a program, or a store, or a run is out of budget.
abbrev pub WhyCompareSteps : Holding → StepComparison → Unanswered → Type 0
WhyCompareSteps holds c reason =
    RefusesLattice holds c.lattice.now reason ⊎ RefusesSource holds c.lattice.now c.source.now reason
    ⊎ RefusesStepStore holds c (Some c.stores.0) reason ⊎ RefusesStepStore holds c (Some c.stores.1) reason
    ⊎ SpendsCompared holds c reason
