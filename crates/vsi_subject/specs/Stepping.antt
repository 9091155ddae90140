-- Runs of a source text in steps, under a monitor or without one.
use Rattle.std.specs.Prelude.{◌≡◌, ◌++◌, ℕ, ℤ, Bool, true, false, List, Some, Ok, Err}
use Rattle.std.specs.List.{All}
use Rattle.vsi_lattice.specs.LatticeView.{class_named, order}
use Rattle.vsi_lattice.specs.NamePlaces.{texts}
use Rattle.vsi_lattice.specs.Order as classes
use Rattle.vsi_lattice.specs.declared.lattice.Lattice.{Lattice}
use Rattle.vsi_scope.specs.Program.{Resolved}
use Rattle.vsi_types.specs.declared.rules.Profile.TheVariants.{Base}
use Rattle.vsi_types.specs.Security.{IsChoice, IsTypable, Program, program}
use Rattle.vsi_infer.specs.Inference.{IsLeast}
use Rattle.vsi_image.specs.declared.instr.Image.{Image}
use Rattle.vsi_image.specs.Fields.{Global, globals}
use Rattle.vsi_compiler.specs.Headline.{IsImageOf}
use Rattle.vsi_compiler.specs.Stands.{Stands}
use Rattle.vsi_steps.specs.declared.run.Trace.{Trace}
use Rattle.vsi_steps.specs.Traced.{IsTraced}
use Rattle.vsi_steps.specs.declared.labels.Rule.{Rule}
use Rattle.vsi_steps.specs.declared.labels.Rule.TheVariants.{NoSensitiveUpgrade, PermissiveUpgrade}
use Rattle.vsi_arguments.specs.declared.request.MonitorRule.{MonitorRule}
use Rattle.vsi_arguments.specs.declared.request.MonitorRule.TheVariants as asked
use Rattle.vsi_steps.specs.declared.watch.Stop.{Stop}
use Rattle.vsi_steps.specs.declared.watch.Unfinished.TheVariants as ends
use Rattle.vsi_steps.specs.declared.watch.Watched.{Watched}
use Rattle.vsi_steps.specs.Watched.{RunEnds}
use Rattle.vsi_store.specs.Compare.{agree_in}
use Rattle.vsi_drive.specs.Starts.{Begins}
use Rattle.vsi_arguments.specs.declared.request.StepComparison.{StepComparison}
use Rattle.vsi_arguments.specs.declared.request.Stepping.{Stepping}
use Rattle.vsi_subject.specs.Files.{IsStoredAt, LooksAt}
use Rattle.vsi_subject.specs.Holding.{Holding, IsLatticeAt, IsReadAt, IsStoreAt}

-- ---- the beginning of a run.

-- The files of a run in steps have this lattice, this source text and these bytes of the store.
pub record AreStepFiles (holds : Holding) (s : Stepping) (l : Lattice) (text file : List ℕ) : Type 0 where
  pub declared : IsLatticeAt holds s.lattice.now l
  pub read : IsReadAt holds s.source.now text
  pub stored : IsStoreAt holds s.store file

-- This is so of the files of a run in steps.
pub record OfStepFiles (holds : Holding) (s : Stepping) (So : Lattice → List ℕ → List ℕ → Type 0) : Type 0 where
  pub lattice : Lattice
  pub text : List ℕ
  pub file : List ℕ
  pub files : AreStepFiles holds s lattice text file
  pub is : So lattice text file

-- The program of a text and its image, whether its flows are allowed or not.
pub record AreWritten (l : Lattice) (text : List ℕ) (r : Resolved) (im : Image) : Type 0 where
  pub program : Stands (class_named l) text r
  pub image : IsImageOf (class_named l) text im

-- The program of a text and the words that its run begins with: those of the store file, changed by the settings.
pub record IsStarted (s : Stepping) (l : Lattice) (text file : List ℕ) (r : Resolved) (words : List ℤ) : Type 0 where
  pub image : Image
  pub written : AreWritten l text r image
  pub begins : Begins image file (texts s.settings.items) s.is_full words

-- ---- the steps.

-- The run of a program from these words ends within so many steps, or it doesn't.
pub record EndsTraced (r : Resolved) (words : List ℤ) (budget : ℕ) (ended : Bool) : Type 0 where
  pub trace : Trace
  pub traced : IsTraced r words budget trace
  pub is : trace.halted ≡ ended

-- `steps`: the run of the program of a text ends within its budget, or it doesn't.
pub record IsStepped (s : Stepping) (ended : Bool) (l : Lattice) (text file : List ℕ) : Type 0 where
  pub program : Resolved
  pub words : List ℤ
  pub started : IsStarted s l text file program words
  pub ends : EndsTraced program words s.budget ended

-- ---- the monitor.

-- A choice of classes for the letvars of a program: it keeps those that are declared, and is the least one if any is
-- typable.
pub record IsChosen (L : classes.Lattice) (p : Program) (choice : List ℕ) : Type 0 where
  pub kept : IsChoice p choice
  pub classes : All (classes.IsClass L) choice
  pub least : (s : List ℕ) → IsTypable L Base p s → IsLeast L Base p choice

-- The table has the class of each declaration of a program, globals first, by such a choice.
pub record IsTable (L : classes.Lattice) (p : Program) (table : List ℕ) : Type 0 where
  pub choice : List ℕ
  pub is : table ≡ p.globals ++ choice
  pub chosen : IsChosen L p choice

-- The monitored run of a program from these words ends with these words and labels.
pub record EndsWatched (R : Rule) (L : classes.Lattice) (r : Resolved) (words : List ℤ) : Type 0 where
  pub table : List ℕ
  pub is : IsTable L (program r) table
  pub last : Watched
  pub ends : RunEnds R L table r words (Ok last)

-- The monitored run of a program from these words is stopped, and no choice of classes is typable.
pub record IsStopped (R : Rule) (L : classes.Lattice) (r : Resolved) (words : List ℤ) : Type 0 where
  pub table : List ℕ
  pub is : IsTable L (program r) table
  pub stop : Stop
  pub ends : RunEnds R L table r words (Err (ends.Stopped stop))
  pub refused : (s : List ℕ) → ¬ (IsTypable L Base (program r) s)

-- The monitored run of a program from these words ends, or it is stopped.
abbrev pub EndsMonitored : Rule → Bool → classes.Lattice → Resolved → List ℤ → Type 0
EndsMonitored R true L r words = EndsWatched R L r words
EndsMonitored R false L r words = IsStopped R L r words

-- The rule of a monitor.
abbrev pub rule_of : MonitorRule → Rule
rule_of asked.NoSensitiveUpgrade = NoSensitiveUpgrade
rule_of asked.PermissiveUpgrade = PermissiveUpgrade

-- `monitor`: the monitored run of the program of a text ends, or it is stopped.
pub record IsMonitored (s : Stepping) (R : Rule) (ended : Bool) (l : Lattice) (text file : List ℕ) : Type 0 where
  pub program : Resolved
  pub words : List ℤ
  pub started : IsStarted s l text file program words
  pub ends : EndsMonitored R ended (order l) program words

-- ---- two runs.

-- The runs of a program from two stores end within so many steps, and a class sees the same of both last stores, or it
-- doesn't.
pub record Compared (l : Lattice) (class : ℕ) (r : Resolved) (gs : List Global) (first second : List ℤ) (budget : ℕ)
    (same : Bool) : Type 0 where
  pub one : Trace
  pub other : Trace
  pub traced_first : IsTraced r first budget one
  pub traced_second : IsTraced r second budget other
  pub halted_first : one.halted ≡ true
  pub halted_second : other.halted ≡ true
  pub seen : same ≡ agree_in (class_named l) (order l) class gs one.words.items other.words.items

-- The lattice and its class, the program of a source text, and its image, as the files of a comparison hold them.
pub record AreStepsCompared (holds : Holding) (c : StepComparison) (l : Lattice) (class : ℕ) (r : Resolved) (im : Image)
    : Type 0 where
  pub looks : LooksAt holds c.lattice.now c.class.now l class
  pub text : List ℕ
  pub read : IsReadAt holds c.source.now text
  pub written : AreWritten l text r im

-- `compare --steps`: both runs of the program of a source text end within the budget, and the class sees the same of
-- their last stores, or it doesn't.
pub record ComparesSteps (holds : Holding) (c : StepComparison) (same : Bool) : Type 0 where
  pub lattice : Lattice
  pub class : ℕ
  pub program : Resolved
  pub image : Image
  pub read : AreStepsCompared holds c lattice class program image
  pub first : List ℤ
  pub second : List ℤ
  pub from_first : IsStoredAt holds (Some c.stores.0) image first
  pub from_second : IsStoredAt holds (Some c.stores.1) image second
  pub is : Compared lattice class program (globals image.globals.items) first second c.budget same
