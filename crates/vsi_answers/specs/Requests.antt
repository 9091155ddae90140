-- The answer to each request.
use Rattle.std.specs.Prelude.{◌≡◌, ◌⊎◌, ℕ, ℤ, pos, Bool, false, List, length, replicate, Some, Result, Ok, codes}
use Rattle.std.specs.Global.{Vec}
use Rattle.vsi_lattice.specs.LatticeView.{class_named, names, order}
use Rattle.vsi_lattice.specs.declared.lattice.Lattice.{Lattice}
use Rattle.vsi_types.specs.declared.rules.Profile.{Profile}
use Rattle.vsi_types.specs.declared.rules.Profile.TheVariants.{Base, Strict}
use Rattle.vsi_image.specs.declared.instr.Image.{Image}
use Rattle.vsi_image.specs.Fields.{fields, globals}
use Rattle.vsi_image.specs.Listing as image
use Rattle.vsi_image.specs.Meaning.{State}
use Rattle.vsi_machine.specs.Runs.{HaltsWith, run_of}
use Rattle.vsi_store.specs.Compare.{Compares}
use Rattle.vsi_store.specs.Text.{store_text_of}
use Rattle.vsi_store.specs.View.{Views}
use Rattle.vsi_store.specs.declared.comparing.Comparison.{Comparison}
use Rattle.vsi_store.specs.declared.views.View.TheVariants as view
use Rattle.vsi_compiler.specs.Acceptance.{IsAccepted}
use Rattle.vsi_compiler.specs.Classes.{IsClassText}
use Rattle.vsi_compiler.specs.Headline.{IsCompiled}
use Rattle.vsi_compiler.specs.Source.{IsCanonicalText}
use Rattle.vsi_steady.specs.Source.{HasSteadyFlows, RefusesSteady}
use Rattle.vsi_steady.specs.Steady.{IsSteady}
use Rattle.vsi_drive.specs.Starts.{Begins}
use Rattle.vsi_drive.specs.Building.{IsBuilt}
use Rattle.vsi_flows.specs.Text.{IsTableText, IsWalksText}
use Rattle.vsi_flows.specs.Answers.{IsRaiseText, IsRaisedText, RefusesRaise, RefusesRaised}
use Rattle.vsi_answers.specs.declared.unanswered.Unanswered.{Unanswered}
use Rattle.vsi_answers.specs.Answers.{Judges, Nothing, Runs, Telling}
use Rattle.vsi_answers.specs.Judged.{AreImage, Declares, IsCompileFault, IsImageFault, IsLatticeFault, IsProgramFault, IsTreeFault, IsViewFault, TellsFault, TellsRaised, TellsSource, TellsStart, TellsSteady}

-- A text, or the reason why there is none.
abbrev pub Answer : Type 0
Answer = Result (Vec ℕ) Unanswered

-- A lattice file: the lattice that its bytes declare, or their first fault.
abbrev pub ReadsLattice : List ℕ → Result Lattice Unanswered → Type 0
ReadsLattice bytes = Judges (Declares bytes) (TellsFault (IsLatticeFault bytes))

-- An image: the valid image with these bytes, or their first fault.
abbrev pub ReadsImage : List ℕ → Result Image Unanswered → Type 0
ReadsImage bytes = Judges (AreImage bytes) (TellsFault (IsImageFault bytes))

-- `check`: the text is accepted and the answer is `accepted`, or the answer is the reason for the refusal.
abbrev pub ChecksTo : Lattice → Profile → List ℕ → Answer → Type 0
ChecksTo l P source =
    Judges (λ text. IsAccepted (class_named l) (order l) P source × (text.items ≡ codes "accepted\n"))
    (TellsSource (IsCompileFault l P source) l source)

-- The texts that `check --steady` accepts: their flows are steady, and the strict profile compiles them to a steady
-- image.
pub record IsAcceptedSteady (l : Lattice) (source : List ℕ) : Type 0 where
  pub flows : HasSteadyFlows (class_named l) (order l) source
  pub image : Image
  pub compiled : IsCompiled (class_named l) (order l) Strict source image
  pub steady : IsSteady (class_named l) (order l) image

-- `check --steady`: the text is accepted, its image is steady and the answer is `accepted`, or the answer is the reason
-- for the refusal.
abbrev pub ChecksSteadyTo : Lattice → List ℕ → Answer → Type 0
ChecksSteadyTo l source =
    Judges (λ text. IsAcceptedSteady l source × (text.items ≡ codes "accepted\n"))
    (TellsSteady (RefusesSteady (class_named l) (order l) source) l source)

-- An answer under the lattice that the bytes of a lattice file declare, or the first fault of these bytes.
abbrev pub Under : List ℕ → (Lattice → Answer → Type 0) → Answer → Type 0
Under policy Kind answer =
    ((l : Lattice) × Declares policy l × Kind l answer)
    ⊎ Judges (λ text. ⊥) (TellsFault (IsLatticeFault policy)) answer

-- `check` for the bytes of both of its files.
abbrev pub ChecksFilesTo : Profile → List ℕ → List ℕ → Answer → Type 0
ChecksFilesTo P policy source = Under policy (λ l. ChecksTo l P source)

-- `classes`: the lines of the least choice of classes, or the reason why the text is refused.
abbrev pub ClassesTo : Lattice → Profile → List ℕ → Answer → Type 0
ClassesTo l P source =
    Judges (λ text. IsClassText (class_named l) (order l) P (names l) source text.items)
    (TellsSource (IsCompileFault l P source) l source)

-- `flows`: the table of all flows, or the reason why the text has no program.
abbrev pub FlowsTo : Lattice → Profile → List ℕ → Answer → Type 0
FlowsTo l P source =
    Judges (λ text. IsTableText l P source text.items) (TellsSource (IsProgramFault l source) l source)

-- `flows --walks`: the table with the steps of a walk below each pair, or the reason why the text has no program.
abbrev pub WalksTo : Lattice → Profile → List ℕ → Answer → Type 0
WalksTo l P source =
    Judges (λ text. IsWalksText l P source text.items) (TellsSource (IsProgramFault l source) l source)

-- `mend`: the lines of the raises to the least policy, or why none serves.
abbrev pub MendsTo : Lattice → Profile → List ℕ → Answer → Type 0
MendsTo l P source =
    Judges (λ text. IsRaiseText l P source text.items) (TellsSource (RefusesRaise l P source) l source)

-- The refusal of a text that no raise makes accepted, or of the text with the raises.
abbrev pub TellsUnraised : Lattice → Profile → List ℕ → Telling
TellsUnraised l P source text cause =
    TellsSource (RefusesRaise l P source) l source text cause
    ⊎ TellsRaised (RefusesRaised l P source) l text cause

-- `mend --apply`: the text with these raises, which is accepted, or why none serves, or why that text is refused.
abbrev pub AppliesTo : Lattice → Profile → List ℕ → Answer → Type 0
AppliesTo l P source =
    Judges (λ text. IsRaisedText l P source text.items × IsAccepted (class_named l) (order l) P text.items)
    (TellsUnraised l P source)

-- `build`: the bytes of the image that the text is compiled to, or the reason why it is refused.
abbrev pub BuildsTo : Lattice → Profile → List ℕ → Answer → Type 0
BuildsTo l P source =
    Judges (λ bytes. IsBuilt (class_named l) (order l) P source bytes.items)
    (TellsSource (IsCompileFault l P source) l source)

-- `fmt`: the canonical text of the text's tree, or the reason why it has none; names and lattices aren't checked.
abbrev pub FormatsTo : Lattice → List ℕ → Answer → Type 0
FormatsTo l source =
    Judges (λ text. IsCanonicalText source text.items) (TellsSource (IsTreeFault source) l source)

-- `list`: the listing of the image with these bytes, or the reason why they aren't an image.
abbrev pub ListsTo : List ℕ → Answer → Type 0
ListsTo bytes =
    Judges (λ text. (im : Image) × AreImage bytes im × (text.items ≡ image.listing (fields im)))
    (TellsFault (IsImageFault bytes))

-- The words at the start of a run: those of a store file with the settings after it, or their first fault.
abbrev pub BeginsWith : Image → List ℕ → List (List ℕ) → Bool → Result (Vec ℤ) Unanswered → Type 0
BeginsWith im file settings is_full =
    Judges (λ words. Begins im file settings is_full words.items) (TellsStart im file settings is_full)

-- The run of an image from these words hasn't halted within a budget.
abbrev pub IsSpent : Image → List ℤ → ℕ → Type 0
IsSpent im words budget = (last : State) × (run_of im words budget ≡ Some last) × (last.halted ≡ false)

-- `run`: the lines of the store with which the run of the image halts, or that it is out of budget.
abbrev pub RunsTo : Image → List ℤ → ℕ → Answer → Type 0
RunsTo im words budget =
    Runs (λ text. (last : List ℤ) × HaltsWith im words budget last
    × (text.items ≡ store_text_of (globals im.globals.items) last))
    (IsSpent im words budget) Nothing

-- A store of zeros for an image.
abbrev pub zeros : Image → List ℤ
zeros im = replicate (length im.globals.items) (pos 0)

-- The run without arguments: the text is accepted and its image runs from zeros, and the answer has the lines of the
-- store with which it halts, or says that it is out of budget or why the text is refused.
abbrev pub RunsSourceTo : Lattice → List ℕ → ℕ → Answer → Type 0
RunsSourceTo l source budget =
    Runs (λ text. (im : Image) × IsCompiled (class_named l) (order l) Base source im
    × RunsTo im (zeros im) budget (Ok text))
    ((im : Image) × IsCompiled (class_named l) (order l) Base source im × IsSpent im (zeros im) budget)
    (TellsSource (IsCompileFault l Base source) l source)

-- `view`: the lines of that store that a class sees, or that the run is out of budget, or the first global whose class
-- the lattice lacks.
abbrev pub ViewsTo : Lattice → ℕ → Image → List ℤ → ℕ → Answer → Type 0
ViewsTo l class im words budget =
    Runs (λ text. Views (class_named l) (order l) class im words budget (view.Text text))
    (Views (class_named l) (order l) class im words budget view.OutOfBudget) (TellsFault (IsViewFault l im))

-- `compare`: the views that a class has of the runs from two stores, side by side, or the first global whose class the
-- lattice lacks.
abbrev pub ComparesTo : Lattice → ℕ → Image → List ℤ → List ℤ → ℕ → Result Comparison Unanswered → Type 0
ComparesTo l class im first second budget =
    Judges (Compares l class im first second budget) (TellsFault (IsViewFault l im))
