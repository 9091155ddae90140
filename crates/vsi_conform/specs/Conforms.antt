-- When a text conforms to an interface, and what is reported for one that doesn't.
use Rattle.std.specs.Global.{Vec}
use Rattle.std.specs.Prelude.{◌≡◌, ◌≢◌, ℕ, ◌⊎◌, true, List, [], ◌∷◌, Option, Some, None}
use Rattle.vsi_lattice.specs.Order.{Lattice}
use Rattle.vsi_lattice.specs.declared.lattice.Lattice as named
use Rattle.vsi_lattice.specs.LatticeView.{class_named, order}
use Rattle.vsi_lattice.specs.Known.{Known}
use Rattle.vsi_types.specs.declared.rules.Profile.{Profile}
use Rattle.vsi_types.specs.declared.rules.Profile.TheVariants as profile
use Rattle.vsi_image.specs.declared.instr.Image.{Image}
use Rattle.vsi_image.specs.Fields.{globals}
use Rattle.vsi_image.specs.Meaning.{State}
use Rattle.vsi_machine.specs.Runs.{globals_of, run_of}
use Rattle.vsi_compiler.specs.Headline as compiler
use Rattle.vsi_compiler.specs.Readable.{HasProgram}
use Rattle.vsi_compiler.specs.Refusal as refusal
use Rattle.vsi_steady.specs.Source.{HasSteadyFlows, IsSteadilyAccepted, RefusesSteady}
use Rattle.vsi_steady.specs.Steady.{IsSteady}
use Rattle.vsi_steady.specs.declared.source.UnsteadyError.{UnsteadyError}
use Rattle.vsi_steady.specs.declared.source.UnsteadyError.TheVariants as unsteady
use Rattle.vsi_conform.specs.declared.interface.Interface.{Interface}
use Rattle.vsi_conform.specs.declared.interface.Judgement.{Judgement}
use Rattle.vsi_conform.specs.declared.interface.Judgement.TheVariants.{Base, Strict, Steady}
use Rattle.vsi_conform.specs.declared.interface.Trial.{Trial}
use Rattle.vsi_conform.specs.declared.interface.Answer.{Answer}
use Rattle.vsi_conform.specs.declared.interface.Point.{Point}
use Rattle.vsi_conform.specs.Asked.{HasGlobals, HasWords}
use Rattle.vsi_conform.specs.Bounded.{FaultsBound, IsBoundedAs, ReportsBound, demands_bound}
use Rattle.vsi_conform.specs.Points.{entries, points_of, words_of}

-- ---- the runs.

-- A run halts within its budget with the expected words.
pub record EndsAsAsked (image : Image) (t : Trial) : Type 0 where
  pub last : State
  pub reached : run_of image (words_of image t) t.budget ≡ Some last
  pub halted : last.halted ≡ true
  pub words : HasWords (globals image.globals.items) (globals_of image last) (entries t.expect.items)

-- Each of these runs ends so.
abbrev pub AllEndAsAsked : Image → List Trial → Type 0
AllEndAsAsked image [] = Unit {0}
AllEndAsAsked image (t ∷ ts) = EndsAsAsked image t × AllEndAsAsked image ts

-- An image has the globals, the runs and the bound that an interface requires.
pub record Fits (i : Interface) (image : Image) : Type 0 where
  pub globals : HasGlobals i.is_ordered (globals i.globals.items) (globals image.globals.items)
  pub trials : AllEndAsAsked image i.trials.items
  pub bound : IsBoundedAs i.bounded image

-- ---- the judgement.

-- The image is compiled from a text that is accepted under a profile.
abbrev pub IsCompiled : Known → Lattice → Profile → List ℕ → Image → Type 0
IsCompiled = compiler.IsCompiled

-- The image is compiled from a text with steady flows, and is steady.
pub record IsSteadilyCompiled (known : Known) (L : Lattice) (text : List ℕ) (image : Image) : Type 0 where
  pub compiled : compiler.IsCompiled known L profile.Strict text image
  pub flows : HasSteadyFlows known L text
  pub steady : IsSteady known L image

-- The image is compiled from a text that is accepted as required.
abbrev pub IsAcceptedAs : Known → Lattice → Judgement → List ℕ → Image → Type 0
IsAcceptedAs known L Base text image = IsCompiled known L profile.Base text image
IsAcceptedAs known L Strict text image = IsCompiled known L profile.Strict text image
IsAcceptedAs known L Steady text image = IsSteadilyCompiled known L text image

-- The text conforms to the interface: it is accepted as required, and its image fits.
pub record Conforms (l : named.Lattice) (text : List ℕ) (i : Interface) : Type 0 where
  pub image : Image
  pub accepted : IsAcceptedAs (class_named l) (order l) i.judgement text image
  pub fits : Fits i image

-- ---- the answer.

-- The text isn't accepted under the profile, and this is its refusal.
abbrev pub IsRefused : Known → Lattice → Profile → List ℕ → UnsteadyError → Type 0
IsRefused known L P text (unsteady.Compile e) = refusal.IsRefused known L P text e
IsRefused known L P text (unsteady.Image e) = ⊥
IsRefused known L P text unsteady.Memory = ⊥

-- The text isn't accepted with a steady image, and this is its refusal, for a reason other than memory.
pub record IsSteadilyRefused (known : Known) (L : Lattice) (text : List ℕ) (e : UnsteadyError) : Type 0 where
  pub other : e ≢ unsteady.Memory
  pub told : RefusesSteady known L text e
  pub unaccepted : ¬ (IsSteadilyAccepted known L text)

-- The text isn't accepted as required, and this is its refusal.
abbrev pub IsRefusedAs : Known → Lattice → Judgement → List ℕ → UnsteadyError → Type 0
IsRefusedAs known L Base text e = IsRefused known L profile.Base text e
IsRefusedAs known L Strict text e = IsRefused known L profile.Strict text e
IsRefusedAs known L Steady text e = IsSteadilyRefused known L text e

-- These are the points of the one image that the text has when its flows aren't judged, and the report about its bound.
pub record TellsImage (known : Known) (text : List ℕ) (i : Interface) (ps : List Point) (line : Option (Vec ℕ))
    : Type 0 where
  pub image : Image
  pub globals : compiler.HasGlobals text image
  pub meaning : compiler.KeepsMeaning known text image
  pub code : compiler.IsImageOf known text image
  pub points : ps ≡ points_of image i
  pub bound : ReportsBound i.bounded image line

-- The text has no program, and nothing is reported of an image.
pub record TellsNothing (known : Known) (text : List ℕ) (ps : List Point) (line : Option (Vec ℕ)) : Type 0 where
  pub unreadable : ¬ (HasProgram known text)
  pub nothing : ps ≡ []
  pub boundless : line ≡ None

-- The points of a refused text, and the report about its bound.
abbrev pub TellsReadable : Known → List ℕ → Interface → List Point → Option (Vec ℕ) → Type 0
TellsReadable known text i ps line = TellsImage known text i ps line ⊎ TellsNothing known text ps line

-- The points of an accepted text are those of its image, as is the report about its bound.
pub record TellsAccepted (l : named.Lattice) (text : List ℕ) (i : Interface) (ps : List Point) (line : Option (Vec ℕ))
    : Type 0 where
  pub image : Image
  pub accepted : IsAcceptedAs (class_named l) (order l) i.judgement text image
  pub points : ps ≡ points_of image i
  pub bound : ReportsBound i.bounded image line

-- A refused text has its refusal and, if it has a program, the points of its image and the report about its bound.
pub record TellsRefused (l : named.Lattice) (text : List ℕ) (i : Interface) (e : UnsteadyError)
    (ps : List Point) (line : Option (Vec ℕ)) : Type 0 where
  pub refused : IsRefusedAs (class_named l) (order l) i.judgement text e
  pub points : TellsReadable (class_named l) text i ps line

-- The answer with or without a refusal is correct.
abbrev pub TellsBoth : named.Lattice → List ℕ → Interface → Option UnsteadyError → List Point → Option (Vec ℕ) → Type 0
TellsBoth l text i None ps line = TellsAccepted l text i ps line
TellsBoth l text i (Some e) ps line = TellsRefused l text i e ps line

-- The answer is correct.
abbrev pub Tells : named.Lattice → List ℕ → Interface → Answer → Type 0
Tells l text i a = TellsBoth l text i a.refusal a.points.items a.unbounded

-- A bound is required, and this line says why the bound of the text's image isn't as required.
pub record IsUnbounded (l : named.Lattice) (text : List ℕ) (i : Interface) (line : List ℕ) : Type 0 where
  pub required : demands_bound i.bounded ≡ true
  pub image : Image
  pub is_image : compiler.IsImageOf (class_named l) text image
  pub faults : FaultsBound i.bounded image line
