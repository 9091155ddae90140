-- The verdict that a page shows first.
use Rattle.std.specs.Prelude.{◌≡◌, ◌≢◌, ℕ, List}
use Rattle.vsi_lattice.specs.declared.lattice.Lattice.{Lattice}
use Rattle.vsi_lattice.specs.LatticeView.{class_named, order}
use Rattle.vsi_types.specs.declared.rules.Profile.{Profile}
use Rattle.vsi_types.specs.declared.rules.Step.{Step}
use Rattle.vsi_compiler.specs.Acceptance.{IsAccepted}
use Rattle.vsi_compiler.specs.Refusal.{HasShortestBadWalk, RefusesProgram}
use Rattle.vsi_compiler.specs.declared.source.CompileError.{CompileError}
use Rattle.vsi_compiler.specs.declared.source.CompileError.TheVariants.{Memory, Lex, Parse, Scope, Flow}
use Rattle.vsi_report.specs.Banner.{HasBanner}
use Rattle.vsi_report.specs.Lead.{TellsAllowed, TellsRefusal}
use Rattle.vsi_report.specs.declared.page.Verdict.{Verdict}
use Rattle.vsi_report.specs.declared.page.Verdict.TheVariants.{Accepted, Refused, NoProgram, Unjudged}

-- The steps of a walk for which the text is refused, such that no such walk has fewer steps.
pub record HasRefusal (l : Lattice) (P : Profile) (text : List ℕ) : Type 0 where
  pub steps : List Step
  pub walk : HasShortestBadWalk (class_named l) (order l) P text steps

-- The verdict for a refusal before the flows are judged: a text with a fault of its names or its size is a program.
abbrev pub verdict_of : CompileError → Verdict
verdict_of (Scope e) = Unjudged
verdict_of (Lex e) = NoProgram
verdict_of (Parse e) = NoProgram
verdict_of (Flow walk) = NoProgram
verdict_of Memory = NoProgram

-- A reason for which the flows of the text aren't judged; it has this verdict.
pub record HasFault (l : Lattice) (text : List ℕ) (v : Verdict) : Type 0 where
  pub error : CompileError
  pub other : error ≢ Memory
  pub reason : RefusesProgram (class_named l) text error
  pub shown : verdict_of error ≡ v

-- The verdict is that of the compiler.
abbrev pub IsVerdict : Lattice → Profile → List ℕ → Verdict → Type 0
IsVerdict l P text Accepted = IsAccepted (class_named l) (order l) P text
IsVerdict l P text Refused = HasRefusal l P text
IsVerdict l P text NoProgram = HasFault l text NoProgram
IsVerdict l P text Unjudged = HasFault l text Unjudged

-- The first sentences of the banner are true of the text; a text whose flows aren't judged has none.
abbrev pub Tells : Lattice → Profile → List ℕ → List ℕ → Verdict → Type 0
Tells l P text page Accepted = TellsAllowed l P text page
Tells l P text page Refused = TellsRefusal l P text page
Tells l P text page NoProgram = Unit {0}
Tells l P text page Unjudged = Unit {0}

-- The first thing that a page shows is the banner for the verdict of the compiler about the text.
pub record HasVerdict (l : Lattice) (P : Profile) (text page : List ℕ) : Type 0 where
  pub verdict : Verdict
  pub is : IsVerdict l P text verdict
  pub banner : HasBanner verdict page
  pub told : Tells l P text page verdict
