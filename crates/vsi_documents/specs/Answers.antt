-- The answer of `mend` as a line of JSON.
use Rattle.std.specs.Prelude.{◌≢◌, ℕ, Bool, true, false, List}
use Rattle.vsi_lattice.specs.declared.lattice.Lattice.{Lattice}
use Rattle.vsi_types.specs.declared.rules.Profile.{Profile}
use Rattle.vsi_compiler.specs.declared.source.CompileError.{CompileError}
use Rattle.vsi_compiler.specs.declared.source.CompileError.TheVariants.{Memory}
use Rattle.vsi_flows.specs.Answers.{RefusesRaise}
use Rattle.vsi_conform.specs.Checking.{judgement_by, TellsAnswer, TellsRefused}
use Rattle.vsi_documents.specs.Json.{IsRaisesJson}

-- There are no raises: the text has no program, or no raise serves.
pub record HasNoRaises (l : Lattice) (P : Profile) (source : List ℕ) : Type 0 where
  pub error : CompileError
  pub other : error ≢ Memory
  pub refused : RefusesRaise l P source error

-- The line has the verdict of `check`, and the least raises.
pub record TellsRaises (l : Lattice) (P : Profile) (source out : List ℕ) : Type 0 where
  pub accepted : Bool
  pub checked : List ℕ
  pub judged : TellsAnswer l (judgement_by P) source accepted checked
  pub raises : IsRaisesJson l P source accepted out

-- There are no raises, and the line is that of `check` for the refused text.
pub record TellsUnserved (l : Lattice) (P : Profile) (source out : List ℕ) : Type 0 where
  pub none : HasNoRaises l P source
  pub refused : TellsRefused l (judgement_by P) source out

-- The answer for a text that raises serve, or that they don't.
abbrev pub TellsMended : Lattice → Profile → List ℕ → Bool → List ℕ → Type 0
TellsMended l P source true out = TellsRaises l P source out
TellsMended l P source false out = TellsUnserved l P source out
