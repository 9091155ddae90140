-- The classes of declarations as a line of JSON, whose verdict is defined.
use Rattle.std.specs.Prelude.{◌≡◌, ℕ, Bool, true, false, List, codes}
use Rattle.serde_json.specs.Data.{Data}
use Rattle.vsi_lattice.specs.LatticeView.{class_named, order}
use Rattle.vsi_lattice.specs.declared.lattice.Lattice.{Lattice}
use Rattle.vsi_types.specs.declared.rules.Profile.{Profile}
use Rattle.vsi_compiler.specs.Acceptance.{IsAccepted}
use Rattle.vsi_conform.specs.Checking.{judgement_by, TellsRefused}
use Rattle.vsi_documents.specs.Objects.{verdict_line}

-- The text is accepted, and the line says so beside some objects.
pub record IsClassesJson (l : Lattice) (P : Profile) (text out : List ℕ) : Type 0 where
  pub accepted : IsAccepted (class_named l) (order l) P text
  pub objects : List Data
  pub line : out ≡ verdict_line true (codes "classes") objects

-- The line of an accepted text with its classes, or that of `check` for a refused one.
abbrev pub TellsClasses : Lattice → Profile → List ℕ → Bool → List ℕ → Type 0
TellsClasses l P text true out = IsClassesJson l P text out
TellsClasses l P text false out = TellsRefused l (judgement_by P) text out
