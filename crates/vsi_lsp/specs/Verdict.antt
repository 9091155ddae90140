-- The verdict on a text that is typed.
use Rattle.std.specs.Prelude.{◌≡◌, ◌≢◌, ◌↔◌, ℕ, List, [], ◌++◌, All}
use Rattle.serde_json.specs.declared.value.Value.{Value}
use Rattle.vsi_lattice.specs.LatticeView.{class_named, order}
use Rattle.vsi_lattice.specs.declared.lattice.Lattice.{Lattice}
use Rattle.vsi_types.specs.declared.rules.Profile.{Profile}
use Rattle.vsi_compiler.specs.Acceptance.{IsAccepted}
use Rattle.vsi_compiler.specs.Readable.{HasProgram}
use Rattle.vsi_lsp.specs.Severity.{IsError, IsWarning}

-- The objects are errors, of which there is none exactly if the text is accepted under the profile, and then others,
-- which are warnings if the text has a program.
pub record ShowsVerdict (l : Lattice) (P : Profile) (text : List ℕ) (objects : List Value) : Type 0 where
  pub errors : List Value
  pub others : List Value
  pub listed : objects ≡ errors ++ others
  pub exact : (errors ≡ []) ↔ IsAccepted (class_named l) (order l) P text
  pub severe : All IsError errors
  pub warned : HasProgram (class_named l) text → All IsWarning others

-- The objects are errors, of which there is one, and then others.
pub record BeginsWithErrors (objects : List Value) : Type 0 where
  pub errors : List Value
  pub others : List Value
  pub listed : objects ≡ errors ++ others
  pub some : errors ≢ []
  pub severe : All IsError errors
