-- The explanation of a walk.
use Rattle.std.specs.Prelude.{◌≡◌, ℕ, List, [], ◌⊎◌}
use Rattle.vsi_lattice.specs.declared.lattice.Lattice.{Lattice}
use Rattle.vsi_lattice.specs.LatticeView.{class_named, order}
use Rattle.vsi_scope.specs.Program.{Resolved}
use Rattle.vsi_types.specs.declared.rules.Profile.TheVariants.{Strict}
use Rattle.vsi_types.specs.declared.rules.Step.{Step}
use Rattle.vsi_types.specs.Security.{program}
use Rattle.vsi_types.specs.Walks.{IsBad}
use Rattle.vsi_infer.specs.Explanation.{explanation}
use Rattle.vsi_compiler.specs.Stands.{Stands}

-- The steps are a bad walk of the text's program under the strict profile, and this is their explanation.
pub record IsExplained (l : Lattice) (text : List ℕ) (steps : List Step) (out : List ℕ) : Type 0 where
  pub resolved : Resolved
  pub stands : Stands (class_named l) text resolved
  pub bad : IsBad (order l) Strict (program resolved) steps
  pub lines : out ≡ explanation l text resolved steps

-- The steps are not a bad walk of the text, and the explanation is empty.
pub record IsUnexplained (l : Lattice) (text : List ℕ) (steps : List Step) (out : List ℕ) : Type 0 where
  pub harmless : (r : Resolved) → Stands (class_named l) text r → ¬ (IsBad (order l) Strict (program r) steps)
  pub nothing : out ≡ []

-- A bad walk is explained, and any other walk is not.
abbrev pub ExplainsWalk : Lattice → List ℕ → List Step → List ℕ → Type 0
ExplainsWalk l text steps out = IsExplained l text steps out ⊎ IsUnexplained l text steps out
