-- The image behaves like the body.
use Rattle.std.specs.Prelude.{◌≡◌, ℕ, ◌≤◌, length, take, Some, true}
use Rattle.vsi_image.specs.declared.instr.Image.{Image}
use Rattle.vsi_image.specs.Meaning.{State, after, start}
use Rattle.vsi_scope.specs.Language.{Command}
use Rattle.vsi_scope.specs.Meaning.{Store, Evaluates}

-- The run from a store with this budget has halted, with these words in the globals.
pub record Halts (image : Image) (globals : ℕ) (m : Store) (budget : ℕ) (m' : Store) : Type 0 where
  pub state : State
  pub reached : after image.code.items budget (start image m) ≡ Some state
  pub halted : state.halted ≡ true
  pub words : take globals state.slots ≡ m'

-- From each store with one word per global, a run that halts ends in a store to which the body evaluates, and each
-- evaluation of the body is reached with some budget and every larger one.
pub record Behaves (globals : ℕ) (c : Command) (image : Image) : Type 0 where
  pub sound : (m m' : Store) (budget : ℕ) → length m ≡ globals →
      Halts image globals m budget m' → Evaluates c m m'
  pub complete : (m m' : Store) → length m ≡ globals →
      Evaluates c m m' → (b : ℕ) × ((budget : ℕ) → b ≤ budget → Halts image globals m budget m')
