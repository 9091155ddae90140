-- The answers when a text is compiled and run.
use Rattle.std.specs.Prelude.{◌≡◌, ◌≢◌, ℕ, ℤ, List, length, Some}
use Rattle.vsi_lattice.specs.Order.{Lattice}
use Rattle.vsi_lattice.specs.Known.{Known}
use Rattle.vsi_types.specs.declared.rules.Profile.TheVariants.{Base}
use Rattle.vsi_image.specs.declared.instr.Image.{Image}
use Rattle.vsi_image.specs.Meaning.{State}
use Rattle.vsi_machine.specs.declared.interpreter.Outcome.{Outcome}
use Rattle.vsi_machine.specs.declared.interpreter.StartError.{StartError}
use Rattle.vsi_machine.specs.declared.interpreter.StartError.TheVariants as start
use Rattle.vsi_machine.specs.Runs.{outcome_of, globals_of, run_of}
use Rattle.vsi_compiler.specs.declared.source.CompileError.{CompileError}
use Rattle.vsi_compiler.specs.declared.source.CompileError.TheVariants as compiler
use Rattle.vsi_compiler.specs.declared.run.RunError.{RunError}
use Rattle.vsi_compiler.specs.declared.run.RunError.TheVariants.{Compile, Start, Memory}
use Rattle.vsi_compiler.specs.Headline.{IsCompiled}
use Rattle.vsi_compiler.specs.Observation.{IsStoreOf}
use Rattle.vsi_compiler.specs.Refusal.{IsRefused}

-- A refusal of the compiler.
abbrev pub compiling : CompileError → RunError
compiling compiler.Memory = Memory
compiling e = Compile e

-- A machine that couldn't be started.
abbrev pub starting : StartError → RunError
starting start.Memory = Memory
starting e = Start e

-- The text is compiled, the store has one word per global, and the image's run from it with this budget has this end.
pub record Ran (known : Known) (L : Lattice) (text : List ℕ) (store : List ℤ) (budget : ℕ) (outcome : Outcome)
    (words : List ℤ) : Type 0 where
  pub image : Image
  pub compiled : IsCompiled known L Base text image
  pub fits : IsStoreOf image store
  pub last : State
  pub reached : run_of image store budget ≡ Some last
  pub ends : outcome ≡ outcome_of last
  pub globals : words ≡ globals_of image last

-- The text is compiled, and the store doesn't have one word per global.
pub record HasWrongStore (known : Known) (L : Lattice) (text : List ℕ) (store : List ℤ) (words : ℕ) : Type 0 where
  pub image : Image
  pub compiled : IsCompiled known L Base text image
  pub wrong : length store ≢ length image.globals.items
  pub told : words ≡ length store

-- A refusal of a run: the text isn't accepted, or the store doesn't have one word per global.
abbrev pub RefusesRun : Known → Lattice → List ℕ → List ℤ → RunError → Type 0
RefusesRun known L text store Memory = Unit {0}
RefusesRun known L text store (Compile e) = IsRefused known L Base text e
RefusesRun known L text store (Start start.Memory) = ⊥
RefusesRun known L text store (Start (start.WrongStore n)) = HasWrongStore known L text store n
