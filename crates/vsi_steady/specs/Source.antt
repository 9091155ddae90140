-- The promises about a text that is compiled to a steady image, and the meaning of a refusal.
use Rattle.std.specs.Prelude.{◌≡◌, ℕ, List, [], ◌⊎◌}
use Rattle.vsi_lattice.specs.Order.{Lattice}
use Rattle.vsi_lattice.specs.declared.lattice.Lattice as declared
use Rattle.vsi_lattice.specs.LatticeView.{class_named, order}
use Rattle.vsi_syntax.specs.Tree.{Whole}
use Rattle.vsi_lattice.specs.Known.{Known}
use Rattle.vsi_scope.specs.Language.{Command}
use Rattle.vsi_scope.specs.Program.{Resolved}
use Rattle.vsi_scope.specs.Resolving.{IsResolution}
use Rattle.vsi_types.specs.declared.rules.Profile.TheVariants.{Strict}
use Rattle.vsi_types.specs.declared.rules.Step.{Step}
use Rattle.vsi_types.specs.Security.{program, IsTypable}
use Rattle.vsi_types.specs.Walks.{IsBad}
use Rattle.vsi_infer.specs.Explanation.{explanation}
use Rattle.vsi_infer.specs.Inference.{IsShortest}
use Rattle.vsi_infer.specs.declared.inference.InferError.{InferError}
use Rattle.vsi_infer.specs.declared.inference.InferError.TheVariants as infer
use Rattle.vsi_image.specs.declared.instr.Image.{Image}
use Rattle.vsi_compiler.specs.declared.source.CompileError.{CompileError}
use Rattle.vsi_compiler.specs.declared.source.CompileError.TheVariants as compiler
use Rattle.vsi_compiler.specs.Acceptance.{program_of}
use Rattle.vsi_compiler.specs.Headline.{IsCompiled}
use Rattle.vsi_compiler.specs.Refusal.{RefusesProgram}
use Rattle.vsi_compiler.specs.Source.{Reads}
use Rattle.vsi_compiler.specs.Stands.{Stands}
use Rattle.vsi_steady.specs.declared.check.SteadyError.{SteadyError}
use Rattle.vsi_steady.specs.declared.check.SteadyError.TheVariants as steady
use Rattle.vsi_steady.specs.declared.source.UnsteadyError.{UnsteadyError}
use Rattle.vsi_steady.specs.declared.source.UnsteadyError.TheVariants as unsteady
use Rattle.vsi_steady.specs.Refusal.{Refuses}
use Rattle.vsi_steady.specs.Steady.{IsSteady}
use Rattle.vsi_steady.specs.Looped.{looped_program, IsLooped}

-- A tree reads the text, these commands are its resolution, and some choice of classes types the program strictly with
-- a loop in place of each choice.
pub record HasSteadyFlows (known : Known) (L : Lattice) (text : List ℕ) : Type 0 where
  pub tree : Whole
  pub commands : List Command
  pub reads : Reads text tree
  pub resolution : IsResolution known tree commands
  pub choice : List ℕ
  pub typable : IsTypable L Strict (looped_program (program_of known tree commands)) choice

-- The flows of the text are steady, and so is its image.
pub record IsSteadilyAccepted (known : Known) (L : Lattice) (text : List ℕ) : Type 0 where
  pub flows : HasSteadyFlows known L text
  pub image : Image
  pub compiled : IsCompiled known L Strict text image
  pub steady : IsSteady known L image

-- The text has a tree and its resolution, and with a loop in place of each choice, these steps are a strictly bad walk
-- and no such walk has fewer.
pub record HasShortestLoopedWalk (known : Known) (L : Lattice) (text : List ℕ) (steps : List Step) : Type 0 where
  pub tree : Whole
  pub commands : List Command
  pub reads : Reads text tree
  pub resolution : IsResolution known tree commands
  pub shortest : IsShortest L Strict (looped_program (program_of known tree commands)) steps

-- The flows of the text are steady, but its image is refused.
pub record HasRefusedImage (known : Known) (L : Lattice) (text : List ℕ) (e : SteadyError) : Type 0 where
  pub flows : HasSteadyFlows known L text
  pub image : Image
  pub compiled : IsCompiled known L Strict text image
  pub told : Refuses known L image e

-- The error for a refusal by the compiler.
abbrev pub compiling : CompileError → UnsteadyError
compiling compiler.Memory = unsteady.Memory
compiling e = unsteady.Compile e

-- The error for a refusal by the inference.
abbrev pub flowing : InferError → UnsteadyError
flowing infer.Memory = unsteady.Memory
flowing (infer.Refused walk) = unsteady.Compile (compiler.Flow walk)

-- The error for a refusal of an image.
abbrev pub judging : SteadyError → UnsteadyError
judging steady.Memory = unsteady.Memory
judging e = unsteady.Image e

-- The refusal is the first in the order text, tokens, tree, scopes, size, flow, image.
abbrev pub RefusesSteady : Known → Lattice → List ℕ → UnsteadyError → Type 0
RefusesSteady known L text unsteady.Memory = Unit {0}
RefusesSteady known L text (unsteady.Compile compiler.Memory) = ⊥
RefusesSteady known L text (unsteady.Compile (compiler.Lex e)) = RefusesProgram known text (compiler.Lex e)
RefusesSteady known L text (unsteady.Compile (compiler.Parse e)) = RefusesProgram known text (compiler.Parse e)
RefusesSteady known L text (unsteady.Compile (compiler.Scope e)) = RefusesProgram known text (compiler.Scope e)
RefusesSteady known L text (unsteady.Compile (compiler.Flow walk)) =
    HasShortestLoopedWalk known L text walk.steps.items
RefusesSteady known L text (unsteady.Image steady.Memory) = ⊥
RefusesSteady known L text (unsteady.Image (steady.UnknownClass i)) =
    HasRefusedImage known L text (steady.UnknownClass i)
RefusesSteady known L text (unsteady.Image (steady.Flow place)) = HasRefusedImage known L text (steady.Flow place)

-- The steps are a strictly bad walk with a loop in place of each choice, and this is their explanation.
pub record IsLoopedExplained (l : declared.Lattice) (text : List ℕ) (steps : List Step) (out : List ℕ) : Type 0 where
  pub resolved : Resolved
  pub stands : Stands (class_named l) text resolved
  pub looped : Resolved
  pub loops : IsLooped resolved looped
  pub bad : IsBad (order l) Strict (program looped) steps
  pub lines : out ≡ explanation l text looped steps

-- The steps are no such walk of the text, and there is no explanation.
pub record IsLoopedUnexplained (l : declared.Lattice) (text : List ℕ) (steps : List Step) (out : List ℕ)
    : Type 0 where
  pub harmless : (r looped : Resolved) → Stands (class_named l) text r → IsLooped r looped →
      ¬ (IsBad (order l) Strict (program looped) steps)
  pub nothing : out ≡ []

-- A bad walk is explained, and no other walk is.
abbrev pub ExplainsLoopedWalk : declared.Lattice → List ℕ → List Step → List ℕ → Type 0
ExplainsLoopedWalk l text steps out =
    IsLoopedExplained l text steps out ⊎ IsLoopedUnexplained l text steps out
