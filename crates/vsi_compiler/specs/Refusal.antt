-- The facts that a refusal states about the text.
use Rattle.std.specs.Prelude.{◌≢◌, ℕ, ◌≤◌, List, length}
use Rattle.vsi_syntax.specs.Limits.{max_text_length}
use Rattle.vsi_lattice.specs.Order.{Lattice}
use Rattle.vsi_scope.specs.Language.{Command}
use Rattle.vsi_types.specs.declared.rules.Profile.{Profile}
use Rattle.vsi_types.specs.declared.rules.Step.{Step}
use Rattle.vsi_types.specs.Security.{Program}
use Rattle.vsi_infer.specs.Inference.{IsShortest}
use Rattle.vsi_syntax.specs.Cut as cut
use Rattle.vsi_syntax.specs.Tree.{Whole}
use Rattle.vsi_compiler.specs.declared.source.CompileError.{CompileError}
use Rattle.vsi_compiler.specs.declared.source.CompileError.TheVariants.{Lex, Parse, Scope, Flow, Memory}
use Rattle.vsi_syntax.specs.declared.lexer.LexError.TheVariants as lexer
use Rattle.vsi_syntax.specs.declared.parser.ParseError.TheVariants as parser
use Rattle.vsi_scope.specs.declared.resolution.ScopeError.TheVariants as scope
use Rattle.vsi_lattice.specs.Known.{Known}
use Rattle.vsi_scope.specs.Resolving.{ExplainsScope, IsResolution}
use Rattle.vsi_compiler.specs.Source.{Reads}
use Rattle.vsi_compiler.specs.Acceptance.{IsAccepted, program_of}

-- The text is within its limit and has a cut, and no tree reads it.
pub record HasNoTree (text : List ℕ) : Type 0 where
  pub short : length text ≤ max_text_length
  pub tokens : List cut.Piece
  pub cut : cut.IsCut text tokens
  pub treeless : (tree : Whole) → ¬ (Reads text tree)

-- A refusal of the lexer or the parser; lack of memory is always the compiler's `Memory`.
abbrev pub RefusesTree : List ℕ → CompileError → Type 0
RefusesTree text Memory = Unit {0}
RefusesTree text (Lex e) = (e ≢ lexer.Memory) × cut.ExplainsText text e
RefusesTree text (Parse e) = (e ≢ parser.Memory) × HasNoTree text
RefusesTree text (Scope e) = ⊥
RefusesTree text (Flow walk) = ⊥

-- A refusal of the lexer, the parser or the scope checks.
abbrev pub RefusesProgram : Known → List ℕ → CompileError → Type 0
RefusesProgram known text Memory = Unit {0}
RefusesProgram known text (Lex e) = RefusesTree text (Lex e)
RefusesProgram known text (Parse e) = RefusesTree text (Parse e)
RefusesProgram known text (Scope e) = (e ≢ scope.Memory)
    × ((tree : Whole) × Reads text tree × ExplainsScope known tree e)
RefusesProgram known text (Flow walk) = ⊥

-- The text has a tree and a resolution of it, these steps are a bad walk of it, and no bad walk has fewer steps.
pub record HasShortestBadWalk (known : Known) (L : Lattice) (P : Profile) (text : List ℕ)
    (steps : List Step) : Type 0 where
  pub tree : Whole
  pub commands : List Command
  pub reads : Reads text tree
  pub resolution : IsResolution known tree commands
  pub shortest : IsShortest L P (program_of known tree commands) steps

-- A refusal of a readable program: lack of memory, or a bad walk such that no bad walk has fewer steps.
abbrev pub RefusesFlow : Lattice → Profile → Program → CompileError → Type 0
RefusesFlow L P p Memory = Unit {0}
RefusesFlow L P p (Lex e) = ⊥
RefusesFlow L P p (Parse e) = ⊥
RefusesFlow L P p (Scope e) = ⊥
RefusesFlow L P p (Flow walk) = IsShortest L P p walk.steps.items

-- A refusal of the compiler: the first in the order text, tokens, tree, scopes, size, flow.
abbrev pub Refuses : Known → Lattice → Profile → List ℕ → CompileError → Type 0
Refuses known L P text Memory = Unit {0}
Refuses known L P text (Lex e) = RefusesProgram known text (Lex e)
Refuses known L P text (Parse e) = RefusesProgram known text (Parse e)
Refuses known L P text (Scope e) = RefusesProgram known text (Scope e)
Refuses known L P text (Flow walk) = HasShortestBadWalk known L P text walk.steps.items

-- A refusal of the compiler for another reason than lack of memory, of a text that isn't accepted.
pub record IsRefused (known : Known) (L : Lattice) (P : Profile) (text : List ℕ) (e : CompileError) : Type 0 where
  pub other : e ≢ Memory
  pub told : Refuses known L P text e
  pub unaccepted : ¬ (IsAccepted known L P text)
