-- The lines of the classes of a program's declarations.
use Rattle.std.specs.Prelude.{◌≡◌, ℕ, List, [], ◌∷◌, ◌++◌, codes, slice_get, unwrap_or}
use Rattle.vsi_syntax.specs.declared.token.Span.{Span}
use Rattle.vsi_syntax.specs.Lines.{place_text}
use Rattle.vsi_syntax.specs.Tree.{Whole, Declared}
use Rattle.vsi_lattice.specs.Order.{Lattice}
use Rattle.vsi_lattice.specs.Known.{Known}
use Rattle.vsi_scope.specs.Language.{Command}
use Rattle.vsi_scope.specs.Resolving.{Variable, all_variables, IsResolution}
use Rattle.vsi_types.specs.declared.rules.Profile.{Profile}
use Rattle.vsi_infer.specs.Inference.{IsLeast}
use Rattle.vsi_compiler.specs.Source.{Reads}
use Rattle.vsi_compiler.specs.Acceptance.{program_of}

-- `LINE:COLUMN NAME : CLASS` and a line feed, for a name with this span.
abbrev pub class_line : List ℕ → Span → List ℕ → List ℕ → List ℕ
class_line text span name class =
    place_text text span.start ++ codes " " ++ name ++ codes " : " ++ class ++ 10 ∷ []

-- A line for each global, with its declared class.
abbrev pub global_lines : List ℕ → List Declared → List ℕ
global_lines text [] = []
global_lines text (g ∷ gs) = class_line text g.name.span g.name.text g.class.text ++ global_lines text gs

-- A line for each letvar, with the name of the class that was chosen for it.
abbrev pub letvar_lines : List ℕ → List (List ℕ) → List Variable → List ℕ → List ℕ
letvar_lines text names [] cs = []
letvar_lines text names (v ∷ vs) [] = []
letvar_lines text names (v ∷ vs) (c ∷ cs) =
    class_line text v.span v.name (unwrap_or (slice_get names c) []) ++ letvar_lines text names vs cs

-- The lines of the least choice of classes for the program of the text.
pub record IsClassText (known : Known) (L : Lattice) (P : Profile) (names : List (List ℕ)) (text out : List ℕ) : Type
    0 where
  pub tree : Whole
  pub commands : List Command
  pub reads : Reads text tree
  pub resolution : IsResolution known tree commands
  pub choice : List ℕ
  pub least : IsLeast L P (program_of known tree commands) choice
  pub lines : out ≡ global_lines text tree.globals ++ letvar_lines text names (all_variables known tree.body) choice
