-- The lines of an answer.
use Rattle.std.specs.Prelude.{◌≡◌, ℕ, ℤ, Bool, true, false, List, [], ◌∷◌, ◌++◌, codes, decimal, Option, Some, None}
use Rattle.std.specs.Fmt.{signed_decimal}
use Rattle.std.specs.Global.{Vec}
use Rattle.std.specs.List.{flat_map}
use Rattle.vsi_syntax.specs.Tree.{Declared}
use Rattle.vsi_lattice.specs.declared.lattice.Lattice.{Lattice}
use Rattle.vsi_compiler.specs.declared.source.CompileError.{CompileError}
use Rattle.vsi_compiler.specs.declared.source.CompileError.TheVariants as compiler
use Rattle.vsi_steady.specs.declared.source.UnsteadyError.{UnsteadyError}
use Rattle.vsi_steady.specs.declared.source.UnsteadyError.TheVariants as unsteady
use Rattle.vsi_answers.specs.Texts.{IsRefusalText}
use Rattle.vsi_answers.specs.Judged.{IsImageText, IsLoopedText}
use Rattle.vsi_conform.specs.declared.interface.Interface.{Interface}
use Rattle.vsi_conform.specs.declared.interface.Judgement.{Judgement}
use Rattle.vsi_conform.specs.declared.interface.Judgement.TheVariants.{Base, Strict, Steady}
use Rattle.vsi_conform.specs.declared.interface.Answer.{Answer}
use Rattle.vsi_conform.specs.declared.rows.Kind.{Kind}
use Rattle.vsi_conform.specs.declared.rows.Kind.TheVariants as kind
use Rattle.vsi_conform.specs.Rows.{Detail, Row, Lines, Global, Spent, Ended, rows_of, text_held, word_of}
use Rattle.vsi_conform.specs.Shown.{Declares}

-- ---- the line of a point.

-- `LINE:COLUMN ` if there is a position.
abbrev pub begun : Option (ℕ × ℕ) → List ℕ
begun None = []
begun (Some place) = decimal place.0 ++ codes ":" ++ decimal place.1 ++ codes " "

-- ` : CLASS`. A point about the order names no class.
abbrev pub class_text : Kind → List ℕ → List ℕ
class_text kind.Refused class = codes " : " ++ class
class_text kind.Missing class = codes " : " ++ class
class_text kind.Unexpected class = codes " : " ++ class
class_text kind.Class class = codes " : " ++ class
class_text kind.Order class = []
class_text kind.Budget class = codes " : " ++ class
class_text kind.Word class = codes " : " ++ class
class_text kind.Bound class = codes " : " ++ class

-- `, expected NAME` or `, expected CLASS`, if anything is expected.
abbrev pub expected_text : Option (List ℕ) → List ℕ
expected_text None = []
expected_text (Some e) = codes ", expected " ++ e

-- `run N`
abbrev pub run_text : ℕ → List ℕ
run_text run = codes "run " ++ decimal run

-- The budget of a run.
abbrev pub budget_text : Option ℕ → List ℕ
budget_text None = []
budget_text (Some budget) = decimal budget

-- ` NAME = NUMBER`, or ` no NAME`.
abbrev pub found_text : List ℕ → Option ℤ → List ℕ
found_text name None = codes " no " ++ name
found_text name (Some word) = codes " " ++ name ++ codes " = " ++ signed_decimal word

-- `KIND NAME : CLASS, expected CLASS`, with the word of the kind.
abbrev pub global_text : Kind → List ℕ → List ℕ → Option (List ℕ) → List ℕ
global_text k name class expected =
    (word_of k ++ codes " " ++ name) ++ class_text k class ++ expected_text expected ++ codes "\n"

-- The lines; the global; `run N out of budget BUDGET`; or `run N NAME = NUMBER, expected NUMBER`.
abbrev pub detail_text : Kind → Detail → List ℕ
detail_text k (Lines lines) = lines
detail_text k (Global name class expected) = global_text k name class expected
detail_text k (Spent run budget) = run_text run ++ codes " out of budget " ++ budget_text budget ++ codes "\n"
detail_text k (Ended run name expected found) =
    run_text run ++ found_text name found ++ codes ", expected " ++ signed_decimal expected ++ codes "\n"

-- The line of a row.
abbrev pub line : Row → List ℕ
line r = begun r.place ++ detail_text r.kind r.detail

-- ---- the refusal.

-- The text of a refusal by the compiler, where choices are judged as loops or not.
abbrev pub IsCompileText : Lattice → List ℕ → Bool → CompileError → List ℕ → Type 0
IsCompileText l text false e out = IsRefusalText l text e out
IsCompileText l text true (compiler.Flow walk) out = IsLoopedText l text walk.steps.items out
IsCompileText l text true (compiler.Lex e) out = IsRefusalText l text (compiler.Lex e) out
IsCompileText l text true (compiler.Parse e) out = IsRefusalText l text (compiler.Parse e) out
IsCompileText l text true (compiler.Scope e) out = IsRefusalText l text (compiler.Scope e) out
IsCompileText l text true compiler.Memory out = IsRefusalText l text compiler.Memory out

-- The lines of a refusal.
abbrev pub IsRefusalLines : Lattice → List ℕ → Bool → UnsteadyError → List ℕ → Type 0
IsRefusalLines l text is_steady (unsteady.Compile e) out = IsCompileText l text is_steady e out
IsRefusalLines l text is_steady (unsteady.Image e) out = IsImageText l text e out
IsRefusalLines l text is_steady unsteady.Memory out = ⊥

-- The judgement requires a steady image.
abbrev pub is_steady : Judgement → Bool
is_steady Base = false
is_steady Strict = false
is_steady Steady = true

-- The lines of the refusal, if there is one.
abbrev pub AreFirst : Lattice → List ℕ → Interface → Option UnsteadyError → Option (Vec ℕ) → Type 0
AreFirst l text i None None = Unit {0}
AreFirst l text i None (Some lines) = ⊥
AreFirst l text i (Some e) None = ⊥
AreFirst l text i (Some e) (Some lines) = IsRefusalLines l text (is_steady i.judgement) e lines.items

-- ---- the whole answer.

-- These are the rows of an answer: of the refusal, of each point, with the globals that the text declares, and of the
-- bound. There are none exactly if nothing differs.
pub record AreTextRows (l : Lattice) (text : List ℕ) (i : Interface) (a : Answer) (rows : List Row) : Type 0 where
  pub globals : List Declared
  pub declares : Declares text globals
  pub first : Option (Vec ℕ)
  pub refusal : AreFirst l text i a.refusal first
  pub are : rows ≡ rows_of i (text_held text globals) first a.points.items a.unbounded
