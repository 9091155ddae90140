-- The texts of refusals.
use Rattle.std.specs.Prelude.{◌≡◌, ℕ, List, [], ◌++◌, codes, Option, Some, None}
use Rattle.vsi_lattice.specs.declared.lattice.Lattice.{Lattice}
use Rattle.vsi_compiler.specs.Explaining.{ExplainsWalk}
use Rattle.vsi_compiler.specs.declared.source.CompileError.{CompileError}
use Rattle.vsi_compiler.specs.declared.source.CompileError.TheVariants as compiler
use Rattle.vsi_answers.specs.Diagnostic.{Diagnostic, line_text}
use Rattle.vsi_answers.specs.Source.{refusal_diagnostic}

-- The line of a refusal, or the text that is printed if memory ran out.
abbrev pub text_of : Option Diagnostic → List ℕ
text_of (Some d) = line_text d
text_of None = codes "out of memory\n"

-- The text after the line of a refused source text: for a flow, the explanation of its walk.
abbrev pub Follows : Lattice → List ℕ → CompileError → List ℕ → Type 0
Follows l source (compiler.Flow walk) more = ExplainsWalk l source walk.steps.items more
Follows l source e more = more ≡ []

-- The text of a refused source text.
abbrev pub IsRefusalText : Lattice → List ℕ → CompileError → List ℕ → Type 0
IsRefusalText l source e text =
    (more : List ℕ) × Follows l source e more × (text ≡ text_of (refusal_diagnostic source e) ++ more)
