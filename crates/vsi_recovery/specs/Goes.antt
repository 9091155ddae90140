-- The tokens that may follow the tokens of a text.
use Rattle.std.specs.Prelude.{◌≡◌, List, [], ◌∷◌, ◌++◌}
use Rattle.vsi_syntax.specs.declared.token.Kind.{Kind}
use Rattle.vsi_syntax.specs.declared.token.Kind.TheVariants as k
use Rattle.vsi_syntax.specs.Tree.{Lexeme, Called, Sign, Whole, IsBodyLevelled, write_program}
use Rattle.vsi_syntax.specs.Spelling.{IsNamed, IsLiteral}
use Rattle.vsi_recovery.specs.declared.sort.Sort.{Sort}
use Rattle.vsi_recovery.specs.Sorts.{lexeme_sort}

-- Some program, of any depth, writes these lexemes.
abbrev pub IsWritten : List Lexeme → Type 0
IsWritten ws = (p : Whole) × IsBodyLevelled p.body × (write_program p ≡ ws)

-- A number of this kind can be written.
abbrev pub IsKindSpelled : Kind → Type 0
IsKindSpelled (k.Number n) = IsLiteral n
IsKindSpelled _ = Unit {0}

-- A text can contain this lexeme: a name is valid, and a number can be written.
abbrev pub IsLexemeSpelled : Lexeme → Type 0
IsLexemeSpelled (Called x) = IsNamed x
IsLexemeSpelled (Sign kind) = IsKindSpelled kind

-- A text can contain these lexemes.
abbrev pub AreSpelled : List Lexeme → Type 0
AreSpelled [] = Unit {0}
AreSpelled (w ∷ ws) = IsLexemeSpelled w × AreSpelled ws

-- Some program continues these lexemes with one of this sort, followed by others that a text can contain.
abbrev pub CanFollow : List Lexeme → Sort → Type 0
CanFollow before s =
    (w : Lexeme) × (rest : List Lexeme) × (lexeme_sort w ≡ s) × AreSpelled (w ∷ rest) × IsWritten (before ++ w ∷ rest)
