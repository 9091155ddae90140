-- The refusals of a source text.
use Rattle.std.specs.Prelude.{ℕ, ◌+◌, List, length, take, codes, Option, Some, None}
use Rattle.vsi_syntax.specs.declared.lexer.LexError.{LexError}
use Rattle.vsi_syntax.specs.declared.lexer.LexError.TheVariants as lexer
use Rattle.vsi_syntax.specs.declared.parser.ParseError.{ParseError}
use Rattle.vsi_syntax.specs.declared.parser.ParseError.TheVariants as parser
use Rattle.vsi_syntax.specs.Lines.{breaks, last_line}
use Rattle.vsi_scope.specs.declared.resolution.ScopeError.{ScopeError}
use Rattle.vsi_scope.specs.declared.resolution.ScopeError.TheVariants as scope
use Rattle.vsi_compiler.specs.declared.source.CompileError.{CompileError}
use Rattle.vsi_compiler.specs.declared.source.CompileError.TheVariants as compiler
use Rattle.vsi_answers.specs.Diagnostic.{Field, nothing, place, Diagnostic, refusal, refused_flow}

-- The line of a position in the text, from 1.
abbrev pub line_of : List ℕ → ℕ → ℕ
line_of text at = 1 + breaks (take at text)

-- The column of a position in the text, from 1.
abbrev pub column_of : List ℕ → ℕ → ℕ
column_of text at = 1 + length (last_line (take at text))

-- The line and the column of a position in the text.
abbrev pub place_in : List ℕ → ℕ → Field
place_in text at = place (line_of text at) (column_of text at)

-- A refusal with this number, name and field.
abbrev pub refused : ℕ → List ℕ → Field → Option Diagnostic
refused code name field = Some (refusal code name field)

-- The refusal for a fault of the tokens.
abbrev pub lexical_diagnostic : List ℕ → LexError → Option Diagnostic
lexical_diagnostic text lexer.Memory = None
lexical_diagnostic text lexer.TooLong = refused 11 (codes "TooLong") nothing
lexical_diagnostic text (lexer.BadByte at) = refused 12 (codes "BadByte") (place_in text at)
lexical_diagnostic text (lexer.BadWord span) = refused 13 (codes "BadWord") (place_in text span.start)
lexical_diagnostic text (lexer.BadNumber span) = refused 14 (codes "BadNumber") (place_in text span.start)

-- The refusal for a fault of the tree.
abbrev pub syntactic_diagnostic : List ℕ → ParseError → Option Diagnostic
syntactic_diagnostic text parser.Memory = None
syntactic_diagnostic text (parser.Unexpected span) = refused 15 (codes "Unexpected") (place_in text span.start)
syntactic_diagnostic text (parser.TooDeep span) = refused 16 (codes "TooDeep") (place_in text span.start)

-- The refusal for a fault of the scopes.
abbrev pub scoping_diagnostic : List ℕ → ScopeError → Option Diagnostic
scoping_diagnostic text scope.Memory = None
scoping_diagnostic text (scope.Duplicate span) = refused 17 (codes "Duplicate") (place_in text span.start)
scoping_diagnostic text (scope.UnknownClass span) = refused 18 (codes "UnknownClass") (place_in text span.start)
scoping_diagnostic text (scope.Unbound span) = refused 19 (codes "Unbound") (place_in text span.start)
scoping_diagnostic text (scope.TooManyGlobals span) = refused 20 (codes "TooManyGlobals") (place_in text span.start)
scoping_diagnostic text (scope.TooManyDeclarations span) =
    refused 21 (codes "TooManyDeclarations") (place_in text span.start)
scoping_diagnostic text scope.TooLarge = refused 22 (codes "TooLarge") nothing

-- The refusal of a source text, or none if memory ran out.
abbrev pub refusal_diagnostic : List ℕ → CompileError → Option Diagnostic
refusal_diagnostic text (compiler.Lex e) = lexical_diagnostic text e
refusal_diagnostic text (compiler.Parse e) = syntactic_diagnostic text e
refusal_diagnostic text (compiler.Scope e) = scoping_diagnostic text e
refusal_diagnostic text (compiler.Flow walk) = Some (refused_flow walk.steps.items)
refusal_diagnostic text compiler.Memory = None
