-- Errors of the lexer and the parser as errors of the layout, which has one error for lack of memory.
use Rattle.vsi_syntax.specs.declared.lexer.LexError.{LexError}
use Rattle.vsi_syntax.specs.declared.lexer.LexError.TheVariants as lexer
use Rattle.vsi_syntax.specs.declared.parser.ParseError.{ParseError}
use Rattle.vsi_syntax.specs.declared.parser.ParseError.TheVariants as parser
use Rattle.vsi_syntax.specs.declared.layouts.LayoutError.{LayoutError}
use Rattle.vsi_syntax.specs.declared.layouts.LayoutError.TheVariants.{Memory, NoProgram}

-- An error of the lexer.
abbrev pub lexical : LexError → LayoutError
lexical lexer.Memory = Memory
lexical _ = NoProgram

-- An error of the parser.
abbrev pub syntactic : ParseError → LayoutError
syntactic parser.Memory = Memory
syntactic _ = NoProgram
