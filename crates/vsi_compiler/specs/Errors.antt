-- Errors of the layers as errors of the compiler, which has one error for lack of memory.
use Rattle.vsi_syntax.specs.declared.lexer.LexError.{LexError}
use Rattle.vsi_syntax.specs.declared.lexer.LexError.TheVariants as lexer
use Rattle.vsi_syntax.specs.declared.parser.ParseError.{ParseError}
use Rattle.vsi_syntax.specs.declared.parser.ParseError.TheVariants as parser
use Rattle.vsi_scope.specs.declared.resolution.ScopeError.{ScopeError}
use Rattle.vsi_scope.specs.declared.resolution.ScopeError.TheVariants as scope
use Rattle.vsi_infer.specs.declared.inference.InferError.{InferError}
use Rattle.vsi_infer.specs.declared.inference.InferError.TheVariants as infer
use Rattle.vsi_compiler.specs.declared.source.CompileError.{CompileError}
use Rattle.vsi_compiler.specs.declared.source.CompileError.TheVariants.{Lex, Parse, Scope, Flow, Memory}

-- An error of the lexer.
abbrev pub lexical : LexError → CompileError
lexical lexer.Memory = Memory
lexical e = Lex e

-- An error of the parser.
abbrev pub syntactic : ParseError → CompileError
syntactic parser.Memory = Memory
syntactic e = Parse e

-- An error of the scope checks.
abbrev pub scoping : ScopeError → CompileError
scoping scope.Memory = Memory
scoping e = Scope e

-- An error of the inference.
abbrev pub flowing : InferError → CompileError
flowing infer.Memory = Memory
flowing (infer.Refused walk) = Flow walk
