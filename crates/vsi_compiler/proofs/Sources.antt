-- Facts about the trees that read a text, from the text's tokens.
use Rattle.std.proofs.Common.{◌≡◌, ℕ, ◌≤◌, List, [], ◌∷◌, map, length, refl, sym, ap, ◌∙◌, Some, None, Option, unwrap_or}
use Rattle.vsi_syntax.specs.declared.token.Token.{Token}
use Rattle.vsi_syntax.specs.declared.lexer.LexError.{LexError}
use Rattle.vsi_syntax.specs.declared.lexer.LexError.TheVariants as lexer
use Rattle.vsi_syntax.specs.declared.parser.ParseError.{ParseError}
use Rattle.vsi_syntax.specs.declared.parser.ParseError.TheVariants as parser
use Rattle.vsi_syntax.specs.Cut.{IsCut, pieces, ExplainsText}
use Rattle.vsi_syntax.specs.View.{lexeme, lexemes}
use Rattle.vsi_syntax.specs.Tree.{Whole, Lexeme, IsProgram, write_program}
use Rattle.vsi_syntax.specs.Given.{Fails}
use Rattle.vsi_syntax.specs.Spelling.{word_at}
use Rattle.vsi_syntax.proofs.Unique.{one_cut}
use Rattle.vsi_compiler.specs.declared.source.CompileError.TheVariants.{Memory}
use Rattle.vsi_compiler.specs.Errors.{lexical, syntactic}
use Rattle.vsi_compiler.specs.Source.{Reads}
use Rattle.vsi_compiler.specs.Refusal.{HasNoTree, RefusesTree}

-- The texts of tokens are the texts of their pieces.
words_at : (ts : List Token) → lexemes ts ≡ map word_at (pieces ts)
words_at [] = refl
words_at (t ∷ ts) = ap (λ (ws : List Lexeme). lexeme t ∷ ws) (words_at ts)

-- A tree that writes the tokens of a text reads it.
pub reads_from : (text : List ℕ) (ts : List Token) (tree : Whole) → length text ≤ 1048576 → IsCut text (pieces ts) →
    IsProgram tree.body → write_program tree ≡ lexemes ts → Reads text tree
reads_from text ts tree short cut program written =
    record { short = short; tokens = pieces ts; cut = cut; program = program; written = written ∙ words_at ts }

-- A tree that reads a text writes its tokens.
pub reads_tokens : (text : List ℕ) (ts : List Token) (tree : Whole) → IsCut text (pieces ts) → Reads text tree →
    write_program tree ≡ lexemes ts
reads_tokens text ts tree cut r =
    r.written ∙ ap (map word_at) (one_cut text r.tokens (pieces ts) r.cut cut) ∙ sym (words_at ts)

-- A refusal of the lexer is a refusal of the text.
pub words_refused : (text : List ℕ) (e : LexError) → ExplainsText text e → RefusesTree text (lexical e)
words_refused text lexer.Memory h = tt
words_refused text lexer.TooLong h = (λ q. cc, h)
words_refused text (lexer.BadByte at) h = (λ q. cc, h)
words_refused text (lexer.BadWord span) h = (λ q. cc, h)
words_refused text (lexer.BadNumber span) h = (λ q. cc, h)

-- If the lexer lacks memory, the compiler's error is `Memory`.
pub lexical_memory : (e : LexError) → e ≡ lexer.Memory → lexical e ≡ Memory
lexical_memory e h = ap lexical h

-- A tree is not none.
some_tree : (tree : Whole) → Some tree ≡ None → ⊥
some_tree tree h = absurd cc

-- A text whose tokens no tree writes has no tree.
has_no_tree : (text : List ℕ) (ts : List Token) → length text ≤ 1048576 → IsCut text (pieces ts) →
    ((tree : Whole) → IsProgram tree.body → write_program tree ≡ lexemes ts → Some tree ≡ None) → HasNoTree text
has_no_tree text ts short cut only =
    record {
      short = short;
      tokens = pieces ts;
      cut = cut;
      treeless = λ tree r. some_tree tree (only tree r.program (reads_tokens text ts tree cut r));
    }

-- If no tree writes the tokens, no tree reads the text.
pub tree_refused : (text : List ℕ) (ts : List Token) (e : ParseError) → length text ≤ 1048576 →
    IsCut text (pieces ts) →
    ((tree : Whole) → IsProgram tree.body → write_program tree ≡ lexemes ts → Fails e (Some tree)) →
    RefusesTree text (syntactic e)
tree_refused text ts parser.Memory short cut only = tt
tree_refused text ts (parser.Unexpected span) short cut only = (λ q. cc, has_no_tree text ts short cut only)
tree_refused text ts (parser.TooDeep span) short cut only = (λ q. cc, has_no_tree text ts short cut only)

-- If there is a tree, the only possible error is lack of memory.
pub syntactic_memory : (e : ParseError) (tree : Whole) → Fails e (Some tree) → syntactic e ≡ Memory
syntactic_memory parser.Memory tree h = refl
syntactic_memory (parser.Unexpected span) tree h = absurd (some_tree tree h)
syntactic_memory (parser.TooDeep span) tree h = absurd (some_tree tree h)

-- The tree that is found is the tree of the text.
pub found_is : (tree found : Whole) → Some tree ≡ Some found → found ≡ tree
found_is tree found h = sym (ap (λ (o : Option Whole). unwrap_or o tree) h)
