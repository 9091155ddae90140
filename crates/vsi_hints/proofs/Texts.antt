-- The tree that writes the tokens of a text is the text's tree.
use Rattle.std.proofs.Common.{◌≡◌, ℕ, ◌≤◌, List, [], ◌∷◌, map, length, refl, ap, ◌∙◌}
use Rattle.vsi_syntax.specs.declared.token.Token.{Token}
use Rattle.vsi_syntax.specs.Cut.{IsCut, pieces}
use Rattle.vsi_syntax.specs.View.{lexeme, lexemes}
use Rattle.vsi_syntax.specs.Tree.{Whole, Lexeme, IsProgram, write_program}
use Rattle.vsi_syntax.specs.Spelling.{word_at}
use Rattle.vsi_hints.specs.Offered.{IsTreeOf}

-- The texts of tokens are the texts of their pieces.
words_at : (ts : List Token) → lexemes ts ≡ map word_at (pieces ts)
words_at [] = refl
words_at (t ∷ ts) = ap (λ (ws : List Lexeme). lexeme t ∷ ws) (words_at ts)

-- A tree that writes the tokens of a text is its tree.
pub tree_from : (text : List ℕ) (ts : List Token) (tree : Whole) → length text ≤ 1048576 → IsCut text (pieces ts) →
    IsProgram tree.body → write_program tree ≡ lexemes ts → IsTreeOf text tree
tree_from text ts tree short cut program written =
    record { short = short; tokens = pieces ts; cut = cut; program = program; written = written ∙ words_at ts }
