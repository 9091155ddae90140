-- The globals that a text declares.
use Rattle.std.proofs.Common.{◌≡◌, ℕ, ◌≤◌, List, [], length, refl, inl, inr, Some}
use Rattle.vsi_syntax.specs.declared.token.Token.{Token}
use Rattle.vsi_syntax.specs.Cut.{Piece, IsCut, pieces}
use Rattle.vsi_syntax.specs.Tree.{Whole, Declared, IsProgram, write_program}
use Rattle.vsi_syntax.specs.View.{lexemes}
use Rattle.vsi_syntax.specs.Given.{Fails}
use Rattle.vsi_syntax.specs.declared.parser.ParseError.{ParseError}
use Rattle.vsi_syntax.specs.declared.parser.ParseError.TheVariants as parser
use Rattle.vsi_compiler.proofs.Sources.{reads_from, reads_tokens}
use Rattle.vsi_conform.specs.Shown.{Declares}

-- A text that can't be cut into tokens declares nothing.
pub uncut : (text : List ℕ) → ((ps : List Piece) → length text ≤ 1048576 → IsCut text ps → ⊥) → Declares text []
uncut text none = inr (record { treeless = λ tree r. none r.tokens r.short r.cut; nothing = refl })

-- A text declares nothing if no tree writes its tokens.
pub unwritten : (text : List ℕ) (ts : List Token) → IsCut text (pieces ts) →
    ((tree : Whole) → IsProgram tree.body → write_program tree ≡ lexemes ts → ⊥) → Declares text []
unwritten text ts cut none =
    inr (record { treeless = λ tree r. none tree r.program (reads_tokens text ts tree cut r); nothing = refl })

-- A text declares the globals of a tree that writes its tokens.
pub written : (text : List ℕ) (ts : List Token) (tree : Whole) (ds : List Declared) → length text ≤ 1048576 →
    IsCut text (pieces ts) → IsProgram tree.body → write_program tree ≡ lexemes ts → ds ≡ tree.globals →
    Declares text ds
written text ts tree ds short cut program writes globals =
    inl (record { tree = tree; reads = reads_from text ts tree short cut program writes; globals = globals })

-- If a tree writes the tokens, parsing can fail only for lack of memory.
pub failed : (e : ParseError) (tree : Whole) → (e ≡ parser.Memory → ⊥) → Fails e (Some tree) → ⊥
failed parser.Memory tree other h = other refl
failed (parser.Unexpected span) tree other h = absurd cc
failed (parser.TooDeep span) tree other h = absurd cc
