-- Layouts of texts.
use Rattle.std.proofs.Common.{◌≡◌, ◌≤◌, ℕ, true, false, List, [], ◌∷◌, map, length, refl, sym, ap, subst, ◌∙◌, inl, inr, Some, None, Bool}
use Rattle.std.specs.Prelude.{bytes_eq}
use Rattle.std.proofs.lemmas.Slice.Eq.{bytes_eq-Decides}
use Rattle.vsi_syntax.specs.declared.token.Token.{Token}
use Rattle.vsi_syntax.specs.declared.lexer.LexError.{LexError}
use Rattle.vsi_syntax.specs.declared.lexer.LexError.TheVariants as lexer
use Rattle.vsi_syntax.specs.declared.parser.ParseError.{ParseError}
use Rattle.vsi_syntax.specs.declared.parser.ParseError.TheVariants as parser
use Rattle.vsi_syntax.specs.Limits.{max_text_length}
use Rattle.vsi_syntax.specs.Cut.{Piece, IsCut, pieces}
use Rattle.vsi_syntax.specs.View.{lexeme, lexemes}
use Rattle.vsi_syntax.specs.Tree.{Whole, Lexeme, IsProgram, write_program}
use Rattle.vsi_syntax.specs.Given.{Fails}
use Rattle.vsi_syntax.specs.Spelling.{bare, word_at}
use Rattle.vsi_syntax.proofs.Relabel.{program_relabel}
use Rattle.vsi_syntax.proofs.Spans.{good_again}
use Rattle.vsi_syntax.proofs.Unique.{one_cut}
use Rattle.vsi_syntax.specs.declared.layouts.LayoutError.TheVariants.{Memory}
use Rattle.vsi_syntax.specs.Errors.{lexical, syntactic}
use Rattle.vsi_syntax.specs.Same.{is_same}
use Rattle.vsi_syntax.specs.Writing.{laid}
use Rattle.vsi_syntax.specs.Layout.{IsRead, HasProgram, IsSameText, IsGood, IsChosen, IsLayout}
use Rattle.vsi_syntax.proofs.Sames.{same_texts}

-- The texts of tokens are the texts of their pieces.
words_at : (ts : List Token) → lexemes ts ≡ map word_at (pieces ts)
words_at [] = refl
words_at (t ∷ ts) = ap (λ (ws : List Lexeme). lexeme t ∷ ws) (words_at ts)

-- A program that writes the tokens of a text reads it.
pub read_from : (text : List ℕ) (ts : List Token) (tree : Whole) → length text ≤ max_text_length →
    IsCut text (pieces ts) → IsProgram tree.body → write_program tree ≡ lexemes ts → IsRead text (pieces ts) tree
read_from text ts tree short cut program written =
    record { short = short; cut = cut; program = program; written = written ∙ words_at ts }

-- A program that reads a text writes its tokens.
pub read_tokens : (text : List ℕ) (ts : List Token) (h : HasProgram text) → IsCut text (pieces ts) →
    write_program h.tree ≡ lexemes ts
read_tokens text ts h cut =
    h.read.written ∙ ap (map word_at) (one_cut text h.tokens (pieces ts) h.read.cut cut) ∙ sym (words_at ts)

-- If the lexer lacks memory, the error is `Memory`.
pub lexical_memory : (e : LexError) → e ≡ lexer.Memory → lexical e ≡ Memory
lexical_memory e h = ap lexical h

-- A tree is not none.
some_tree : (tree : Whole) → Some tree ≡ None → ⊥
some_tree tree h = absurd cc

-- If there is a program, the only possible error is lack of memory.
pub syntactic_memory : (e : ParseError) (tree : Whole) → Fails e (Some tree) → syntactic e ≡ Memory
syntactic_memory parser.Memory tree h = refl
syntactic_memory (parser.Unexpected span) tree h = absurd (some_tree tree h)
syntactic_memory (parser.TooDeep span) tree h = absurd (some_tree tree h)

-- A text is the same text as itself.
pub same_itself : (s : List ℕ) (ps : List Piece) (tree : Whole) → IsRead s ps tree → IsSameText s s
same_itself s ps tree r = record {
  tokens = ps;
  tree = tree;
  read = r;
  others = ps;
  other = tree;
  other_read = r;
  lexemes = refl;
  program = refl;
  comments = refl;
}

-- A good layout of a text is the same text.
pub same_good : (s t : List ℕ) (ps : List Piece) (tree : Whole) → IsRead s ps tree → IsGood s ps t → IsSameText s t
same_good s t ps tree r g =
    let same = same_texts s t ps g.others r.cut g.cut g.same in
    let again = program_relabel tree (map word_at g.others) (same.1 ∙ ap (map bare) (sym r.written)) in
    record {
      tokens = ps;
      tree = tree;
      read = r;
      others = g.others;
      other = again.other;
      other_read = record {
        short = g.short;
        cut = g.cut;
        program = good_again tree.body again.other.body (ap (λ (w : Whole). w.body) again.same) r.program;
        written = sym again.writes;
      };
      lexemes = same.1;
      program = again.same;
      comments = same.0;
    }

-- A text that is laid out as itself has no other layout.
stays : (t u : List ℕ) (ps qs : List Piece) → IsCut t ps → IsCut t qs → laid t ps ≡ t → IsChosen t qs u → u ≡ t
stays t u ps qs cut other again (inl g) =
    g.is ∙ ap (laid t) (one_cut t qs ps other cut) ∙ again
stays t u ps qs cut other again (inr n) = n.1

-- A text that was kept is kept again.
kept : (s u : List ℕ) (ps qs : List Piece) → IsCut s ps → IsCut s qs → (IsGood s ps (laid s ps) → ⊥) →
    IsChosen s qs u → u ≡ s
kept s u ps qs cut other bad (inl g) =
    let e : qs ≡ ps = one_cut s qs ps other cut in
    absurd (bad (subst (λ (z : List ℕ). IsGood s ps z) (g.is ∙ ap (laid s) e)
    (subst (λ (z : List Piece). IsGood s z u) e g)))
kept s u ps qs cut other bad (inr n) = n.1

-- The text chosen for a chosen text is that text.
chosen_again : (s t u : List ℕ) (ps qs : List Piece) → IsCut s ps → IsCut t qs → IsChosen s ps t → IsChosen t qs u →
    u ≡ t
chosen_again s t u ps qs cut other (inl g) h = stays t u g.others qs g.cut other g.again h
chosen_again s t u ps qs cut other (inr n) h =
    let at = subst (λ (z : List ℕ). IsCut z qs) n.1 other in
    let chosen = subst (λ (z : List ℕ). IsChosen z qs u) n.1 h in
    kept s u ps qs cut at n.0 chosen ∙ sym n.1

-- A layout is laid out as itself.
pub layout_again : (s t u : List ℕ) → IsLayout s t → IsLayout t u → u ≡ t
layout_again s t u h i = chosen_again s t u h.tokens i.tokens h.cut i.cut h.chosen i.chosen

-- A true test isn't false.
true_false : (b : Bool) → b ≡ true → b ≡ false → ⊥
true_false true h i = absurd cc
true_false false h i = absurd cc

-- A text with other tokens or comments is no good layout.
pub bad_same : (s t : List ℕ) (ps : List Piece) (again seen : List Token) (b : Bool) → seen ≡ again →
    IsCut t (pieces again) → b ≡ is_same s ps t (pieces seen) → b ≡ false → IsGood s ps t → ⊥
bad_same s t ps again seen b at cut is fails g =
    let e : g.others ≡ pieces seen = one_cut t g.others (pieces again) g.cut cut ∙ ap pieces (sym at) in
    true_false b (is ∙ ap (λ (z : List Piece). is_same s ps t z) (sym e) ∙ g.same) fails

-- A text that is laid out otherwise is no good layout.
pub bad_again : (s t : List ℕ) (ps : List Piece) (again seen : List Token) (b : Bool) → seen ≡ again →
    IsCut t (pieces again) → b ≡ bytes_eq (laid t (pieces seen)) t → b ≡ false → IsGood s ps t → ⊥
bad_again s t ps again seen b at cut is fails g =
    let e : g.others ≡ pieces seen = one_cut t g.others (pieces again) g.cut cut ∙ ap pieces (sym at) in
    let f : laid t (pieces seen) ≡ t = ap (laid t) (sym e) ∙ g.again in
    true_false b (is ∙ (bytes_eq-Decides (laid t (pieces seen)) t).1 f) fails

-- A good layout is the layout.
pub layout_good : (s : List ℕ) (ts seen : List Token) (out other : List ℕ) (tree : Whole) → seen ≡ ts → other ≡ out →
    IsRead s (pieces ts) tree → IsGood s (pieces seen) other → IsLayout s out
layout_good s ts seen out other tree at is r g =
    let good : IsGood s (pieces ts) out =
    subst (λ (z : List ℕ). IsGood s (pieces ts) z) is (subst (λ (z : List Token). IsGood s (pieces z) other) at g) in
    record { same = same_good s out (pieces ts) tree r good; tokens = pieces ts; cut = r.cut; chosen = inl good }

-- A text without a good layout is its own.
pub layout_kept : (s : List ℕ) (ts seen : List Token) (out other t : List ℕ) (tree : Whole) → seen ≡ ts → other ≡ out →
    out ≡ laid s (pieces ts) → t ≡ s → IsRead s (pieces ts) tree → (IsGood s (pieces seen) other → ⊥) → IsLayout s t
layout_kept s ts seen out other t tree at is made kept r bad =
    let none : IsGood s (pieces ts) (laid s (pieces ts)) → ⊥ =
    λ g. bad (subst (λ (z : List ℕ). IsGood s (pieces seen) z) (sym made ∙ sym is)
    (subst (λ (z : List Token). IsGood s (pieces z) (laid s (pieces ts))) (sym at) g)) in
    record {
      same = subst (IsSameText s) (sym kept) (same_itself s (pieces ts) tree r);
      tokens = pieces ts;
      cut = r.cut;
      chosen = inr (none, kept);
    }
