-- Texts that are the same by the test have the same tokens and comments.
use Rattle.std.proofs.Common.{◌≡◌, ℕ, ℤ, Bool, true, false, cond, ◌&&◌, List, [], ◌∷◌, map, drop, Option, Some, None, refl, sym, ap, ◌∙◌}
use Rattle.std.specs.Prelude.{bytes_eq}
use Rattle.std.proofs.lemmas.Slice.Eq.{bytes_eq-Decides}
use Rattle.std.proofs.lemmas.Bool.Decides.{Decides-int_eq}
use Rattle.vsi_syntax.specs.declared.token.Kind.{Kind}
use Rattle.vsi_syntax.specs.declared.token.Kind.TheVariants as k
use Rattle.vsi_syntax.specs.declared.token.Span.{Span}
use Rattle.vsi_syntax.specs.Words.{kind_of}
use Rattle.vsi_syntax.specs.Cut.{Piece, BeginsWith, IsCut}
use Rattle.vsi_syntax.specs.Tree.{Lexeme}
use Rattle.vsi_syntax.specs.View.{lexeme_of}
use Rattle.vsi_syntax.specs.Spelling.{bare, word_at}
use Rattle.vsi_syntax.specs.Comments.{comments, comments_from, all_comments, part}
use Rattle.vsi_syntax.specs.Same.{has_same_comments, number_of, is_same_value, is_same_token, is_same_from, is_same}

-- A kind with a value is a number.
number_is : (kind : Kind) (n : ℤ) → number_of kind ≡ Some n → kind ≡ k.Number n
number_is (k.Number m) n h = cc
number_is k.Var n h = absurd cc
number_is k.Letvar n h = absurd cc
number_is k.In n h = absurd cc
number_is k.If n h = absurd cc
number_is k.Then n h = absurd cc
number_is k.Else n h = absurd cc
number_is k.While n h = absurd cc
number_is k.Do n h = absurd cc
number_is k.Assign n h = absurd cc
number_is k.Colon n h = absurd cc
number_is k.Semicolon n h = absurd cc
number_is k.Plus n h = absurd cc
number_is k.Minus n h = absurd cc
number_is k.Star n h = absurd cc
number_is k.Equal n h = absurd cc
number_is k.Less n h = absurd cc
number_is k.Open n h = absurd cc
number_is k.Close n h = absurd cc
number_is k.OpenBrace n h = absurd cc
number_is k.CloseBrace n h = absurd cc
number_is k.Name n h = absurd cc

-- The lexeme of a kind and a text is the same anywhere, but for its span.
bare_lexeme : (kind : Kind) (t : List ℕ) (s r : Span) → bare (lexeme_of kind t s) ≡ bare (lexeme_of kind t r)
bare_lexeme (k.Number m) t s r = refl
bare_lexeme k.Var t s r = refl
bare_lexeme k.Letvar t s r = refl
bare_lexeme k.In t s r = refl
bare_lexeme k.If t s r = refl
bare_lexeme k.Then t s r = refl
bare_lexeme k.Else t s r = refl
bare_lexeme k.While t s r = refl
bare_lexeme k.Do t s r = refl
bare_lexeme k.Assign t s r = refl
bare_lexeme k.Colon t s r = refl
bare_lexeme k.Semicolon t s r = refl
bare_lexeme k.Plus t s r = refl
bare_lexeme k.Minus t s r = refl
bare_lexeme k.Star t s r = refl
bare_lexeme k.Equal t s r = refl
bare_lexeme k.Less t s r = refl
bare_lexeme k.Open t s r = refl
bare_lexeme k.Close t s r = refl
bare_lexeme k.OpenBrace t s r = refl
bare_lexeme k.CloseBrace t s r = refl
bare_lexeme k.Name t s r = refl

-- Lexemes of one kind and one text are the same, but for their spans.
moved : (j l : Kind) (t u : List ℕ) (s r : Span) → j ≡ l → t ≡ u →
    bare (lexeme_of l u r) ≡ bare (lexeme_of j t s)
moved j l t u s r e f = rw (e, f) (bare_lexeme l u r s)

-- Lexemes of two numbers of one value are the same.
numbers_moved : (j l : Kind) (n : ℤ) (t u : List ℕ) (s r : Span) → j ≡ k.Number n → l ≡ k.Number n →
    bare (lexeme_of l u r) ≡ bare (lexeme_of j t s)
numbers_moved j l n t u s r e f = rw (e, f) refl

-- Two values that are the same.
same_value : (a b : Option ℤ) → is_same_value a b ≡ true → (n : ℤ) × (a ≡ Some n) × (b ≡ Some n)
same_value (Some m) (Some n) h = (n, ap Some ((Decides-int_eq m n).0 h), refl)
same_value (Some m) None h = absurd cc
same_value None o h = absurd cc

-- Two pieces with the kinds of their texts that pass the test are one lexeme, but for the span.
same_lexeme_by : (p q : Piece) (b : Bool) → kind_of p.text ≡ Some p.kind → kind_of q.text ≡ Some q.kind →
    bytes_eq p.text q.text ≡ b → cond b true (is_same_value (number_of p.kind) (number_of q.kind)) ≡ true →
    bare (word_at q) ≡ bare (word_at p)
same_lexeme_by p q true hp hq e h =
    let t : p.text ≡ q.text = (bytes_eq-Decides p.text q.text).0 e in
    let kinds : Some p.kind ≡ Some q.kind = sym hp ∙ ap kind_of t ∙ hq in
    moved p.kind q.kind p.text q.text p.span q.span (let m : p.kind ≡ q.kind = cc in m) t
same_lexeme_by p q false hp hq e h =
    let v = same_value (number_of p.kind) (number_of q.kind) h in
    numbers_moved p.kind q.kind v.0 p.text q.text p.span q.span (number_is p.kind v.0 v.1) (number_is q.kind v.0 v.2)

-- Two pieces with the kinds of their texts that pass the test are one lexeme, but for the span.
same_lexeme : (p q : Piece) → kind_of p.text ≡ Some p.kind → kind_of q.text ≡ Some q.kind →
    is_same_token p q ≡ true → bare (word_at q) ≡ bare (word_at p)
same_lexeme p q hp hq h = same_lexeme_by p q (bytes_eq p.text q.text) hp hq refl h

-- If three tests hold together, each holds.
all_three : (a b c : Bool) → (a && (b && c)) ≡ true → (a ≡ true) × (b ≡ true) × (c ≡ true)
all_three true true c h = (refl, refl, h)
all_three true false c h = absurd cc
all_three false b c h = absurd cc

-- Texts that pass the test from two positions on have the same comments and lexemes from there.
pub same_from : (i a : ℕ) (s x : List ℕ) (ps : List Piece) (m : ℕ) (e : List ℕ)
    (j b : ℕ) (t y : List ℕ) (qs : List Piece) (n : ℕ) (f : List ℕ) →
    BeginsWith a x ps m e → BeginsWith b y qs n f → is_same_from i s ps j t qs ≡ true →
    (comments_from j t qs ≡ comments_from i s ps) × (map bare (map word_at qs) ≡ map bare (map word_at ps))
same_from i a s x [] m e j b t y [] n f hp hq h =
    let c : comments false (drop i s) ≡ comments false (drop j t) =
    (bytes_eq-Decides (comments false (drop i s)) (comments false (drop j t))).0 h in
    (ap (λ (w : List ℕ). w ∷ []) (sym c), refl)
same_from i a s x [] m e j b t y (q ∷ qs) n f hp hq h = absurd cc
same_from i a s x (p ∷ ps) m e j b t y [] n f hp hq h = absurd cc
same_from i a s x (p ∷ ps) m e j b t y (q ∷ qs) n f hp hq h =
    let w = all_three (is_same_token p q)
    (has_same_comments (part s i p.span.start) (part t j q.span.start))
    (is_same_from p.span.stop s ps q.span.stop t qs) h in
    let lexeme = same_lexeme p q hp.1.here.spelled hq.1.here.spelled w.0 in
    let gap : comments false (part s i p.span.start) ≡ comments false (part t j q.span.start) =
    (bytes_eq-Decides (comments false (part s i p.span.start)) (comments false (part t j q.span.start))).0 w.1 in
    let more = same_from p.span.stop p.span.stop s hp.0 ps m e q.span.stop q.span.stop t hq.0 qs n f hp.2 hq.2 w.2 in (
      ap (λ (z : List ℕ). z ∷ comments_from q.span.stop t qs) (sym gap)
          ∙ ap (λ (z : List (List ℕ)). comments false (part s i p.span.start) ∷ z) more.0,
      ap (λ (z : Lexeme). z ∷ map bare (map word_at qs)) lexeme
          ∙ ap (λ (z : List Lexeme). bare (word_at p) ∷ z) more.1,
    )

-- Texts with these cuts that pass the test have the same comments and lexemes.
pub same_texts : (s t : List ℕ) (ps qs : List Piece) → IsCut s ps → IsCut t qs → is_same s ps t qs ≡ true →
    (all_comments t qs ≡ all_comments s ps) × (map bare (map word_at qs) ≡ map bare (map word_at ps))
same_texts s t ps qs hp hq h =
    same_from 0 0 s s ps hp.0 hp.1 0 0 t t qs hq.0 hq.1 hp.2 hq.2 h
