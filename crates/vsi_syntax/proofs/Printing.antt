-- The canonical text lays out the lexemes that the program writes.
use Rattle.std.proofs.Common.{◌≡◌, ℕ, suc, ◌*◌, ◌≤◌, Bool, true, false, ◌&&◌, pos, negsuc, List, [], ◌∷◌, ◌++◌, Option, Some, None, refl, sym, subst, append_assoc}
use Rattle.std.proofs.lemmas.List.{append-nil}
use Rattle.std.specs.Prelude.{codes}
use Rattle.std.specs.Fmt.{decimal}
use Rattle.vsi_syntax.specs.declared.token.Kind.{Kind}
use Rattle.vsi_syntax.specs.declared.token.Kind.TheVariants as k
use Rattle.vsi_syntax.specs.declared.tree.Op.{Op}
use Rattle.vsi_syntax.specs.declared.tree.Op.TheVariants as o
use Rattle.vsi_syntax.specs.Words.{is_letter, is_word_byte, begins_with, every, keyword, is_name, is_absent, byte_kind, word_kind, kind_of}
use Rattle.vsi_syntax.specs.declared.token.Span.{Span}
use Rattle.vsi_syntax.specs.View.{lexeme_of}
use Rattle.vsi_syntax.specs.Cut.{is_gap, is_whole}
use Rattle.vsi_syntax.specs.Tree.{Named, Lexeme, Called, Sign, Tree, Number, Name, Bracket, Binary, Command, Assign, If, While, Letvar, Block, Body, Done, Then, Declared, Whole, sign, write, write_class, write_command, write_body, write_rest, write_globals, write_program, IsBodyLevelled, IsCommandLevelled, IsRestLevelled, IsProgram}
use Rattle.vsi_syntax.specs.Spelling.{bare, IsNamed, IsSpelled, IsClassSpelled, IsCommandSpelled, IsBodySpelled, IsGlobalsSpelled, IsProgramSpelled, IsTextOf}
use Rattle.vsi_syntax.specs.Canon.{op_text, canon_tree, spaces, canon_class, canon_command, canon_body, canon_rest, canon_globals, canon}
use Rattle.vsi_syntax.proofs.Laying.{Lays, token_lays, lead, join, before, blanks}
use Rattle.vsi_syntax.proofs.Numerals.{decimal_kind, decimal_word}

-- ---- names and numbers.

-- If two tests hold together, the first holds.
and_left : (a b : Bool) → (a && b) ≡ true → a ≡ true
and_left true b h = refl
and_left false b h = absurd cc

-- If two tests hold together, the second holds.
and_right : (a b : Bool) → (a && b) ≡ true → b ≡ true
and_right true b h = h
and_right false b h = absurd cc

-- An option that tests as absent is none.
absent : (x : Option Kind) → is_absent x ≡ true → x ≡ None
absent None h = refl
absent (Some y) h = absurd cc

-- A name has only letters, digits and underscores.
name_word : (t : List ℕ) → is_name t ≡ true → every is_word_byte t ≡ true
unfolding is_name
name_word t h = and_right (begins_with is_letter t) (every is_word_byte t) (and_left _ _ (and_left _ _ h))

-- A name is not a keyword.
name_absent : (t : List ℕ) → is_name t ≡ true → keyword t ≡ None
unfolding is_name
name_absent t h = absent (keyword t) (and_right _ (is_absent (keyword t)) h)

-- A name has the kind of a name.
name_kind : (t : List ℕ) → is_name t ≡ true → kind_of t ≡ Some k.Name
unfolding kind_of word_kind
name_kind t h = rw (name_word t h, name_absent t h, h) refl

-- A run of letters, digits and underscores is whole if none of them follows it.
whole_word : (t rest : List ℕ) → every is_word_byte t ≡ true → begins_with is_word_byte rest ≡ false → is_whole t rest
    ≡ true
whole_word t rest all nb = rw (all, nb) refl

-- The text of a name lays out that name.
name_lays : (x : Named) → IsNamed x → Lays x.text (Called x ∷ [])
name_lays x h =
    token_lays x.text k.Name (Called x) (name_kind x.text h) (λ s. refl)
    (λ rest nb. whole_word x.text rest (name_word x.text h) nb)

-- The decimal text of a number lays out that number.
number_lays : (n : ℕ) → n ≤ 9223372036854775807 → Lays (decimal n) (Sign (k.Number (pos n)) ∷ [])
number_lays n h = token_lays (decimal n) (k.Number (pos n)) (Sign (k.Number (pos n))) (decimal_kind n h) (λ s. refl)
    (λ rest nb. whole_word (decimal n) rest (decimal_word n h) nb)

-- ---- keywords and symbols in front of a text.

-- An assignment sign and a space in front of a text.
assign : (b : List ℕ) (ws : List Lexeme) → Lays b ws → Lays (codes ":= " ++ b) (Sign k.Assign ∷ ws)
unfolding kind_of
assign b ws l = lead (codes ":=") k.Assign (Sign k.Assign) (codes " ") b ws refl (λ s. refl) refl (λ rest. refl) l

-- A colon and a space in front of a text.
colon : (b : List ℕ) (ws : List Lexeme) → Lays b ws → Lays (codes ": " ++ b) (Sign k.Colon ∷ ws)
unfolding kind_of byte_kind
colon b ws l = lead (codes ":") k.Colon (Sign k.Colon) (codes " ") b ws refl (λ s. refl) refl (λ rest. refl) l

-- A keyword and a space in front of a text.
keyword_before : (t : List ℕ) (kind : Kind) (b : List ℕ) (ws : List Lexeme) → kind_of t ≡ Some kind →
    ((rest : List ℕ) → is_whole t (codes " " ++ (b ++ rest)) ≡ true) →
    ((s : Span) → bare (lexeme_of kind t s) ≡ bare (Sign kind)) → Lays b ws → Lays (t ++ (codes " " ++ b))
    (Sign kind ∷ ws)
keyword_before t kind b ws spelled whole same l = lead t kind (Sign kind) (codes " ") b ws spelled same refl whole l

-- The text of the symbol of an operator.
op_kind : (op : Op) → List ℕ
op_kind o.Add = codes "+"
op_kind o.Sub = codes "-"
op_kind o.Mul = codes "*"
op_kind o.Eq = codes "="
op_kind o.Lt = codes "<"

-- Two texts with a space between them lay out both.
spaced : (a b : List ℕ) (va vb : List Lexeme) → Lays a va → Lays b vb → Lays (a ++ (codes " " ++ b)) (va ++ vb)
spaced a b va vb la lb = join a (codes " ") b va vb refl (λ rest. refl) la lb

-- Two operands with their operator between them lay out all three.
both_lays : (op : Op) (a b : List ℕ) (va vb : List Lexeme) → Lays a va → Lays b vb → Lays (a ++ (op_text op ++ b))
    (va ++ Sign (sign op) ∷ vb)
unfolding kind_of byte_kind
both_lays o.Add a b va vb la lb =
    spaced a (codes "+ " ++ b) va (Sign k.Plus ∷ vb) la
    (keyword_before (codes "+") k.Plus b vb refl (λ rest. refl) (λ s. refl) lb)
both_lays o.Sub a b va vb la lb =
    spaced a (codes "- " ++ b) va (Sign k.Minus ∷ vb) la
    (keyword_before (codes "-") k.Minus b vb refl (λ rest. refl) (λ s. refl) lb)
both_lays o.Mul a b va vb la lb =
    spaced a (codes "* " ++ b) va (Sign k.Star ∷ vb) la
    (keyword_before (codes "*") k.Star b vb refl (λ rest. refl) (λ s. refl) lb)
both_lays o.Eq a b va vb la lb =
    spaced a (codes "= " ++ b) va (Sign k.Equal ∷ vb) la
    (keyword_before (codes "=") k.Equal b vb refl (λ rest. refl) (λ s. refl) lb)
both_lays o.Lt a b va vb la lb =
    spaced a (codes "< " ++ b) va (Sign k.Less ∷ vb) la
    (keyword_before (codes "<") k.Less b vb refl (λ rest. refl) (λ s. refl) lb)

-- A closing bracket lays out itself.
close_lays : Lays (codes ")") (Sign k.Close ∷ [])
unfolding kind_of byte_kind
close_lays = token_lays (codes ")") k.Close (Sign k.Close) refl (λ s. refl) (λ rest nb. refl)

-- An expression in brackets lays out the brackets and the expression.
round_lays : (e : List ℕ) (ve : List Lexeme) → Lays e ve → Lays (codes "(" ++ (e ++ codes ")"))
    (Sign k.Open ∷ (ve ++ Sign k.Close ∷ []))
unfolding kind_of byte_kind
round_lays e ve le = lead (codes "(") k.Open (Sign k.Open) [] (e ++ codes ")") (ve ++ Sign k.Close ∷ []) refl
    (λ s. refl) refl (λ rest. refl) (join e [] (codes ")") ve (Sign k.Close ∷ []) refl (λ rest. refl) le close_lays)

-- The canonical text of an expression lays out the lexemes that it writes.
tree_lays : (t : Tree) → IsSpelled t → Lays (canon_tree t) (write t)
tree_lays (Number (pos n)) h = number_lays n h
tree_lays (Number (negsuc n)) h = absurd h
tree_lays (Name x) h = name_lays x h
tree_lays (Bracket e) h = round_lays (canon_tree e) (write e) (tree_lays e h)
tree_lays (Binary op a b) h =
    both_lays op (canon_tree a) (canon_tree b) (write a) (write b) (tree_lays a h.0) (tree_lays b h.1)

-- ---- commands.

-- `then` and a space in front of a text.
then_lays : (b : List ℕ) (ws : List Lexeme) → Lays b ws → Lays (codes "then " ++ b) (Sign k.Then ∷ ws)
unfolding kind_of word_kind keyword
then_lays b ws l = keyword_before (codes "then") k.Then b ws refl (λ rest. refl) (λ s. refl) l

-- `else` and a space in front of a text.
else_lays : (b : List ℕ) (ws : List Lexeme) → Lays b ws → Lays (codes "else " ++ b) (Sign k.Else ∷ ws)
unfolding kind_of word_kind keyword
else_lays b ws l = keyword_before (codes "else") k.Else b ws refl (λ rest. refl) (λ s. refl) l

-- `if` and a space in front of a text.
if_lays : (b : List ℕ) (ws : List Lexeme) → Lays b ws → Lays (codes "if " ++ b) (Sign k.If ∷ ws)
unfolding kind_of word_kind keyword
if_lays b ws l = keyword_before (codes "if") k.If b ws refl (λ rest. refl) (λ s. refl) l

-- `while` and a space in front of a text.
while_lays : (b : List ℕ) (ws : List Lexeme) → Lays b ws → Lays (codes "while " ++ b) (Sign k.While ∷ ws)
unfolding kind_of word_kind keyword
while_lays b ws l = keyword_before (codes "while") k.While b ws refl (λ rest. refl) (λ s. refl) l

-- `do` and a space in front of a text.
do_lays : (b : List ℕ) (ws : List Lexeme) → Lays b ws → Lays (codes "do " ++ b) (Sign k.Do ∷ ws)
unfolding kind_of word_kind keyword
do_lays b ws l = keyword_before (codes "do") k.Do b ws refl (λ rest. refl) (λ s. refl) l

-- `in` and a space in front of a text.
in_lays : (b : List ℕ) (ws : List Lexeme) → Lays b ws → Lays (codes "in " ++ b) (Sign k.In ∷ ws)
unfolding kind_of word_kind keyword
in_lays b ws l = keyword_before (codes "in") k.In b ws refl (λ rest. refl) (λ s. refl) l

-- `letvar` and a space in front of a text.
letvar_lays : (b : List ℕ) (ws : List Lexeme) → Lays b ws → Lays (codes "letvar " ++ b) (Sign k.Letvar ∷ ws)
unfolding kind_of word_kind keyword
letvar_lays b ws l = keyword_before (codes "letvar") k.Letvar b ws refl (λ rest. refl) (λ s. refl) l

-- `var` and a space in front of a text.
var_lays : (b : List ℕ) (ws : List Lexeme) → Lays b ws → Lays (codes "var " ++ b) (Sign k.Var ∷ ws)
unfolding kind_of word_kind keyword
var_lays b ws l = keyword_before (codes "var") k.Var b ws refl (λ rest. refl) (λ s. refl) l

-- A name, its class if any, and an assignment sign in front of a text.
class_lays : (x : Named) (class : Option Named) (b : List ℕ) (ws : List Lexeme) → IsNamed x → IsClassSpelled class →
    Lays b ws → Lays (x.text ++ (canon_class class ++ (codes " := " ++ b)))
    (Called x ∷ (write_class class ++ Sign k.Assign ∷ ws))
class_lays x None b ws h i l = spaced x.text (codes ":= " ++ b) (Called x ∷ []) (Sign k.Assign ∷ ws) (name_lays x h)
    (assign b ws l)
class_lays x (Some c) b ws h i l =
    spaced x.text (codes ": " ++ (c.text ++ (codes " := " ++ b))) (Called x ∷ [])
    (Sign k.Colon ∷ Called c ∷ Sign k.Assign ∷ ws) (name_lays x h)
    (colon (c.text ++ (codes " := " ++ b)) (Called c ∷ Sign k.Assign ∷ ws)
    (spaced c.text (codes ":= " ++ b) (Called c ∷ []) (Sign k.Assign ∷ ws) (name_lays c i) (assign b ws l)))

-- A semicolon, a gap and a text.
semicolon_lays : (h b : List ℕ) (ws : List Lexeme) → is_gap false false h ≡ true → Lays b ws →
    Lays (codes ";" ++ (h ++ b)) (Sign k.Semicolon ∷ ws)
unfolding kind_of byte_kind
semicolon_lays h b ws gap l =
    lead (codes ";") k.Semicolon (Sign k.Semicolon) h b ws refl (λ s. refl) gap (λ rest. refl) l

-- A closing brace lays out itself.
brace_lays : Lays (codes "}") (Sign k.CloseBrace ∷ [])
unfolding kind_of byte_kind
brace_lays = token_lays (codes "}") k.CloseBrace (Sign k.CloseBrace) refl (λ s. refl) (λ rest nb. refl)

-- A sequence between braces on separate lines lays out the braces and the sequence.
block_lays : (i : ℕ) (b : List ℕ) (ws : List Lexeme) → Lays b ws →
    Lays (codes "{\n" ++ (b ++ (codes "\n" ++ (spaces i ++ codes "}"))))
    (Sign k.OpenBrace ∷ (ws ++ Sign k.CloseBrace ∷ []))
unfolding kind_of byte_kind
block_lays i b ws l =
    lead (codes "{") k.OpenBrace (Sign k.OpenBrace) (codes "\n") (b ++ (codes "\n" ++ (spaces i ++ codes "}")))
    (ws ++ Sign k.CloseBrace ∷ []) refl (λ s. refl) refl (λ rest. refl)
    (join b (10 ∷ spaces i) (codes "}") ws (Sign k.CloseBrace ∷ []) (blanks (2 * i)) (λ rest. refl) l brace_lays)

-- Two commands on separate lines lay out both with a semicolon between them.
more_lays : (i : ℕ) (a b : List ℕ) (va vb : List Lexeme) → Lays a va → Lays b vb →
    Lays (a ++ (codes ";\n" ++ (spaces i ++ b))) (va ++ Sign k.Semicolon ∷ vb)
more_lays i a b va vb la lb =
    join a [] (codes ";\n" ++ (spaces i ++ b)) va (Sign k.Semicolon ∷ vb) refl (λ rest. refl) la
    (semicolon_lays (10 ∷ spaces i) b vb (blanks (2 * i)) lb)

mutual
  -- The canonical text of a command lays out the lexemes that it writes.
  command_lays : (i : ℕ) (c : Command) → IsCommandSpelled c → IsCommandLevelled c → Lays (canon_command i c)
      (write_command c)
  command_lays i (Assign x e) h lv =
      spaced x.text (codes ":= " ++ canon_tree e) (Called x ∷ []) (Sign k.Assign ∷ write e) (name_lays x h.0)
      (assign (canon_tree e) (write e) (tree_lays e h.1))
  command_lays i (If e c d) h lv =
      if_lays _ _
      (spaced (canon_tree e) _ (write e) _ (tree_lays e h.0)
      (then_lays _ _
      (spaced (canon_command i c) _ (write_command c) _ (command_lays i c h.1 lv.1)
      (else_lays (canon_command i d) (write_command d) (command_lays i d h.2 lv.2)))))
  command_lays i (While e c) h lv =
      while_lays _ _
      (spaced (canon_tree e) _ (write e) _ (tree_lays e h.0)
      (do_lays (canon_command i c) (write_command c) (command_lays i c h.1 lv.1)))
  command_lays i (Letvar x class e c) h lv =
      letvar_lays _ _
      (class_lays x class _ _ h.0.0 h.0.1
      (spaced (canon_tree e) _ (write e) _ (tree_lays e h.1.0)
      (in_lays (canon_command i c) (write_command c) (command_lays i c h.1.1 lv.1))))
  command_lays i (Block cs) h lv = block_lays i (canon_body (suc i) cs) (write_body cs) (body_lays (suc i) cs h lv)

  -- The canonical text of a sequence lays out the lexemes that it writes.
  body_lays : (i : ℕ) (cs : Body) → IsBodySpelled cs → IsBodyLevelled cs → Lays (canon_body i cs) (write_body cs)
  body_lays i Done h lv = absurd lv
  body_lays i (Then c cs) h lv =
      before (spaces i) (canon_command i c ++ canon_rest i cs) (write_command c ++ write_rest cs) (blanks (2 * i))
      (rest_lays i cs (canon_command i c) (write_command c) h.1 lv.1 (command_lays i c h.0 lv.0))

  -- The canonical text of the commands after the first, after another text, lays out the lexemes of both.
  rest_lays : (i : ℕ) (cs : Body) (a : List ℕ) (va : List Lexeme) → IsBodySpelled cs → IsRestLevelled cs → Lays a va →
      Lays (a ++ canon_rest i cs) (va ++ write_rest cs)
  rest_lays i Done a va h lv la =
      subst (λ (z : List ℕ). Lays z (va ++ [])) (sym (append-nil a))
      (subst (λ (z : List Lexeme). Lays a z) (sym (append-nil va)) la)
  rest_lays i (Then c cs) a va h lv la =
      more_lays i a (canon_command i c ++ canon_rest i cs) va (write_command c ++ write_rest cs) la
      (rest_lays i cs (canon_command i c) (write_command c) h.1 lv.1 (command_lays i c h.0 lv.0))

-- ---- whole programs.

-- The line of a global in front of a text.
global_lays : (g : Declared) (b : List ℕ) (ws : List Lexeme) → IsNamed g.name → IsNamed g.class → Lays b ws →
    Lays (codes "var " ++ (g.name.text ++ (codes " : " ++ (g.class.text ++ (codes ";\n" ++ b)))))
    (Sign k.Var ∷ Called g.name ∷ Sign k.Colon ∷ Called g.class ∷ Sign k.Semicolon ∷ ws)
global_lays g b ws h i l =
    let s : Lays (codes ";\n" ++ b) (Sign k.Semicolon ∷ ws) = semicolon_lays (codes "\n") b ws refl l in
    let c : Lays (g.class.text ++ (codes ";\n" ++ b)) (Called g.class ∷ Sign k.Semicolon ∷ ws) =
    join g.class.text [] (codes ";\n" ++ b) (Called g.class ∷ []) (Sign k.Semicolon ∷ ws) refl (λ rest. refl)
    (name_lays g.class i) s in
    var_lays _ _
    (spaced g.name.text (codes ": " ++ (g.class.text ++ (codes ";\n" ++ b))) (Called g.name ∷ []) _
    (name_lays g.name h) (colon (g.class.text ++ (codes ";\n" ++ b)) _ c))

-- The lines of globals in front of a text.
globals_lays : (gs : List Declared) (b : List ℕ) (ws : List Lexeme) → IsGlobalsSpelled gs → Lays b ws →
    Lays (canon_globals gs ++ b) (write_globals gs ++ ws)
globals_lays [] b ws h l = l
globals_lays (g ∷ gs) b ws h l =
    let e : codes "var "
    ++ (g.name.text ++ (codes " : " ++ (g.class.text ++ (codes ";\n" ++ (canon_globals gs ++ b)))))
    ≡ canon_globals (g ∷ gs) ++ b = simp append_assoc in
    subst (λ (z : List ℕ). Lays z (write_globals (g ∷ gs) ++ ws)) e
    (global_lays g (canon_globals gs ++ b) (write_globals gs ++ ws) h.0 h.1 (globals_lays gs b ws h.2 l))

-- The tokens of the canonical text of a program are the lexemes that the program writes, up to spans.
pub canon_text : (p : Whole) → IsProgram p.body → IsProgramSpelled p → IsTextOf (canon p) (write_program p)
canon_text p good h =
    let l = globals_lays p.globals (canon_body 0 p.body) (write_body p.body) h.0 (body_lays 0 p.body h.1 good.0) 0 []
    (codes "\n") refl refl in
    let e : (canon_globals p.globals ++ canon_body 0 p.body) ++ codes "\n" ≡ canon p =
    append_assoc (canon_globals p.globals) (canon_body 0 p.body) (codes "\n") in
    subst (λ (z : List ℕ). IsTextOf z (write_program p)) e (l.pieces, (l.to, codes "\n", l.begins, refl), l.same)
