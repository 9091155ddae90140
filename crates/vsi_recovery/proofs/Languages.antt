-- The lexemes that a pending part may write, and the proof that every rule is right about them.
use Rattle.std.proofs.Common.{◌≡◌, ℕ, ◌≤◌, ℤ, pos, List, [], ◌∷◌, ◌++◌, Option, Some, refl, sym, ap, subst, ◌∙◌, append_assoc, arith}
use Rattle.std.proofs.lemmas.List.{append-nil}
use Rattle.vsi_syntax.specs.declared.token.Kind.{Kind}
use Rattle.vsi_syntax.specs.declared.token.Kind.TheVariants as k
use Rattle.vsi_syntax.specs.declared.token.Span.{Span}
use Rattle.vsi_syntax.specs.declared.token.Token.{Token}
use Rattle.vsi_syntax.specs.declared.tree.Op.{Op}
use Rattle.vsi_syntax.specs.declared.tree.Op.TheVariants as o
use Rattle.vsi_syntax.specs.Tree.{Named, Lexeme, Called, Sign, Tree, Number, Name, Bracket, Binary, Command, Assign, If, While, Letvar, Block, Body, Then, Declared, sign, write, write_class, write_command, write_rest, write_globals, level, left_level, right_level, IsLevelled, IsCommandLevelled, IsRestLevelled}
use Rattle.vsi_syntax.specs.View.{lexeme_of, lexemes}
use Rattle.vsi_syntax.specs.Words.{keyword, is_name}
use Rattle.vsi_syntax.specs.Spelling.{IsNamed}
use Rattle.vsi_recovery.specs.declared.sort.Sort.{Sort}
use Rattle.vsi_recovery.specs.declared.sort.Sort.TheVariants as s
use Rattle.vsi_recovery.specs.declared.rules.Wanted.{Wanted}
use Rattle.vsi_recovery.specs.declared.rules.Wanted.TheVariants as w
use Rattle.vsi_recovery.specs.Goes.{IsLexemeSpelled}
use Rattle.vsi_recovery.specs.Sorts.{lexeme_sort}
use Rattle.vsi_recovery.specs.Rules.{Rule, rules}
use Rattle.vsi_recovery.proofs.Joining.{join, join_writes, join_levelled}

-- The lexeme is one of this sort: a name, a number, or that symbol.
abbrev pub Is : Sort → Lexeme → Type 0
Is s.Var x = x ≡ Sign k.Var
Is s.Letvar x = x ≡ Sign k.Letvar
Is s.In x = x ≡ Sign k.In
Is s.If x = x ≡ Sign k.If
Is s.Then x = x ≡ Sign k.Then
Is s.Else x = x ≡ Sign k.Else
Is s.While x = x ≡ Sign k.While
Is s.Do x = x ≡ Sign k.Do
Is s.Assign x = x ≡ Sign k.Assign
Is s.Colon x = x ≡ Sign k.Colon
Is s.Semicolon x = x ≡ Sign k.Semicolon
Is s.Plus x = x ≡ Sign k.Plus
Is s.Minus x = x ≡ Sign k.Minus
Is s.Star x = x ≡ Sign k.Star
Is s.Equal x = x ≡ Sign k.Equal
Is s.Less x = x ≡ Sign k.Less
Is s.Open x = x ≡ Sign k.Open
Is s.Close x = x ≡ Sign k.Close
Is s.OpenBrace x = x ≡ Sign k.OpenBrace
Is s.CloseBrace x = x ≡ Sign k.CloseBrace
Is s.Name x = (name : Named) × (x ≡ Called name)
Is s.Number x = (n : ℤ) × (x ≡ Sign (k.Number n))

-- A sample name.
abbrev pub a_name : Named
a_name = record { text = 120 ∷ []; span = record { start = 0; stop = 0 } }

-- A single letter is a name.
pub a_name_is : IsNamed a_name
unfolding is_name keyword
a_name_is = refl

-- There is a lexeme of every sort, and a text can contain it.
pub some_lexeme : (a : Sort) → (x : Lexeme) × Is a x × IsLexemeSpelled x
some_lexeme s.Var = (Sign k.Var, refl, tt)
some_lexeme s.Letvar = (Sign k.Letvar, refl, tt)
some_lexeme s.In = (Sign k.In, refl, tt)
some_lexeme s.If = (Sign k.If, refl, tt)
some_lexeme s.Then = (Sign k.Then, refl, tt)
some_lexeme s.Else = (Sign k.Else, refl, tt)
some_lexeme s.While = (Sign k.While, refl, tt)
some_lexeme s.Do = (Sign k.Do, refl, tt)
some_lexeme s.Assign = (Sign k.Assign, refl, tt)
some_lexeme s.Colon = (Sign k.Colon, refl, tt)
some_lexeme s.Semicolon = (Sign k.Semicolon, refl, tt)
some_lexeme s.Plus = (Sign k.Plus, refl, tt)
some_lexeme s.Minus = (Sign k.Minus, refl, tt)
some_lexeme s.Star = (Sign k.Star, refl, tt)
some_lexeme s.Equal = (Sign k.Equal, refl, tt)
some_lexeme s.Less = (Sign k.Less, refl, tt)
some_lexeme s.Open = (Sign k.Open, refl, tt)
some_lexeme s.Close = (Sign k.Close, refl, tt)
some_lexeme s.OpenBrace = (Sign k.OpenBrace, refl, tt)
some_lexeme s.CloseBrace = (Sign k.CloseBrace, refl, tt)
some_lexeme s.Name = (Called a_name, (a_name, refl), a_name_is)
some_lexeme s.Number = (Sign (k.Number (pos 0)), (pos 0, refl), omega arith)

-- A lexeme of this sort has the sort as its own.
pub is_sort : (a : Sort) (x : Lexeme) → Is a x → lexeme_sort x ≡ a
is_sort s.Name x i = ap lexeme_sort i.1
is_sort s.Number x i = ap lexeme_sort i.1
is_sort _ x i = ap lexeme_sort i

-- Each lexeme is one of its own sort.
abbrev pub AreProper : List Lexeme → Type 0
AreProper [] = Unit {0}
AreProper (x ∷ xs) = Is (lexeme_sort x) x × AreProper xs

-- The lexeme of a token is one of its own sort.
proper : (kind : Kind) (text : List ℕ) (span : Span) →
    Is (lexeme_sort (lexeme_of kind text span)) (lexeme_of kind text span)
proper k.Name text span = (record { text = text; span = span }, refl)
proper (k.Number n) text span = (n, refl)
proper _ text span = refl

-- The lexemes of tokens are each of their own sort.
pub tokens_proper : (ts : List Token) → AreProper (lexemes ts)
tokens_proper [] = tt
tokens_proper (t ∷ ts) = (proper t.kind t.text.now t.span, tokens_proper ts)

-- ---- the lexemes that pending parts may write.

-- An expression of this level.
abbrev pub Value : ℕ → List Lexeme → Type 0
Value l ws = (t : Tree) × IsLevelled l t × (write t ≡ ws)

-- The lexemes that continue any sum to an expression of this level.
abbrev pub Behind : ℕ → List Lexeme → Type 0
Behind l ws = (t : Tree) → IsLevelled 1 t → (u : Tree) × IsLevelled l u × (write u ≡ write t ++ ws)

-- The lexemes that this pending part may write.
abbrev pub Writes : Wanted → List Lexeme → Type 0
Writes w.Globals ws = (gs : List Declared) × (write_globals gs ≡ ws)
Writes w.Command ws = (c : Command) × IsCommandLevelled c × (write_command c ≡ ws)
Writes w.Rest ws = (cs : Body) × IsRestLevelled cs × (write_rest cs ≡ ws)
Writes w.Class ws = (class : Option Named) × (write_class class ≡ ws)
Writes w.Expression ws = Value 0 ws
Writes w.Sum ws = Value 1 ws
Writes w.Operators ws = Behind 0 ws
Writes w.SumOperators ws = Behind 1 ws
Writes (w.Token a) ws = (x : Lexeme) × Is a x × (ws ≡ x ∷ [])

-- The lexemes that these pending parts may write one after the other.
abbrev pub WritesAll : List Wanted → List Lexeme → Type 0
WritesAll [] ws = ws ≡ []
WritesAll (x ∷ xs) ws = (u : List Lexeme) × (v : List Lexeme) × (ws ≡ u ++ v) × Writes x u × WritesAll xs v

-- A token, and the lexemes after it.
pub record IsTokenThen (a : Sort) (xs : List Wanted) (ws : List Lexeme) : Type 0 where
  pub token : Lexeme
  pub behind : List Lexeme
  pub is : Is a token
  pub parts : ws ≡ token ∷ behind
  pub writes : WritesAll xs behind

-- If a token is pending first, the lexemes begin with one.
token_first : (a : Sort) (xs : List Wanted) (ws : List Lexeme) → WritesAll (w.Token a ∷ xs) ws → IsTokenThen a xs ws
token_first a xs ws p =
    record {
      token = p.3.0;
      behind = p.1;
      is = p.3.1;
      parts = p.2 ∙ ap (λ (y : List Lexeme). y ++ p.1) p.3.2;
      writes = p.4;
    }

-- A single pending part writes all the lexemes.
last : (x : Wanted) (ws : List Lexeme) → WritesAll (x ∷ []) ws → Writes x ws
last x ws p = subst (Writes x) (sym (p.2 ∙ ap (λ (y : List Lexeme). p.0 ++ y) p.4 ∙ append-nil p.0)) p.3

-- ---- rules.

-- A lexeme of the rule's sort, followed by the rule's parts, is a form of the pending part.
abbrev pub RuleHolds : Wanted → Rule → Type 0
RuleHolds x r = (y : Lexeme) (u : List Lexeme) → Is r.sort y → WritesAll r.parts u → Writes x (y ∷ u)

-- All these rules hold.
abbrev pub AllHold : Wanted → List Rule → Type 0
AllHold x [] = Unit {0}
AllHold x (r ∷ rs) = RuleHolds x r × AllHold x rs

-- A global.
global_holds : (y : Lexeme) (u : List Lexeme) → Is s.Var y →
    WritesAll (w.Token s.Name ∷ w.Token s.Colon ∷ w.Token s.Name ∷ w.Token s.Semicolon ∷ w.Globals ∷ []) u →
    Writes w.Globals (y ∷ u)
global_holds y u i p =
    let xs₃ = w.Token s.Semicolon ∷ w.Globals ∷ [] in
    let xs₂ = w.Token s.Name ∷ xs₃ in
    let xs₁ = w.Token s.Colon ∷ xs₂ in
    let a = token_first s.Name xs₁ u p in
    let b = token_first s.Colon xs₂ a.behind a.writes in
    let c = token_first s.Name xs₃ b.behind b.writes in
    let d = token_first s.Semicolon (w.Globals ∷ []) c.behind c.writes in
    let e = last w.Globals d.behind d.writes in (
      record { name = a.is.0; class = c.is.0 } ∷ e.0,
      let e₁ = a.parts in let e₂ = a.is.1 in let e₃ = b.parts in let e₄ = b.is in let e₅ = c.parts in
          let e₆ = c.is.1 in let e₇ = d.parts in let e₈ = d.is in let e₉ = e.1 in cc,
    )

-- An assignment.
assign_holds : (y : Lexeme) (u : List Lexeme) → Is s.Name y → WritesAll (w.Token s.Assign ∷ w.Expression ∷ []) u →
    Writes w.Command (y ∷ u)
assign_holds y u i p =
    let a = token_first s.Assign (w.Expression ∷ []) u p in let e = last w.Expression a.behind a.writes in (
      Assign i.0 e.0,
      e.1,
      let e₁ = i.1 in let e₂ = a.parts in let e₃ = a.is in let e₄ = e.2 in cc,
    )

-- A choice.
choice_holds : (y : Lexeme) (u : List Lexeme) → Is s.If y →
    WritesAll (w.Expression ∷ w.Token s.Then ∷ w.Command ∷ w.Token s.Else ∷ w.Command ∷ []) u →
    Writes w.Command (y ∷ u)
choice_holds y u i p =
    let a = token_first s.Then (w.Command ∷ w.Token s.Else ∷ w.Command ∷ []) p.1 p.4 in
    let q = a.writes in
    let b = token_first s.Else (w.Command ∷ []) q.1 q.4 in
    let d = last w.Command b.behind b.writes in (
      If p.3.0 q.3.0 d.0,
      (p.3.1, q.3.1, d.1),
      let e₁ = p.2 in let e₂ = p.3.2 in let e₃ = a.parts in let e₄ = a.is in let e₅ = q.2 in
          let e₆ = q.3.2 in let e₇ = b.parts in let e₈ = b.is in let e₉ = d.2 in cc,
    )

-- A loop.
loop_holds : (y : Lexeme) (u : List Lexeme) → Is s.While y →
    WritesAll (w.Expression ∷ w.Token s.Do ∷ w.Command ∷ []) u → Writes w.Command (y ∷ u)
loop_holds y u i p =
    let a = token_first s.Do (w.Command ∷ []) p.1 p.4 in let d = last w.Command a.behind a.writes in (
      While p.3.0 d.0,
      (p.3.1, d.1),
      let e₁ = p.2 in let e₂ = p.3.2 in let e₃ = a.parts in let e₄ = a.is in let e₅ = d.2 in cc,
    )

-- A local variable.
local_holds : (y : Lexeme) (u : List Lexeme) → Is s.Letvar y →
    WritesAll (w.Token s.Name ∷ w.Class ∷ w.Token s.Assign ∷ w.Expression ∷ w.Token s.In ∷ w.Command ∷ []) u →
    Writes w.Command (y ∷ u)
local_holds y u i p =
    let xs₂ = w.Expression ∷ w.Token s.In ∷ w.Command ∷ [] in
    let a = token_first s.Name (w.Class ∷ w.Token s.Assign ∷ xs₂) u p in
    let q = a.writes in
    let b = token_first s.Assign xs₂ q.1 q.4 in
    let e = b.writes in
    let f = token_first s.In (w.Command ∷ []) e.1 e.4 in
    let d = last w.Command f.behind f.writes in (
      Letvar a.is.0 q.3.0 e.3.0 d.0,
      (e.3.1, d.1),
      let e₁ = a.parts in let e₂ = a.is.1 in let e₃ = q.2 in let e₄ = q.3.1 in let e₅ = b.parts in
          let e₆ = b.is in let e₇ = e.2 in let e₈ = e.3.2 in let e₉ = f.parts in let f₁ = f.is in
          let f₂ = d.2 in cc,
    )

-- A block.
block_holds : (y : Lexeme) (u : List Lexeme) → Is s.OpenBrace y →
    WritesAll (w.Command ∷ w.Rest ∷ w.Token s.CloseBrace ∷ []) u → Writes w.Command (y ∷ u)
block_holds y u i p =
    let q = p.4 in let b = last (w.Token s.CloseBrace) q.1 q.4 in (
      Block (Then p.3.0 q.3.0),
      (p.3.1, q.3.1),
      let e₁ = p.2 in let e₂ = p.3.2 in let e₃ = q.2 in let e₄ = q.3.2 in let e₅ = b.2 in let e₆ = b.1 in
          let e₇ = append_assoc (write_command p.3.0) (write_rest q.3.0) (Sign k.CloseBrace ∷ []) in cc,
    )

-- Another command.
rest_holds : (y : Lexeme) (u : List Lexeme) → Is s.Semicolon y → WritesAll (w.Command ∷ w.Rest ∷ []) u →
    Writes w.Rest (y ∷ u)
rest_holds y u i p =
    let d = last w.Rest p.1 p.4 in (
      Then p.3.0 d.0,
      (p.3.1, d.1),
      let e₁ = p.2 in let e₂ = p.3.2 in let e₃ = d.2 in cc,
    )

-- A class.
class_holds : (y : Lexeme) (u : List Lexeme) → Is s.Colon y → WritesAll (w.Token s.Name ∷ []) u →
    Writes w.Class (y ∷ u)
class_holds y u i p =
    let a = last (w.Token s.Name) u p in (Some a.1.0, let e₁ = a.2 in let e₂ = a.1.1 in cc)

-- A name, and its continuation.
name_value : (l : ℕ) (y : Lexeme) (u : List Lexeme) → Is s.Name y → Behind l u → Value l (y ∷ u)
name_value l y u i b =
    let r = b (Name i.0) tt in (r.0, r.1, r.2 ∙ ap (λ (x : Lexeme). x ∷ u) (sym i.1))

-- A number, and its continuation.
number_value : (l : ℕ) (y : Lexeme) (u : List Lexeme) → Is s.Number y → Behind l u → Value l (y ∷ u)
number_value l y u i b =
    let r = b (Number i.0) tt in (r.0, r.1, r.2 ∙ ap (λ (x : Lexeme). x ∷ u) (sym i.1))

-- A bracket, and its continuation.
bracket_value : (l : ℕ) (y close : Lexeme) (u v r : List Lexeme) → Is s.Open y → Is s.Close close → Value 0 v →
    u ≡ v ++ close ∷ r → Behind l r → Value l (y ∷ u)
bracket_value l y close u v r i j e parts b =
    let t = b (Bracket e.0) e.1 in (
      t.0,
      t.1,
      t.2 ∙ ap (λ (x : List Lexeme). Sign k.Open ∷ x) (append_assoc (write e.0) (Sign k.Close ∷ []) r)
          ∙ rw (i, parts, j, e.2) refl,
    )

-- An operator followed by an expression.
operator_value : (l : ℕ) (op : Op) (y : Lexeme) (u : List Lexeme) → l ≤ 1 → 1 ≤ level op → y ≡ Sign (sign op) →
    Value l u → Behind l (y ∷ u)
operator_value l op y u low sum i e t lt =
    (join op t e.0, join_levelled l op t e.0 low sum lt e.1, join_writes op t e.0 ∙ rw (i, e.2) refl)

-- A comparison operator followed by a sum.
comparison_value : (op : Op) (y : Lexeme) (u : List Lexeme) → left_level op ≡ 1 → right_level op ≡ 1 →
    y ≡ Sign (sign op) → Value 1 u → Behind 0 (y ∷ u)
comparison_value op y u left right i e t lt =
    (Binary op t e.0, (omega arith, rw left lt, rw right e.1), rw (i, e.2) refl)

-- The rules of an expression.
expression_holds : AllHold w.Expression (rules w.Expression)
expression_holds = (
  λ y u i p. name_value 0 y u i (last w.Operators u p),
  (
    λ y u i p. number_value 0 y u i (last w.Operators u p),
    (
      λ y u i p.
          let a = token_first s.Close (w.Operators ∷ []) p.1 p.4 in
          bracket_value 0 y a.token u p.0 a.behind i a.is p.3 (p.2 ∙ ap (λ (x : List Lexeme). p.0 ++ x) a.parts)
          (last w.Operators a.behind a.writes),
      tt,
    ),
  ),
)

-- The rules of a sum.
sum_holds : AllHold w.Sum (rules w.Sum)
sum_holds = (
  λ y u i p. name_value 1 y u i (last w.SumOperators u p),
  (
    λ y u i p. number_value 1 y u i (last w.SumOperators u p),
    (
      λ y u i p.
          let a = token_first s.Close (w.SumOperators ∷ []) p.1 p.4 in
          bracket_value 1 y a.token u p.0 a.behind i a.is p.3 (p.2 ∙ ap (λ (x : List Lexeme). p.0 ++ x) a.parts)
          (last w.SumOperators a.behind a.writes),
      tt,
    ),
  ),
)

-- The rules after an operand.
operators_hold : AllHold w.Operators (rules w.Operators)
operators_hold = (
  λ y u i p. operator_value 0 o.Add y u (omega arith) (omega arith) i (last w.Expression u p),
  (
    λ y u i p. operator_value 0 o.Sub y u (omega arith) (omega arith) i (last w.Expression u p),
    (
      λ y u i p. operator_value 0 o.Mul y u (omega arith) (omega arith) i (last w.Expression u p),
      (
        λ y u i p. comparison_value o.Eq y u refl refl i (last w.Sum u p),
        (
          λ y u i p. comparison_value o.Lt y u refl refl i (last w.Sum u p),
          tt,
        ),
      ),
    ),
  ),
)

-- The rules after an operand if a comparison was read.
sum_operators_hold : AllHold w.SumOperators (rules w.SumOperators)
sum_operators_hold = (
  λ y u i p. operator_value 1 o.Add y u (omega arith) (omega arith) i (last w.Sum u p),
  (
    λ y u i p. operator_value 1 o.Sub y u (omega arith) (omega arith) i (last w.Sum u p),
    (
      λ y u i p. operator_value 1 o.Mul y u (omega arith) (omega arith) i (last w.Sum u p),
      tt,
    ),
  ),
)

-- All rules hold.
pub rules_hold : (x : Wanted) → AllHold x (rules x)
rules_hold w.Globals = (global_holds, tt)
rules_hold w.Command = (assign_holds, (choice_holds, (loop_holds, (local_holds, (block_holds, tt)))))
rules_hold w.Rest = (rest_holds, tt)
rules_hold w.Class = (class_holds, tt)
rules_hold w.Expression = expression_holds
rules_hold w.Sum = sum_holds
rules_hold w.Operators = operators_hold
rules_hold w.SumOperators = sum_operators_hold
rules_hold (w.Token a) = (λ y u i p. (y, i, ap (λ (x : List Lexeme). y ∷ x) p), tt)
