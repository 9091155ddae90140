-- Operators, their levels, and the end of an expression.
use Rattle.std.proofs.Common.{◌≡◌, ℕ, ◌<◌, ◌≤◌, Bool, true, false, cond, List, [], ◌∷◌, Option, Some, None, refl, sym, ap, subst, arith, lit<, lit≤}
use Rattle.std.proofs.lemmas.Grind.{common_steps}
use Rattle.vsi_syntax.specs.declared.token.Kind.{Kind}
use Rattle.vsi_syntax.specs.declared.token.Kind.TheVariants as k
use Rattle.vsi_syntax.specs.declared.tree.Op.{Op}
use Rattle.vsi_syntax.specs.declared.tree.Op.TheVariants as o
use Rattle.vsi_syntax.specs.Tree.{Lexeme, Called, Sign, sign, Tree, Number, Name, Bracket, Binary, level, left_level, right_level, IsLevelled}
use Rattle.vsi_syntax.proofs.Pairs.{some_left, some_right}
use Rattle.vsi_syntax.specs.Parsing.{own_level, operator, goes_on, only_if, next}

-- A symbol that is an operator is the symbol of that operator.
pub operator_is : (kind : Kind) (op : Op) → operator kind ≡ Some op → kind ≡ sign op
operator_is k.Plus op h = let e : o.Add ≡ op = cc in ap sign e
operator_is k.Minus op h = let e : o.Sub ≡ op = cc in ap sign e
operator_is k.Star op h = let e : o.Mul ≡ op = cc in ap sign e
operator_is k.Equal op h = let e : o.Eq ≡ op = cc in ap sign e
operator_is k.Less op h = let e : o.Lt ≡ op = cc in ap sign e
operator_is _ op h = absurd cc

-- The symbol of an operator denotes that operator.
pub operator_sign : (op : Op) → operator (sign op) ≡ Some op
operator_sign o.Add = refl
operator_sign o.Sub = refl
operator_sign o.Mul = refl
operator_sign o.Eq = refl
operator_sign o.Lt = refl

-- The expression of an operator is not an atom.
pub level_low : (op : Op) → level op < 3
level_low o.Add = lit< tt
level_low o.Sub = lit< tt
level_low o.Mul = lit< tt
level_low o.Eq = lit< tt
level_low o.Lt = lit< tt

-- The left operand of an operator has at least the operator's level.
pub level_left : (op : Op) → level op ≤ left_level op
level_left o.Add = lit≤ tt
level_left o.Sub = lit≤ tt
level_left o.Mul = lit≤ tt
level_left o.Eq = lit≤ tt
level_left o.Lt = lit≤ tt

-- The right operand of an operator has a higher level than the operator.
pub level_right : (op : Op) → level op < right_level op
level_right o.Add = lit< tt
level_right o.Sub = lit< tt
level_right o.Mul = lit< tt
level_right o.Eq = lit< tt
level_right o.Lt = lit< tt

-- An atom is allowed as the left operand of every operator.
pub left_low : (op : Op) → left_level op ≤ 3
left_low o.Add = lit≤ tt
left_low o.Sub = lit≤ tt
left_low o.Mul = lit≤ tt
left_low o.Eq = lit≤ tt
left_low o.Lt = lit≤ tt

-- An atom is allowed as the right operand of every operator.
pub right_low : (op : Op) → right_level op ≤ 3
right_low o.Add = lit≤ tt
right_low o.Sub = lit≤ tt
right_low o.Mul = lit≤ tt
right_low o.Eq = lit≤ tt
right_low o.Lt = lit≤ tt

-- An expression is levelled at every level up to its own.
pub relevel : (l m : ℕ) (t : Tree) → IsLevelled l t → m ≤ own_level t → IsLevelled m t
relevel l m (Number n) h le = tt
relevel l m (Name x) h le = tt
relevel l m (Bracket e) h le = h
relevel l m (Binary op a b) h le = (le, h.1, h.2)

-- A levelled tree has at least the required level.
pub own_over : (l : ℕ) (t : Tree) → IsLevelled l t → l ≤ 3 → l ≤ own_level t
own_over l (Number n) h le = le
own_over l (Name x) h le = le
own_over l (Bracket e) h le = le
own_over l (Binary op a b) h le = h.0

-- ---- the next operator.

-- An operator whose level is high enough continues an expression after an allowed left operand.
pub goes_true : (l left : ℕ) (op : Op) → l ≤ level op → left_level op ≤ left → goes_on l left op ≡ true
goes_true l left op h k = grind (arith, common_steps)

-- An operator that continues an expression has a level that is high enough and an allowed left operand.
pub true_goes : (l left : ℕ) (op : Op) → goes_on l left op ≡ true → (l ≤ level op) × (left_level op ≤ left)
true_goes l left op h = (grind (arith, common_steps), grind (arith, common_steps))

-- The symbol of an operator that continues an expression is read as that operator.
pub next_sign : (l left : ℕ) (op : Op) (ws : List Lexeme) → l ≤ level op → left_level op ≤ left →
    next l left (Sign (sign op) ∷ ws) ≡ Some (op, ws)
unfolding next
next_sign l left op ws h k = rw (operator_sign op) (rw (goes_true l left op h k) refl)

-- An operator and the lexemes after it, if a test holds.
abbrev pub only : Bool → Op → List Lexeme → Option (Op × List Lexeme)
only b op rest = cond b (Some (op, rest)) None

-- If the guarded result is something, the test held, and the operator and the lexemes are these.
only_is : (b : Bool) (p op : Op) (rest ws : List Lexeme) → only b p rest ≡ Some (op, ws) → (b ≡ true) × (p ≡ op)
    × (rest ≡ ws)
only_is true p op rest ws h = (refl, some_left p op rest ws h, some_right p op rest ws h)
only_is false p op rest ws h = absurd cc

-- If an operator continues the expression, it is the one that was found, and the lexemes after it are left.
only_if_is : (l left : ℕ) (op : Op) (rest ws : List Lexeme) (o : Option Op) → only_if l left rest o ≡ Some (op, ws) →
    (o ≡ Some op) × (rest ≡ ws) × (goes_on l left op ≡ true)
only_if_is l left op rest ws None h = absurd cc
only_if_is l left op rest ws (Some p) h =
    let k = only_is (goes_on l left p) p op rest ws h in
    (ap (λ (x : Op). Some x) k.1, k.2, rw (← k.1) (k.0))

-- If an operator continues the expression, the lexemes begin with its symbol, and its levels fit.
pub next_is : (l left : ℕ) (ws : List Lexeme) (op : Op) (rest : List Lexeme) → next l left ws ≡ Some (op, rest) →
    (ws ≡ Sign (sign op) ∷ rest) × (l ≤ level op) × (left_level op ≤ left)
unfolding next
next_is l left [] op rest h = absurd cc
next_is l left (Called x ∷ ws) op rest h = absurd cc
next_is l left (Sign kind ∷ ws) op rest h =
    let p = only_if_is l left op ws rest (operator kind) h in
    let g = true_goes l left op p.2 in
    (rw (operator_is kind op p.0, p.1) refl, g.0, g.1)

-- ---- the end of an expression: no operator of this level or a higher one follows.

-- No operator was found, or one of a level below this one.
abbrev pub EndsAt : ℕ → Option Op → Type 0
EndsAt l None = Unit {0}
EndsAt l (Some op) = level op < l

-- The lexemes do not begin with an operator of this level or a higher one.
abbrev pub Ends : ℕ → List Lexeme → Type 0
Ends l [] = Unit {0}
Ends l (Called x ∷ ws) = Unit {0}
Ends l (Sign kind ∷ ws) = EndsAt l (operator kind)

-- The end of an expression of one level is the end of one of a higher level, for an operator.
ends_at_up : (l m : ℕ) (o : Option Op) → l ≤ m → EndsAt l o → EndsAt m o
ends_at_up l m None le h = tt
ends_at_up l m (Some op) le h = omega arith

-- The end of an expression of one level is the end of one of a higher level.
pub ends_up : (l m : ℕ) (ws : List Lexeme) → l ≤ m → Ends l ws → Ends m ws
ends_up l m [] le h = tt
ends_up l m (Called x ∷ ws) le h = tt
ends_up l m (Sign kind ∷ ws) le h = ends_at_up l m (operator kind) le h

-- An operator of a lower level does not continue the expression.
goes_false : (l left : ℕ) (op : Op) → level op < l → goes_on l left op ≡ false
goes_false l left op h = grind (arith, common_steps)

-- At the end of an expression no operator is taken.
only_if_none : (l left : ℕ) (rest : List Lexeme) (o : Option Op) → EndsAt l o → only_if l left rest o ≡ None
only_if_none l left rest None h = refl
only_if_none l left rest (Some op) h = rw (goes_false l left op h) refl

-- Lexemes that end an expression have no operator that continues it.
pub ends_next : (l left : ℕ) (ws : List Lexeme) → Ends l ws → next l left ws ≡ None
unfolding next
ends_next l left [] h = refl
ends_next l left (Called x ∷ ws) h = refl
ends_next l left (Sign kind ∷ ws) h = only_if_none l left ws (operator kind) h

-- The least level of an operator that would bind to the right edge of the tree.
abbrev pub edge : Tree → ℕ
edge (Number n) = 3
edge (Name x) = 3
edge (Bracket e) = 3
edge (Binary op a b) = right_level op

-- A tree's own level is at most that of its right edge.
pub edge_own : (t : Tree) → own_level t ≤ edge t
edge_own (Number n) = lit≤ tt
edge_own (Name x) = lit≤ tt
edge_own (Bracket e) = lit≤ tt
edge_own (Binary op a b) = omega (arith, level_right op)

-- An operator has a lower level than the right edge of any operand allowed on its left.
pub edge_over : (op : Op) (t : Tree) → left_level op ≤ own_level t → level op < edge t
edge_over op (Number n) h = level_low op
edge_over op (Name x) h = level_low op
edge_over op (Bracket e) h = level_low op
edge_over op (Binary p a b) h = omega (arith, level_left op, level_right p)

-- An operator of a lower level ends an expression.
pub sign_ends : (op : Op) (l : ℕ) (ws : List Lexeme) → level op < l → Ends l (Sign (sign op) ∷ ws)
sign_ends op l ws h = subst (λ (o : Option Op). EndsAt l o) (sym (operator_sign op)) h
