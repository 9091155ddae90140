-- A sum continued by an operator and an expression.
use Rattle.std.proofs.Common.{◌≡◌, ℕ, ◌≤◌, List, ◌∷◌, ◌++◌, refl, sym, ap, ◌∙◌, append_assoc, arith}
use Rattle.vsi_syntax.specs.declared.token.Kind.TheVariants as k
use Rattle.vsi_syntax.specs.declared.tree.Op.{Op}
use Rattle.vsi_syntax.specs.declared.tree.Op.TheVariants as o
use Rattle.vsi_syntax.specs.Tree.{Lexeme, Sign, Tree, Number, Name, Bracket, Binary, sign, write, level, left_level, right_level, IsLevelled}

-- An expression that is levelled at one level is levelled at every level below it.
pub weaken : (l m : ℕ) (t : Tree) → IsLevelled l t → m ≤ l → IsLevelled m t
weaken l m (Number n) h le = tt
weaken l m (Name x) h le = tt
weaken l m (Bracket e) h le = h
weaken l m (Binary op a b) h le = (omega (arith, h.0, le), h.1, h.2)

-- The sum with its last term multiplied.
abbrev times : Tree → Tree → Tree
times (Binary o.Add a b) x = Binary o.Add a (Binary o.Mul b x)
times (Binary o.Sub a b) x = Binary o.Sub a (Binary o.Mul b x)
times t x = Binary o.Mul t x

-- The sum continued by an operator and its right operand.
abbrev put : Op → Tree → Tree → Tree
put o.Mul t x = times t x
put op t x = Binary op t x

-- The sum continued by an operator and an expression.
abbrev pub join : Op → Tree → Tree → Tree
join op t (Binary op' a b) = put op' (join op t a) b
join op t x = put op t x

-- The product is written after the sum.
times_writes : (t x : Tree) → write (times t x) ≡ write t ++ Sign k.Star ∷ write x
times_writes (Binary o.Add a b) x = sym (append_assoc (write a) (Sign k.Plus ∷ write b) (Sign k.Star ∷ write x))
times_writes (Binary o.Sub a b) x = sym (append_assoc (write a) (Sign k.Minus ∷ write b) (Sign k.Star ∷ write x))
times_writes (Binary o.Mul a b) x = refl
times_writes (Binary o.Eq a b) x = refl
times_writes (Binary o.Lt a b) x = refl
times_writes (Number n) x = refl
times_writes (Name n) x = refl
times_writes (Bracket e) x = refl

-- The operator and the operand are written after the sum.
put_writes : (op : Op) (t x : Tree) → write (put op t x) ≡ write t ++ Sign (sign op) ∷ write x
put_writes o.Mul t x = times_writes t x
put_writes o.Add t x = refl
put_writes o.Sub t x = refl
put_writes o.Eq t x = refl
put_writes o.Lt t x = refl

-- The operator and the expression are written after the sum.
pub join_writes : (op : Op) (t v : Tree) → write (join op t v) ≡ write t ++ Sign (sign op) ∷ write v
join_writes op t (Number n) = put_writes op t (Number n)
join_writes op t (Name n) = put_writes op t (Name n)
join_writes op t (Bracket e) = put_writes op t (Bracket e)
join_writes op t (Binary op' a b) =
    put_writes op' (join op t a) b
    ∙ ap (λ (x : List Lexeme). x ++ Sign (sign op') ∷ write b) (join_writes op t a)
    ∙ append_assoc (write t) (Sign (sign op) ∷ write a) (Sign (sign op') ∷ write b)

-- A sum with its last term multiplied is a sum.
times_levelled : (l : ℕ) (t x : Tree) → l ≤ 1 → IsLevelled 1 t → IsLevelled 3 x → IsLevelled l (times t x)
times_levelled l (Binary o.Add a b) x low lt lx = (low, lt.1, (omega arith, lt.2, lx))
times_levelled l (Binary o.Sub a b) x low lt lx = (low, lt.1, (omega arith, lt.2, lx))
times_levelled l (Binary o.Mul a b) x low lt lx = (omega (arith, low), (omega arith, lt.1, lt.2), lx)
times_levelled l (Binary o.Eq a b) x low lt lx = absurd (let h = lt.0 in omega (arith, h))
times_levelled l (Binary o.Lt a b) x low lt lx = absurd (let h = lt.0 in omega (arith, h))
times_levelled l (Number n) x low lt lx = (omega (arith, low), tt, lx)
times_levelled l (Name n) x low lt lx = (omega (arith, low), tt, lx)
times_levelled l (Bracket e) x low lt lx = (omega (arith, low), lt, lx)

-- A sum continued by an operator and its right operand is an expression of the operator's level.
put_levelled : (l : ℕ) (op : Op) (t x : Tree) → l ≤ 1 → l ≤ level op → IsLevelled 1 t → IsLevelled (right_level op) x →
    IsLevelled l (put op t x)
put_levelled l o.Mul t x low up lt lx = times_levelled l t x low lt lx
put_levelled l o.Add t x low up lt lx = (up, lt, lx)
put_levelled l o.Sub t x low up lt lx = (up, lt, lx)
put_levelled l o.Eq t x low up lt lx = (up, lt, lx)
put_levelled l o.Lt t x low up lt lx = (up, lt, lx)

-- A sum is allowed as the left operand of every operator.
pub left_sum : (op : Op) → 1 ≤ left_level op
left_sum o.Add = omega arith
left_sum o.Sub = omega arith
left_sum o.Mul = omega arith
left_sum o.Eq = omega arith
left_sum o.Lt = omega arith

-- The right operand of every operator is a sum.
pub right_sum : (op : Op) → 1 ≤ right_level op
right_sum o.Add = omega arith
right_sum o.Sub = omega arith
right_sum o.Mul = omega arith
right_sum o.Eq = omega arith
right_sum o.Lt = omega arith

-- A sum continued by an arithmetic operator and an expression is an expression of its level.
pub join_levelled : (l : ℕ) (op : Op) (t v : Tree) → l ≤ 1 → 1 ≤ level op → IsLevelled 1 t → IsLevelled l v →
    IsLevelled l (join op t v)
join_levelled l op t (Number n) low sum lt lv = put_levelled l op t (Number n) low (omega (arith, low, sum)) lt tt
join_levelled l op t (Name n) low sum lt lv = put_levelled l op t (Name n) low (omega (arith, low, sum)) lt tt
join_levelled l op t (Bracket e) low sum lt lv = put_levelled l op t (Bracket e) low (omega (arith, low, sum)) lt lv
join_levelled l op t (Binary op' a b) low sum lt lv =
    put_levelled l op' (join op t a) b low lv.0
    (join_levelled 1 op t a (omega arith) sum lt (weaken (left_level op') 1 a lv.1 (left_sum op'))) lv.2
