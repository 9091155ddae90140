-- Reading an expression from the left, as a function on lexemes. This is a stepping stone of the proof: the code is
-- compared with it, and it finds exactly the levelled trees of a bounded depth that write the lexemes. The promises of
-- `parse` concern `write_program`, levels and depth, and none of the readers here.
use Rattle.std.specs.Prelude.{ℕ, zero, suc, Bool, ◌&&◌, nat_le, nat_lt, if◌then◌else◌, List, [], ◌∷◌, Option, Some, None}
use Rattle.vsi_syntax.specs.declared.token.Kind.{Kind}
use Rattle.vsi_syntax.specs.declared.token.Kind.TheVariants as k
use Rattle.vsi_syntax.specs.declared.tree.Op.{Op}
use Rattle.vsi_syntax.specs.declared.tree.Op.TheVariants as o
use Rattle.vsi_syntax.specs.Tree.{Lexeme, Called, Sign, Tree, Number, Name, Bracket, Binary, level, left_level, right_level, depth}

-- The second reader continues if the first found something.
infixl 10 ◌>>=◌
abbrev pub ◌>>=◌ : {A B : Type 0} → Option A → (A → Option B) → Option B
None >>= f = None
(Some x) >>= f = f x

-- The operator that a symbol denotes.
abbrev pub operator : Kind → Option Op
operator k.Plus = Some o.Add
operator k.Minus = Some o.Sub
operator k.Star = Some o.Mul
operator k.Equal = Some o.Eq
operator k.Less = Some o.Lt
operator _ = None

-- The level of a tree by itself.
abbrev pub own_level : Tree → ℕ
own_level (Number n) = 3
own_level (Name x) = 3
own_level (Bracket e) = 3
own_level (Binary op a b) = level op

-- Whether an operator continues an expression of this level after this left operand.
abbrev pub goes_on : ℕ → ℕ → Op → Bool
goes_on l left op = nat_le l (level op) && nat_le (left_level op) left

-- The operator that was found, only if it continues the expression at this level.
abbrev pub only_if : ℕ → ℕ → List Lexeme → Option Op → Option (Op × List Lexeme)
only_if l left rest None = None
only_if l left rest (Some op) = if goes_on l left op then Some (op, rest) else None

-- The operator that continues the expression, and the lexemes after it.
unfoldable pub next : ℕ → ℕ → List Lexeme → Option (Op × List Lexeme)
next l left [] = None
next l left (Called x ∷ ws) = None
next l left (Sign kind ∷ ws) = only_if l left ws (operator kind)

-- A reader that takes a tree of a level from the front and leaves the lexemes after it.
abbrev pub Reads : Type 0
Reads = ℕ → List Lexeme → Option (Tree × List Lexeme)

-- The reader that reads no tree.
abbrev pub nothing : Reads
nothing l ws = None

-- The lexemes after a closing bracket.
abbrev pub closing : List Lexeme → Option (List Lexeme)
closing [] = None
closing (Called x ∷ ws) = None
closing (Sign k.Close ∷ ws) = Some ws
closing (Sign _ ∷ ws) = None

-- The bracketed expression, if a closing bracket follows.
abbrev pub rounded : Tree × List Lexeme → Option (Tree × List Lexeme)
rounded r = closing r.1 >>= λ rest. Some (Bracket r.0, rest)

-- An atom that begins with this lexeme, which is not a name.
abbrev pub sign_first : Reads → Kind → List Lexeme → Option (Tree × List Lexeme)
sign_first inner (k.Number n) ws = Some (Number n, ws)
sign_first inner k.Open ws = inner 0 ws >>= rounded
sign_first inner _ ws = None

-- An atom.
unfoldable pub first : Reads → List Lexeme → Option (Tree × List Lexeme)
first inner [] = None
first inner (Called x ∷ ws) = Some (Name x, ws)
first inner (Sign kind ∷ ws) = sign_first inner kind ws

-- One answer if no operator continues the expression, another computed from the operator and the lexemes after it.
abbrev pub go : {X : Type 0} → X → (Op → List Lexeme → X) → Option (Op × List Lexeme) → X
go stop more None = stop
go stop more (Some p) = more p.0 p.1

-- At most `turns` further operators, each with its right operand, up to the depth `room`.
unfoldable pub more : Reads → ℕ → ℕ → ℕ → Tree → List Lexeme → Option (Tree × List Lexeme)
more inner zero room l left ws = go (Some (left, ws)) (λ op rest. None) (next l (own_level left) ws)
more inner (suc turns) room l left ws =
    go (Some (left, ws))
    (λ op rest. if nat_lt (depth left) room then
    (inner (right_level op) rest >>= λ r. more inner turns room l (Binary op left r.0) r.1) else None)
    (next l (own_level left) ws)

-- An expression at a level: an atom, and then the operators that continue it.
abbrev pub whole : Reads → ℕ → Reads
whole inner room l ws = first inner ws >>= λ r. more inner room room l r.0 r.1

-- An expression of at most this depth.
unfoldable pub parse : ℕ → Reads
parse zero l ws = whole nothing zero l ws
parse (suc room) l ws = whole (parse room) (suc room) l ws

-- The reader inside a bracket or of a right operand, if this depth is left.
abbrev pub inside : ℕ → Reads
inside zero = nothing
inside (suc room) = parse room
