-- One turn of reading an expression.
use Rattle.std.proofs.Common.{◌≡◌, ℕ, zero, suc, ◌+◌, ◌-◌, ◌<◌, ◌≤◌, Bool, true, false, cond, ltb, max, List, Option, Some, None, refl, sym, ◌∙◌, arith}
use Rattle.std.proofs.lemmas.Bool.{lt-ltb, le-ltb}
use Rattle.vsi_syntax.specs.declared.tree.Op.{Op}
use Rattle.vsi_syntax.specs.Tree.{Lexeme, Tree, Binary, right_level, depth}
use Rattle.vsi_syntax.specs.declared.parser.Fault.{Fault}
use Rattle.vsi_syntax.specs.declared.parser.Fault.TheVariants as fault
use Rattle.vsi_syntax.specs.Stopped.{Fails}
use Rattle.vsi_syntax.specs.Parsing.{own_level, next, Reads, first, more, whole, parse, inside}

-- An expression of bounded depth is read with `inside` as the reader for its brackets and right operands.
pub parse_is : (room l : ℕ) (ws : List Lexeme) → parse room l ws ≡ whole (inside room) room l ws
unfolding parse
parse_is zero l ws = refl
parse_is (suc room) l ws = refl

-- After a first atom, reading an expression continues from that atom.
pub parse_starts : (room l : ℕ) (ws rest : List Lexeme) (t : Tree) → first (inside room) ws ≡ Some (t, rest) →
    more (inside room) room room l t rest ≡ parse room l ws
parse_starts room l ws rest t h = sym (parse_is room l ws ∙ rw h refl)

-- If there is no first atom, there is no expression.
pub parse_fails : (room l : ℕ) (ws : List Lexeme) → first (inside room) ws ≡ None → parse room l ws ≡ None
parse_fails room l ws h = parse_is room l ws ∙ rw h refl

-- If no operator continues the expression, reading ends with the tree so far.
pub more_stops : (inner : Reads) (n room l : ℕ) (t : Tree) (ws : List Lexeme) → next l (own_level t) ws ≡ None →
    more inner n room l t ws ≡ Some (t, ws)
unfolding more
more_stops inner zero room l t ws h = rw h refl
more_stops inner (suc n) room l t ws h = rw h refl

-- If an operator continues a tree that already has the full depth, nothing is read.
pub more_deep : (inner : Reads) (n room l : ℕ) (t : Tree) (ws after : List Lexeme) (op : Op) → next l (own_level t) ws
    ≡ Some (op, after) → room ≤ depth t → more inner n room l t ws ≡ None
unfolding more
more_deep inner zero room l t ws after op h deep = rw h refl
more_deep inner (suc n) room l t ws after op h deep = rw h (rw (le-ltb (depth t) room deep) refl)

-- A choice between equal values is that value.
same_cond : {X : Type 0} (b : Bool) (x : X) → cond b x x ≡ x
same_cond true x = refl
same_cond false x = refl

-- If an operator continues the expression but has no right operand, nothing is read.
pub more_fails : (inner : Reads) (n room l : ℕ) (t : Tree) (ws after : List Lexeme) (op : Op) → next l (own_level t) ws
    ≡ Some (op, after) → inner (right_level op) after ≡ None → more inner n room l t ws ≡ None
unfolding more
more_fails inner zero room l t ws after op h none = rw h refl
more_fails inner (suc n) room l t ws after op h none = rw (h, none) (same_cond (ltb (depth t) room) None)

-- The result that remains to be read, given enough turns.
abbrev pub LeftOver : ℕ → ℕ → Tree → List Lexeme → Option (Tree × List Lexeme) → Type 0
LeftOver room l t ws total = (n : ℕ) × (room ≤ n + depth t) × (more (inside room) n room l t ws ≡ total)

-- If an operator continues the expression and has a right operand, reading continues from both under that operator.
pub more_turns : (room l n : ℕ) (t r : Tree) (ws after behind : List Lexeme) (op : Op)
    (total : Option (Tree × List Lexeme)) → next l (own_level t) ws ≡ Some (op, after) → depth t < room →
    inside room (right_level op) after ≡ Some (r, behind)
    → room ≤ n + depth t → more (inside room) n room l t ws ≡ total → LeftOver room l (Binary op t r) behind total
unfolding more
more_turns room l zero t r ws after behind op total h low read enough so_far = absurd (omega arith)
more_turns room l (suc n) t r ws after behind op total h low read enough so_far =
    let one : more (inside room) (suc n) room l t ws ≡ more (inside room) n room l (Binary op t r) behind =
    rw (h, lt-ltb (depth t) room low, read) refl in
    (n, omega arith, sym one ∙ so_far)

-- A fault that explains one failed reading explains another that fails whenever the first does.
pub fails_along : {X Y : Type 0} (e : Fault) (r : Option X) (s : Option Y) → (r ≡ None → s ≡ None) → Fails e r →
    Fails e s
fails_along fault.Memory r s f h = tt
fails_along (fault.Unexpected p) r s f h = f h
fails_along (fault.TooDeep p) r s f h = f h

-- Inside a bracket or a right operand one level less is left.
pub inside_is : (room l : ℕ) (ws : List Lexeme) → 0 < room → inside room l ws ≡ parse (room - 1) l ws
inside_is zero l ws h = absurd (omega arith)
inside_is (suc room) l ws h = let e : suc room - 1 ≡ room = omega arith in rw e refl

-- The same, with the depth and the level given as numbers.
abbrev pub Left : ℕ → ℕ → ℕ → Tree → List Lexeme → Option (Tree × List Lexeme) → Type 0
Left room l d t ws total = (n : ℕ) × (room ≤ n + d) × (more (inside room) n room l t ws ≡ total)

-- If no operator continues the expression, the result is the tree so far.
pub left_stops : (room l d level : ℕ) (t : Tree) (ws : List Lexeme) (total : Option (Tree × List Lexeme)) →
    level ≡ own_level t → None ≡ next l level ws → Left room l d t ws total → total ≡ Some (t, ws)
left_stops room l d level t ws total e h left =
    sym left.2 ∙ more_stops (inside room) left.0 room l t ws (rw (← e) (sym h))

-- If an operator continues a tree that already has the full depth, there is no result.
pub left_deep : (room l d level : ℕ) (t : Tree) (ws after : List Lexeme) (op : Op)
    (total : Option (Tree × List Lexeme)) →
    d ≡ depth t → level ≡ own_level t → Some (op, after) ≡ next l level ws → room ≤ d → Left room l d t ws total →
    total ≡ None
left_deep room l d level t ws after op total de e h deep left =
    sym left.2 ∙ more_deep (inside room) left.0 room l t ws after op (rw (← e) (sym h)) (omega arith)

-- If an operator has no right operand, there is no result.
pub left_fails : (room l d level : ℕ) (t : Tree) (ws after : List Lexeme) (op : Op)
    (total : Option (Tree × List Lexeme)) → level ≡ own_level t → Some (op, after) ≡ next l level ws → d < room →
    parse (room - 1) (right_level op) after ≡ None → Left room l d t ws total → total ≡ None
left_fails room l d level t ws after op total e h low none left =
    let some : 0 < room = omega arith in
    sym left.2 ∙ more_fails (inside room) left.0 room l t ws after op (rw (← e) (sym h))
    (inside_is room (right_level op) after some ∙ none)

-- After one more operator, the result is still the one that remains to be read.
pub left_turns : (room l d level new : ℕ) (t r : Tree) (ws after behind : List Lexeme) (op : Op)
    (total : Option (Tree × List Lexeme)) → d ≡ depth t → level ≡ own_level t → Some (op, after) ≡ next l level ws →
    d < room
    → parse (room - 1) (right_level op) after ≡ Some (r, behind) → new ≡ 1 + max (depth t) (depth r) →
    Left room l d t ws total → Left room l new (Binary op t r) behind total
left_turns room l d level new t r ws after behind op total de e h low read ne left =
    let some : 0 < room = omega arith in
    let low_depth : depth t < room = omega arith in
    let enough : room ≤ left.0 + depth t = omega (arith, left.1) in
    let k = more_turns room l left.0 t r ws after behind op total (rw (← e) (sym h)) low_depth
    (inside_is room (right_level op) after some ∙ read) enough left.2 in
    (k.0, omega (arith, k.1, ne), k.2)
