-- Heights and nestings of sequences, and the bound on the height by the depth.
use Rattle.std.proofs.Common.{◌≡◌, ℕ, ◌+◌, ◌<◌, ◌≤◌, max, List, [], ◌∷◌, ◌++◌, length, take, get_or, refl, sym, ap, ◌∙◌, arith}
use Rattle.std.proofs.lemmas.List.{take_more}
use Rattle.vsi_scope.specs.declared.program.Cmd.{Cmd}
use Rattle.vsi_scope.specs.Language.{Expression, Number, Location, Operator, Command, Skip, Assign, Sequence, If, While, Letvar, nesting, expression_depth, expressions_depth}
use Rattle.vsi_scope.specs.View.{command, sequence}
use Rattle.vsi_code.specs.Needs.{expression_height, height}

-- A measure that is the greatest of the parts of a sequence stays so with one more command.
most_push : (f : Command → ℕ) → f Skip ≡ 0 → ((a b : Command) → f (Sequence a b) ≡ max (f a) (f b)) →
    (cs : List Cmd) (c : Cmd) → f (sequence (cs ++ c ∷ [])) ≡ max (f (sequence cs)) (f (command c))
most_push f z s [] c =
    let whole : f (sequence ([] ++ c ∷ [])) ≡ max (f (command c)) (f Skip) = s (command c) Skip in
    let none : f (sequence []) ≡ 0 = z in
    omega (arith, whole, z, none)
most_push f z s (d ∷ cs) c =
    let whole : f (sequence ((d ∷ cs) ++ c ∷ [])) ≡ max (f (command d)) (f (sequence (cs ++ c ∷ []))) =
    s (command d) (sequence (cs ++ c ∷ [])) in
    let before : f (sequence (d ∷ cs)) ≡ max (f (command d)) (f (sequence cs)) = s (command d) (sequence cs) in
    omega (arith, whole, before, most_push f z s cs c)

-- Such a measure of the commands up to one of them, with that one.
most_more : (f : Command → ℕ) → f Skip ≡ 0 → ((a b : Command) → f (Sequence a b) ≡ max (f a) (f b)) →
    (cs : List Cmd) (i : ℕ) (c : Cmd) → i < length cs → c ≡ get_or cs i c →
    f (sequence (take (i + 1) cs)) ≡ max (f (sequence (take i cs))) (f (command c))
most_more f z s cs i c lt e =
    ap (λ l. f (sequence l)) (take_more cs i c lt)
    ∙ most_push f z s (take i cs) (get_or cs i c)
    ∙ ap (λ x. max (f (sequence (take i cs))) (f (command x))) (sym e)

-- The height of the commands up to one of them, with that one.
pub height_more : (cs : List Cmd) (i : ℕ) (c : Cmd) → i < length cs → c ≡ get_or cs i c →
    height (sequence (take (i + 1) cs)) ≡ max (height (sequence (take i cs))) (height (command c))
height_more = most_more height refl (λ a b. refl)

-- The nesting of the commands up to one of them, with that one.
pub nesting_more : (cs : List Cmd) (i : ℕ) (c : Cmd) → i < length cs → c ≡ get_or cs i c →
    nesting (sequence (take (i + 1) cs)) ≡ max (nesting (sequence (take i cs))) (nesting (command c))
nesting_more = most_more nesting refl (λ a b. refl)

-- An expression never has more operands at a time than its depth plus one.
expression_height-within_depth : (e : Expression) → expression_height e ≤ expression_depth e + 1
expression_height-within_depth (Number n) = omega arith
expression_height-within_depth (Location l s) = omega arith
expression_height-within_depth (Operator o a b) =
    omega (arith, expression_height-within_depth a, expression_height-within_depth b)

-- A command never has more operands at a time than the depth of its deepest expression plus one.
pub height-within_depth : (c : Command) → height c ≤ expressions_depth c + 1
height-within_depth Skip = omega arith
height-within_depth (Assign l s e) = expression_height-within_depth e
height-within_depth (Sequence a b) = omega (arith, height-within_depth a, height-within_depth b)
height-within_depth (If e a b) =
    omega (arith, expression_height-within_depth e, height-within_depth a, height-within_depth b)
height-within_depth (While e c) = omega (arith, expression_height-within_depth e, height-within_depth c)
height-within_depth (Letvar e c) = omega (arith, expression_height-within_depth e, height-within_depth c)
