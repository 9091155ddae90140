-- Folding and removal make neither expressions nor letvars deeper.
use Rattle.std.proofs.Common.{◌≡◌, ℕ, ◌+◌, ◌≤◌, max, Bool, true, false, Option, Some, None, refl, arith}
use Rattle.vsi_syntax.specs.declared.tree.Op.{Op}
use Rattle.vsi_scope.specs.Language.{Expression, Number, Location, Operator, Command, Skip, Assign, Sequence, If, While, Letvar, nesting, expression_depth, expressions_depth, depth}
use Rattle.vsi_opt.specs.Folding.{fold_operator, folded, append, truth_of, branch, loop, fold}
use Rattle.vsi_opt.specs.Optimised.{globals_alone, optimised}
use Rattle.vsi_opt.proofs.Removal.{append_most, IsCarried, kept_live_carried}

-- The nesting of letvars in two sequences joined.
pub append_nesting : (a b : Command) → nesting (append a b) ≤ max (nesting a) (nesting b)
append_nesting = append_most nesting (λ a b. refl)

-- Removal doesn't deepen the nesting if it doesn't deepen it in the parts.
no_deeper_nesting : IsCarried (λ a c. nesting a ≤ nesting c)
no_deeper_nesting = record {
  nothing = omega arith;
  stays = λ l s e. omega arith;
  goes = λ l s e. omega arith;
  joined = λ a b c d x y. omega (arith, append_nesting a b, x, y);
  choice = λ e a b c d x y. omega (arith, x, y);
  repeated = λ e a c x. omega (arith, x);
  local = λ e a c x. omega (arith, x);
}

-- A folded choice isn't nested deeper than its branches.
branch_nesting : (t : Option Bool) (e : Expression) (a b : Command) →
    nesting (branch t e a b) ≤ max (nesting a) (nesting b)
branch_nesting (Some true) e a b = omega arith
branch_nesting (Some false) e a b = omega arith
branch_nesting None e a b = omega arith

-- A folded loop isn't nested deeper than its body.
loop_nesting : (t : Option Bool) (e : Expression) (c : Command) → nesting (loop t e c) ≤ nesting c
loop_nesting (Some true) e c = omega arith
loop_nesting (Some false) e c = omega arith
loop_nesting None e c = omega arith

-- Folding doesn't deepen the nesting.
fold_nesting : (c : Command) → nesting (fold c) ≤ nesting c
fold_nesting Skip = omega arith
fold_nesting (Assign l s e) = omega arith
fold_nesting (Sequence a b) = omega (arith, append_nesting (fold a) (fold b), fold_nesting a, fold_nesting b)
fold_nesting (If e a b) =
    let joins = branch_nesting (truth_of (folded e)) (folded e) (fold a) (fold b) in
    omega (arith, joins, fold_nesting a, fold_nesting b)
fold_nesting (While e c) = omega (arith, loop_nesting (truth_of (folded e)) (folded e) (fold c), fold_nesting c)
fold_nesting (Letvar e c) = omega (arith, fold_nesting c)

-- The optimised body isn't nested deeper.
pub optimised_nesting : (c : Command) (g : ℕ) → nesting (optimised g c) ≤ nesting c
optimised_nesting c g =
    let removed = kept_live_carried (λ a c. nesting a ≤ nesting c) no_deeper_nesting (fold c) g g (globals_alone g) in
    omega (arith, removed, fold_nesting c)

-- The depth of two sequences joined.
pub append_depth : (a b : Command) → depth (append a b) ≤ max (depth a) (depth b)
append_depth = append_most depth (λ a b. refl)

-- Removal doesn't deepen a command if it doesn't deepen the parts.
no_deeper : IsCarried (λ a c. depth a ≤ depth c)
no_deeper = record {
  nothing = omega arith;
  stays = λ l s e. omega arith;
  goes = λ l s e. omega arith;
  joined = λ a b c d x y. omega (arith, append_depth a b, x, y);
  choice = λ e a b c d x y. omega (arith, x, y);
  repeated = λ e a c x. omega (arith, x);
  local = λ e a c x. omega (arith, x);
}

-- A folded operator isn't deeper.
operator_depth : (o : Op) (a b : Expression) →
    expression_depth (fold_operator o a b) ≤ 1 + max (expression_depth a) (expression_depth b)
operator_depth o (Number x) (Number y) = omega arith
operator_depth o (Number x) (Location l s) = omega arith
operator_depth o (Number x) (Operator p c d) = omega arith
operator_depth o (Location l s) b = omega arith
operator_depth o (Operator p c d) b = omega arith

-- A folded expression isn't deeper.
folded_depth : (e : Expression) → expression_depth (folded e) ≤ expression_depth e
folded_depth (Number n) = omega arith
folded_depth (Location l s) = omega arith
folded_depth (Operator o a b) = omega (arith, operator_depth o (folded a) (folded b), folded_depth a, folded_depth b)

-- A folded choice isn't deeper than the choice.
branch_depth : (t : Option Bool) (e : Expression) (a b : Command) →
    depth (branch t e a b) ≤ 1 + max (expression_depth e) (max (depth a) (depth b))
branch_depth (Some true) e a b = omega arith
branch_depth (Some false) e a b = omega arith
branch_depth None e a b = omega arith

-- A folded loop isn't deeper than the loop.
loop_depth : (t : Option Bool) (e : Expression) (c : Command) →
    depth (loop t e c) ≤ 1 + max (expression_depth e) (depth c)
loop_depth (Some true) e c = omega arith
loop_depth (Some false) e c = omega arith
loop_depth None e c = omega arith

-- Folding doesn't deepen the command.
fold_depth : (c : Command) → depth (fold c) ≤ depth c
fold_depth Skip = omega arith
fold_depth (Assign l s e) = omega (arith, folded_depth e)
fold_depth (Sequence a b) = omega (arith, append_depth (fold a) (fold b), fold_depth a, fold_depth b)
fold_depth (If e a b) =
    let joins = branch_depth (truth_of (folded e)) (folded e) (fold a) (fold b) in
    omega (arith, joins, folded_depth e, fold_depth a, fold_depth b)
fold_depth (While e c) =
    let joins = loop_depth (truth_of (folded e)) (folded e) (fold c) in
    omega (arith, joins, folded_depth e, fold_depth c)
fold_depth (Letvar e c) = omega (arith, folded_depth e, fold_depth c)

-- The optimised body isn't deeper.
pub optimised_depth : (c : Command) (g : ℕ) → depth (optimised g c) ≤ depth c
optimised_depth c g =
    let removed = kept_live_carried (λ a c. depth a ≤ depth c) no_deeper (fold c) g g (globals_alone g) in
    omega (arith, removed, fold_depth c)

-- The deepest expression of two sequences joined.
pub append_expressions : (a b : Command) → expressions_depth (append a b) ≤ max (expressions_depth a) (expressions_depth b)
append_expressions = append_most expressions_depth (λ a b. refl)

-- Removal leaves no deeper expression if it leaves none in the parts.
no_deeper_expressions : IsCarried (λ a c. expressions_depth a ≤ expressions_depth c)
no_deeper_expressions = record {
  nothing = omega arith;
  stays = λ l s e. omega arith;
  goes = λ l s e. omega arith;
  joined = λ a b c d x y. omega (arith, append_expressions a b, x, y);
  choice = λ e a b c d x y. omega (arith, x, y);
  repeated = λ e a c x. omega (arith, x);
  local = λ e a c x. omega (arith, x);
}

-- A folded choice has no deeper expression than the choice.
branch_expressions : (t : Option Bool) (e : Expression) (a b : Command) →
    expressions_depth (branch t e a b) ≤ max (expression_depth e) (max (expressions_depth a) (expressions_depth b))
branch_expressions (Some true) e a b = omega arith
branch_expressions (Some false) e a b = omega arith
branch_expressions None e a b = omega arith

-- A folded loop has no deeper expression than the loop.
loop_expressions : (t : Option Bool) (e : Expression) (c : Command) →
    expressions_depth (loop t e c) ≤ max (expression_depth e) (expressions_depth c)
loop_expressions (Some true) e c = omega arith
loop_expressions (Some false) e c = omega arith
loop_expressions None e c = omega arith

-- Folding deepens no expression.
fold_expressions : (c : Command) → expressions_depth (fold c) ≤ expressions_depth c
fold_expressions Skip = omega arith
fold_expressions (Assign l s e) = omega (arith, folded_depth e)
fold_expressions (Sequence a b) =
    omega (arith, append_expressions (fold a) (fold b), fold_expressions a, fold_expressions b)
fold_expressions (If e a b) =
    let joins = branch_expressions (truth_of (folded e)) (folded e) (fold a) (fold b) in
    omega (arith, joins, folded_depth e, fold_expressions a, fold_expressions b)
fold_expressions (While e c) =
    let joins = loop_expressions (truth_of (folded e)) (folded e) (fold c) in
    omega (arith, joins, folded_depth e, fold_expressions c)
fold_expressions (Letvar e c) = omega (arith, folded_depth e, fold_expressions c)

-- The optimised body has no deeper expression.
pub optimised_expressions : (c : Command) (g : ℕ) → expressions_depth (optimised g c) ≤ expressions_depth c
optimised_expressions c g =
    let removed = kept_live_carried (λ a c. expressions_depth a ≤ expressions_depth c) no_deeper_expressions (fold c)
    g g (globals_alone g)
    in
    omega (arith, removed, fold_expressions c)
