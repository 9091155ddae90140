-- The commands over locations are no deeper than the tree.
use Rattle.std.proofs.Common.{◌≡◌, ◌≤◌, max, List, [], ◌∷◌, ◌++◌, arith}
use Rattle.vsi_syntax.specs.Tree as tree
use Rattle.vsi_scope.specs.Language.{Command, Skip, Assign, Sequence, If, While, Letvar, nesting, expression_depth, expressions_depth, depth}
use Rattle.vsi_scope.specs.Scopes.{Scope, in_sequence}
use Rattle.vsi_scope.specs.Places.{expression_of, commands_of, all_commands}

-- Two joined lists nest as deep as the deeper one.
nesting-append : (xs ys : List Command) →
    nesting (in_sequence (xs ++ ys)) ≡ max (nesting (in_sequence xs)) (nesting (in_sequence ys))
nesting-append [] ys = omega arith
nesting-append (x ∷ xs) ys = omega (arith, nesting-append xs ys)

-- Two joined lists are as deep as the deeper one.
depth-append : (xs ys : List Command) →
    depth (in_sequence (xs ++ ys)) ≡ max (depth (in_sequence xs)) (depth (in_sequence ys))
depth-append [] ys = omega arith
depth-append (x ∷ xs) ys = omega (arith, depth-append xs ys)

-- An expression over locations is no deeper than in the tree, where brackets count too.
pub expression_shallow : (s : Scope) (e : tree.Tree) → expression_depth (expression_of s e) ≤ tree.depth e
expression_shallow s (tree.Number n) = omega arith
expression_shallow s (tree.Name x) = omega arith
expression_shallow s (tree.Bracket e) = omega (arith, expression_shallow s e)
expression_shallow s (tree.Binary op a b) = omega (arith, expression_shallow s a, expression_shallow s b)

mutual
  -- The letvars of a command nest no deeper than its tree.
  pub nested : (s : Scope) (c : tree.Command) → nesting (in_sequence (commands_of s c)) ≤ tree.command_depth c
  nested s (tree.Assign x e) = omega arith
  nested s (tree.If e c d) = omega (arith, nested s c, nested s d)
  nested s (tree.While e c) = omega (arith, nested s c)
  nested s (tree.Letvar x class e c) = omega (arith, nested (s ++ x.text ∷ []) c)
  nested s (tree.Block b) = omega (arith, all_nested s b)

  -- The letvars of a sequence nest no deeper than its tree.
  pub all_nested : (s : Scope) (b : tree.Body) → nesting (in_sequence (all_commands s b)) ≤ tree.body_depth b
  all_nested s tree.Done = omega arith
  all_nested s (tree.Then c rest) =
      omega (arith, nesting-append (commands_of s c) (all_commands s rest), nested s c, all_nested s rest)

mutual
  -- A command is no deeper than its tree.
  pub shallow : (s : Scope) (c : tree.Command) → depth (in_sequence (commands_of s c)) ≤ tree.command_depth c
  shallow s (tree.Assign x e) = omega (arith, expression_shallow s e)
  shallow s (tree.If e c d) = omega (arith, expression_shallow s e, shallow s c, shallow s d)
  shallow s (tree.While e c) = omega (arith, expression_shallow s e, shallow s c)
  shallow s (tree.Letvar x class e c) = omega (arith, expression_shallow s e, shallow (s ++ x.text ∷ []) c)
  shallow s (tree.Block b) = omega (arith, all_shallow s b)

  -- A sequence is no deeper than its tree.
  pub all_shallow : (s : Scope) (b : tree.Body) → depth (in_sequence (all_commands s b)) ≤ tree.body_depth b
  all_shallow s tree.Done = omega arith
  all_shallow s (tree.Then c rest) =
      omega (arith, depth-append (commands_of s c) (all_commands s rest), shallow s c, all_shallow s rest)

-- No expression of a command is deeper than the command.
pub expressions_within : (c : Command) → expressions_depth c ≤ depth c
expressions_within Skip = omega arith
expressions_within (Assign l s e) = omega arith
expressions_within (Sequence a b) = omega (arith, expressions_within a, expressions_within b)
expressions_within (If e a b) = omega (arith, expressions_within a, expressions_within b)
expressions_within (While e c) = omega (arith, expressions_within c)
expressions_within (Letvar e c) = omega (arith, expressions_within c)
