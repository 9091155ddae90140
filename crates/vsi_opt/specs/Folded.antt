-- Commands in which nothing is left to fold.
use Rattle.std.specs.Prelude.{◌≡◌, pos}
use Rattle.vsi_scope.specs.Language.{Expression, Number, Location, Operator, Command, Skip, Assign, Sequence, If, While, Letvar}

-- An expression that is a literal.
abbrev pub IsLiteral : Expression → Type 0
IsLiteral (Number n) = Unit {0}
IsLiteral (Location l s) = ⊥
IsLiteral (Operator o a b) = ⊥

-- An expression with no operator on two literals.
abbrev pub IsFoldedExpression : Expression → Type 0
IsFoldedExpression (Number n) = Unit {0}
IsFoldedExpression (Location l s) = Unit {0}
IsFoldedExpression (Operator o a b) = IsFoldedExpression a × IsFoldedExpression b × (IsLiteral a → IsLiteral b → ⊥)

-- A command with no operator on two literals, no `if` on a literal and no `while` on literal 0.
abbrev pub IsFolded : Command → Type 0
IsFolded Skip = Unit {0}
IsFolded (Assign l s e) = IsFoldedExpression e
IsFolded (Sequence a b) = IsFolded a × IsFolded b
IsFolded (If e a b) = IsFoldedExpression e × (IsLiteral e → ⊥) × IsFolded a × IsFolded b
IsFolded (While e c) = IsFoldedExpression e × (e ≡ Number (pos 0) → ⊥) × IsFolded c
IsFolded (Letvar e c) = IsFoldedExpression e × IsFolded c
