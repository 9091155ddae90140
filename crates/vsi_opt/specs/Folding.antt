-- Folding, from the leaves up. A command is folded to a sequence.
use Rattle.std.specs.Prelude.{zero, suc, ℤ, pos, negsuc, Bool, true, false, Option, Some, None}
use Rattle.vsi_syntax.specs.declared.tree.Op.{Op}
use Rattle.vsi_scope.specs.Language.{Expression, Number, Location, Operator, Command, Skip, Assign, Sequence, If, While, Letvar}
use Rattle.vsi_syntax.specs.Operators.{apply}

-- The number of a literal expression.
abbrev pub literal_of : Expression → Option ℤ
literal_of (Number n) = Some n
literal_of (Location l s) = None
literal_of (Operator o a b) = None

-- The operator on two expressions, or the word that it yields on two literals.
abbrev pub fold_operator : Op → Expression → Expression → Expression
fold_operator o (Number a) (Number b) = Number (apply o a b)
fold_operator o a b = Operator o a b

-- The expression with no operator on two literals.
abbrev pub folded : Expression → Expression
folded (Number n) = Number n
folded (Location l s) = Location l s
folded (Operator o a b) = fold_operator o (folded a) (folded b)

-- The sequence of one command.
abbrev pub one : Command → Command
one c = Sequence c Skip

-- The commands of one sequence and then those of another.
abbrev pub append : Command → Command → Command
append Skip d = d
append (Sequence a b) d = Sequence a (append b d)
append c d = Sequence c d

-- Whether a guard is a number and, if so, whether it is true.
abbrev pub truth_of : Expression → Option Bool
truth_of (Number (pos zero)) = Some false
truth_of (Number (pos (suc n))) = Some true
truth_of (Number (negsuc n)) = Some true
truth_of (Location l s) = None
truth_of (Operator o a b) = None

-- The branch that is taken, or the choice if the guard is not known.
abbrev pub branch : Option Bool → Expression → Command → Command → Command
branch (Some true) e a b = a
branch (Some false) e a b = b
branch None e a b = one (If e a b)

-- The loop, or nothing if its guard is known to be false.
abbrev pub loop : Option Bool → Expression → Command → Command
loop (Some true) e c = one (While e c)
loop (Some false) e c = Skip
loop None e c = one (While e c)

-- The command with its expressions folded, with the branch in place of an `if` on a literal, and without `while` on 0.
abbrev pub fold : Command → Command
fold Skip = Skip
fold (Assign l s e) = one (Assign l s (folded e))
fold (Sequence a b) = append (fold a) (fold b)
fold (If e a b) = branch (truth_of (folded e)) (folded e) (fold a) (fold b)
fold (While e c) = loop (truth_of (folded e)) (folded e) (fold c)
fold (Letvar e c) = one (Letvar (folded e) (fold c))
