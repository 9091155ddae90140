-- The language over locations, independent of memory.
use Rattle.std.specs.Prelude.{ℕ, ◌+◌, ◌<◌, max, Bool, true, false, ◌||◌, ℤ}
use Rattle.vsi_syntax.specs.declared.tree.Op.{Op}
use Rattle.vsi_syntax.specs.declared.token.Span.{Span}

-- An expression: a word, the contents of a location (with the span of the name), or an operator on two expressions.
pub data Expression : Type 0 where
  Number : ℤ → Expression
  Location : ℕ → Span → Expression
  Operator : Op → Expression → Expression → Expression

-- A command: nothing, an assignment to a location, a sequence, a choice, a loop, or a new location for a command.
pub data Command : Type 0 where
  Skip : Command
  Assign : ℕ → Span → Expression → Command
  Sequence : Command → Command → Command
  If : Expression → Command → Command → Command
  While : Expression → Command → Command
  Letvar : Expression → Command → Command

-- Every location that is read is below k.
abbrev pub HasLocations : ℕ → Expression → Type 0
HasLocations k (Number n) = Unit {0}
HasLocations k (Location l s) = l < k
HasLocations k (Operator o a b) = HasLocations k a × HasLocations k b

-- The number of letvars.
abbrev pub letvars : Command → ℕ
letvars Skip = 0
letvars (Assign l s e) = 0
letvars (Sequence a b) = letvars a + letvars b
letvars (If e a b) = letvars a + letvars b
letvars (While e c) = letvars c
letvars (Letvar e c) = letvars c + 1

-- Every location that is read or written is below k, or belongs to an enclosing letvar.
abbrev pub HasPlaces : ℕ → Command → Type 0
HasPlaces k Skip = Unit {0}
HasPlaces k (Assign l s e) = (l < k) × HasLocations k e
HasPlaces k (Sequence a b) = HasPlaces k a × HasPlaces k b
HasPlaces k (If e a b) = HasLocations k e × HasPlaces k a × HasPlaces k b
HasPlaces k (While e c) = HasLocations k e × HasPlaces k c
HasPlaces k (Letvar e c) = HasLocations k e × HasPlaces (k + 1) c

-- The command contains a loop, at any depth.
abbrev pub has_loop : Command → Bool
has_loop Skip = false
has_loop (Assign l s e) = false
has_loop (Sequence a b) = has_loop a || has_loop b
has_loop (If e a b) = has_loop a || has_loop b
has_loop (While e c) = true
has_loop (Letvar e c) = has_loop c

-- The size of an expression: one for each number, name and operator.
abbrev pub expression_size : Expression → ℕ
expression_size (Number n) = 1
expression_size (Location l s) = 1
expression_size (Operator o a b) = expression_size a + expression_size b + 1

-- The size of a command: the number of instructions that it needs.
abbrev pub size : Command → ℕ
size Skip = 0
size (Assign l s e) = expression_size e + 1
size (Sequence a b) = size a + size b
size (If e a b) = expression_size e + size a + size b + 2
size (While e c) = expression_size e + size c + 2
size (Letvar e c) = expression_size e + size c + 1

-- The deepest nesting of letvars.
abbrev pub nesting : Command → ℕ
nesting Skip = 0
nesting (Assign l s e) = 0
nesting (Sequence a b) = max (nesting a) (nesting b)
nesting (If e a b) = max (nesting a) (nesting b)
nesting (While e c) = nesting c
nesting (Letvar e c) = nesting c + 1

-- The deepest nesting of operators in an expression.
abbrev pub expression_depth : Expression → ℕ
expression_depth (Number n) = 0
expression_depth (Location l s) = 0
expression_depth (Operator o a b) = 1 + max (expression_depth a) (expression_depth b)

-- The depth of the deepest expression of a command.
abbrev pub expressions_depth : Command → ℕ
expressions_depth Skip = 0
expressions_depth (Assign l s e) = expression_depth e
expressions_depth (Sequence a b) = max (expressions_depth a) (expressions_depth b)
expressions_depth (If e a b) = max (expression_depth e) (max (expressions_depth a) (expressions_depth b))
expressions_depth (While e c) = max (expression_depth e) (expressions_depth c)
expressions_depth (Letvar e c) = max (expression_depth e) (expressions_depth c)

-- The depth of a command: each choice, loop and letvar lies one level above the deepest of its parts.
abbrev pub depth : Command → ℕ
depth Skip = 0
depth (Assign l s e) = expression_depth e
depth (Sequence a b) = max (depth a) (depth b)
depth (If e a b) = 1 + max (expression_depth e) (max (depth a) (depth b))
depth (While e c) = 1 + max (expression_depth e) (depth c)
depth (Letvar e c) = 1 + max (expression_depth e) (depth c)
