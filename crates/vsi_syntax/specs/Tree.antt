-- Trees, independent of their location in memory: the lexemes they write, their levels and their depth.
use Rattle.std.specs.Prelude.{ℕ, ◌+◌, ◌≤◌, max, ℤ, List, [], ◌∷◌, ◌++◌, Option, Some, None}
use Rattle.std.specs.Coded.{×_prop, Unit-prop, le_prop}
use Rattle.vsi_syntax.specs.Limits.{max_depth}
use mathlib.Core.HLevel.{×₃_prop}
use Rattle.vsi_syntax.specs.declared.token.Kind.{Kind}
use Rattle.vsi_syntax.specs.declared.token.Kind.TheVariants as k
use Rattle.vsi_syntax.specs.declared.token.Span.{Span}
use Rattle.vsi_syntax.specs.declared.tree.Op.{Op}
use Rattle.vsi_syntax.specs.declared.tree.Op.TheVariants as o

-- A name with its span.
pub record Named : Type 0 where
  pub text : List ℕ
  pub span : Span

-- A lexeme that a tree writes: a name, or anything else by its kind.
pub data Lexeme : Type 0 where
  Called : (name : Named) → Lexeme
  Sign : (kind : Kind) → Lexeme

-- An expression.
pub data Tree : Type 0 where
  Number : (number : ℤ) → Tree
  Name : (name : Named) → Tree
  Bracket : (inner : Tree) → Tree
  Binary : (op : Op) → (left : Tree) → (right : Tree) → Tree

mutual
  -- A command: an assignment, a choice, a loop, a local variable or a block.
  pub data Command : Type 0 where
    Assign : (name : Named) → (value : Tree) → Command
    If : (guard : Tree) → (yes : Command) → (no : Command) → Command
    While : (guard : Tree) → (body : Command) → Command
    Letvar : (name : Named) → (class : Option Named) → (value : Tree) → (body : Command) → Command
    Block : (body : Body) → Command

  -- A sequence of commands.
  pub data Body : Type 0 where
    Done : Body
    Then : (first : Command) → (rest : Body) → Body

-- The symbol of an operator.
abbrev pub sign : Op → Kind
sign o.Add = k.Plus
sign o.Sub = k.Minus
sign o.Mul = k.Star
sign o.Eq = k.Equal
sign o.Lt = k.Less

-- ---- the lexemes written.

-- The lexemes that an expression writes, in the order of the text.
abbrev pub write : Tree → List Lexeme
write (Number n) = Sign (k.Number n) ∷ []
write (Name name) = Called name ∷ []
write (Bracket e) = Sign k.Open ∷ (write e ++ Sign k.Close ∷ [])
write (Binary op a b) = write a ++ Sign (sign op) ∷ write b

-- A class is written after a colon.
abbrev pub write_class : Option Named → List Lexeme
write_class None = []
write_class (Some class) = Sign k.Colon ∷ Called class ∷ []

abbrev mutual
  -- The lexemes that a command writes.
  pub write_command : Command → List Lexeme
  write_command (Assign x e) = Called x ∷ Sign k.Assign ∷ write e
  write_command (If e c d) =
      Sign k.If ∷ (write e ++ Sign k.Then ∷ (write_command c ++ Sign k.Else ∷ write_command d))
  write_command (While e c) = Sign k.While ∷ (write e ++ Sign k.Do ∷ write_command c)
  write_command (Letvar x class e c) =
      Sign k.Letvar ∷ Called x ∷ (write_class class ++ Sign k.Assign ∷ (write e ++ Sign k.In ∷ write_command c))
  write_command (Block cs) = Sign k.OpenBrace ∷ (write_body cs ++ Sign k.CloseBrace ∷ [])

  -- The lexemes that a sequence writes: its commands with semicolons between them.
  pub write_body : Body → List Lexeme
  write_body Done = []
  write_body (Then c cs) = write_command c ++ write_rest cs

  -- The lexemes of the commands after the first, each after a semicolon.
  pub write_rest : Body → List Lexeme
  write_rest Done = []
  write_rest (Then c cs) = Sign k.Semicolon ∷ (write_command c ++ write_rest cs)

-- ---- levels: 0 for a comparison, 1 for a sum, 2 for a term, 3 for an atom.

-- The level of an operator's expression.
abbrev pub level : Op → ℕ
level o.Add = 1
level o.Sub = 1
level o.Mul = 2
level o.Eq = 0
level o.Lt = 0

-- The least level of an operator's left operand.
abbrev pub left_level : Op → ℕ
left_level o.Add = 1
left_level o.Sub = 1
left_level o.Mul = 2
left_level o.Eq = 1
left_level o.Lt = 1

-- The least level of an operator's right operand, chosen so that operators of one level group to the left.
abbrev pub right_level : Op → ℕ
right_level o.Add = 2
right_level o.Sub = 2
right_level o.Mul = 3
right_level o.Eq = 1
right_level o.Lt = 1

-- The expression is allowed where this level is required, and so are all its parts in their positions.
abbrev pub IsLevelled : ℕ → Tree → Type 0
IsLevelled l (Number n) = Unit {0}
IsLevelled l (Name name) = Unit {0}
IsLevelled l (Bracket e) = IsLevelled 0 e
IsLevelled l (Binary op a b) = (l ≤ level op) × IsLevelled (left_level op) a × IsLevelled (right_level op) b

abbrev mutual
  -- Every expression of the command is levelled, and no sequence in it is empty.
  pub IsCommandLevelled : Command → Type 0
  IsCommandLevelled (Assign x e) = IsLevelled 0 e
  IsCommandLevelled (If e c d) = IsLevelled 0 e × IsCommandLevelled c × IsCommandLevelled d
  IsCommandLevelled (While e c) = IsLevelled 0 e × IsCommandLevelled c
  IsCommandLevelled (Letvar x class e c) = IsLevelled 0 e × IsCommandLevelled c
  IsCommandLevelled (Block cs) = IsBodyLevelled cs

  -- The sequence has a command, and all its commands are levelled.
  pub IsBodyLevelled : Body → Type 0
  IsBodyLevelled Done = ⊥
  IsBodyLevelled (Then c cs) = IsCommandLevelled c × IsRestLevelled cs

  -- The commands after the first, if any, are levelled.
  pub IsRestLevelled : Body → Type 0
  IsRestLevelled Done = Unit {0}
  IsRestLevelled (Then c cs) = IsCommandLevelled c × IsRestLevelled cs

-- ---- depth.

-- Each bracket and each operator lies one level above the deepest of its parts.
abbrev pub depth : Tree → ℕ
depth (Number n) = 0
depth (Name name) = 0
depth (Bracket e) = 1 + depth e
depth (Binary op a b) = 1 + max (depth a) (depth b)

abbrev mutual
  -- Each `if`, `while`, `letvar` and block lies one level above the deepest of its parts; an assignment adds no level.
  pub command_depth : Command → ℕ
  command_depth (Assign x e) = depth e
  command_depth (If e c d) = 1 + max (depth e) (max (command_depth c) (command_depth d))
  command_depth (While e c) = 1 + max (depth e) (command_depth c)
  command_depth (Letvar x class e c) = 1 + max (depth e) (command_depth c)
  command_depth (Block cs) = 1 + body_depth cs

  -- A sequence is as deep as the deepest of its commands.
  pub body_depth : Body → ℕ
  body_depth Done = 0
  body_depth (Then c cs) = max (command_depth c) (body_depth cs)

-- A global: its name and the name of its class.
pub record Declared : Type 0 where
  pub name : Named
  pub class : Named

-- A whole program: its globals and its body.
pub record Whole : Type 0 where
  pub globals : List Declared
  pub body : Body

-- The lexemes that globals write, each with its `var` and its semicolon.
abbrev pub write_globals : List Declared → List Lexeme
write_globals [] = []
write_globals (g ∷ gs) = Sign k.Var ∷ Called g.name ∷ Sign k.Colon ∷ Called g.class ∷ Sign k.Semicolon ∷ write_globals
    gs

-- The lexemes that a program writes: its globals, then its body.
abbrev pub write_program : Whole → List Lexeme
write_program p = write_globals p.globals ++ write_body p.body

-- The name without its span.
abbrev pub nowhere : Named → Named
nowhere x = record { text = x.text; span = record { start = 0; stop = 0 } }

-- The invariant of every program: its sums, comparisons and atoms appear where the grammar allows them, no sequence is
-- empty, and its depth is bounded.
abbrev pub IsProgram : Body → Type 0
IsProgram b = IsBodyLevelled b × (body_depth b ≤ max_depth)

-- `IsLevelled` is a proposition for every expression, so that a type can keep its proof; so are the facts below.
pub tree_prop : (l : ℕ) (t : Tree) → IsProp (IsLevelled l t)
tree_prop l (Number n) = Unit-prop
tree_prop l (Name x) = Unit-prop
tree_prop l (Bracket e) = tree_prop 0 e
tree_prop l (Binary op a b) = ×₃_prop le_prop (tree_prop (left_level op) a) (tree_prop (right_level op) b)

mutual
  -- `IsCommandLevelled` is a proposition for every command.
  pub command_prop : (c : Command) → IsProp (IsCommandLevelled c)
  command_prop (Assign x e) = tree_prop 0 e
  command_prop (If e c d) = ×₃_prop (tree_prop 0 e) (command_prop c) (command_prop d)
  command_prop (While e c) = ×_prop (tree_prop 0 e) (command_prop c)
  command_prop (Letvar x class e c) = ×_prop (tree_prop 0 e) (command_prop c)
  command_prop (Block cs) = body_prop cs

  -- `IsBodyLevelled` is a proposition for every sequence.
  pub body_prop : (cs : Body) → IsProp (IsBodyLevelled cs)
  body_prop Done = λ a b. absurd a
  body_prop (Then c cs) = ×_prop (command_prop c) (rest_prop cs)

  -- `IsRestLevelled` is a proposition for the commands after the first.
  pub rest_prop : (cs : Body) → IsProp (IsRestLevelled cs)
  rest_prop Done = Unit-prop
  rest_prop (Then c cs) = ×_prop (command_prop c) (rest_prop cs)

-- Being the body of a program is a proposition.
pub program_prop : (b : Body) → IsProp (IsProgram b)
program_prop b = ×_prop (body_prop b) le_prop
