-- The canonical text of a program.
use Rattle.std.specs.Prelude.{ℕ, suc, ◌*◌, List, [], ◌∷◌, ◌++◌, codes, replicate, Option, Some, None}
use Rattle.std.specs.Fmt.{signed_decimal}
use Rattle.vsi_syntax.specs.declared.tree.Op.{Op}
use Rattle.vsi_syntax.specs.declared.tree.Op.TheVariants as o
use Rattle.vsi_syntax.specs.Tree.{Named, Tree, Number, Name, Bracket, Binary, Command, Assign, If, While, Letvar, Block, Body, Done, Then, Declared, Whole}

-- An operator has one space on each side.
abbrev pub op_text : Op → List ℕ
op_text o.Add = codes " + "
op_text o.Sub = codes " - "
op_text o.Mul = codes " * "
op_text o.Eq = codes " = "
op_text o.Lt = codes " < "

-- The text of an expression: a number in decimal, a name as it is, a bracket in round brackets, an operator between its
-- operands.
abbrev pub canon_tree : Tree → List ℕ
canon_tree (Number n) = signed_decimal n
canon_tree (Name x) = x.text
canon_tree (Bracket e) = codes "(" ++ (canon_tree e ++ codes ")")
canon_tree (Binary op a b) = canon_tree a ++ (op_text op ++ canon_tree b)

-- Two spaces for each level of indentation.
abbrev pub spaces : ℕ → List ℕ
spaces k = replicate (2 * k) 32

-- A class follows a colon with a space on each side.
abbrev pub canon_class : Option Named → List ℕ
canon_class None = []
canon_class (Some class) = codes " : " ++ class.text

abbrev mutual
  -- A command at an indentation level, without the spaces before it.
  pub canon_command : ℕ → Command → List ℕ
  canon_command k (Assign x e) = x.text ++ (codes " := " ++ canon_tree e)
  canon_command k (If e c d) =
      codes "if "
      ++ (canon_tree e ++ (codes " then " ++ (canon_command k c ++ (codes " else " ++ canon_command k d))))
  canon_command k (While e c) = codes "while " ++ (canon_tree e ++ (codes " do " ++ canon_command k c))
  canon_command k (Letvar x class e c) =
      codes "letvar "
      ++ (x.text ++ (canon_class class ++ (codes " := " ++ (canon_tree e ++ (codes " in " ++ canon_command k c)))))
  canon_command k (Block cs) = codes "{\n" ++ (canon_body (suc k) cs ++ (codes "\n" ++ (spaces k ++ codes "}")))

  -- A sequence at an indentation level, each command on a line of its own.
  pub canon_body : ℕ → Body → List ℕ
  canon_body k Done = []
  canon_body k (Then c cs) = spaces k ++ (canon_command k c ++ canon_rest k cs)

  -- The commands after the first, each after a semicolon and a line feed.
  pub canon_rest : ℕ → Body → List ℕ
  canon_rest k Done = []
  canon_rest k (Then c cs) = codes ";\n" ++ (spaces k ++ (canon_command k c ++ canon_rest k cs))

-- The line of a global.
abbrev pub canon_global : Declared → List ℕ
canon_global g = codes "var " ++ (g.name.text ++ (codes " : " ++ (g.class.text ++ codes ";\n")))

-- The lines of the globals in order.
abbrev pub canon_globals : List Declared → List ℕ
canon_globals [] = []
canon_globals (g ∷ gs) = canon_global g ++ canon_globals gs

-- The canonical text of a program: the lines of its globals, its body at indentation level 0, and a line feed.
abbrev pub canon : Whole → List ℕ
canon p = canon_globals p.globals ++ (canon_body 0 p.body ++ codes "\n")
