-- The command and the program that values of the code denote, independent of their location in memory.
use Rattle.std.specs.Prelude.{List, [], ◌∷◌, map, option_map}
use Rattle.vsi_syntax.specs.declared.tree.Declaration.{Declaration}
use Rattle.vsi_syntax.specs.declared.tree.Stmt.{Stmt, fold-Stmt}
use Rattle.vsi_syntax.specs.declared.tree.Stmt.TheOpen.{Stmt-F}
use Rattle.vsi_syntax.specs.Tree.{Command, Assign, If, While, Letvar, Block, Body, Done, Then, Declared, Whole}
use Rattle.vsi_syntax.specs.View.{named, tree}

-- A list of commands, seen as one sequence.
abbrev pub bodies : List Command → Body
bodies [] = Done
bodies (c ∷ cs) = Then c (bodies cs)

-- One level of a command whose inner commands are already views.
abbrev pub command_step : Stmt-F Command → Command
command_step (Stmt-F.Assign x e) = Assign (named x) (tree e)
command_step (Stmt-F.If e c d) = If (tree e) c.value d.value
command_step (Stmt-F.While e c) = While (tree e) c.value
command_step (Stmt-F.Letvar x class e c) = Letvar (named x) (option_map named class) (tree e) c.value
command_step (Stmt-F.Block v) = Block (bodies v.items)

-- A command of the code, seen as a tree.
abbrev pub command : Stmt → Command
command = fold-Stmt Command command_step

-- The commands of the code, seen as one sequence.
abbrev pub body_of : List Stmt → Body
body_of cs = bodies (map command cs)

-- A global of the code, independent of its location in memory.
abbrev pub declared : Declaration → Declared
declared d = record { name = named d.name; class = named d.class }

-- Globals and commands of the code, seen as a whole program.
abbrev pub whole_of : List Declaration → List Stmt → Whole
whole_of gs cs = record { globals = map declared gs; body = body_of cs }
