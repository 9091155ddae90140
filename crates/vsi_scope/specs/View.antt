-- The meaning of the program's types.
use Rattle.std.specs.Prelude.{List, [], ◌∷◌}
use Rattle.vsi_scope.specs.declared.program.Ex.{Ex}
use Rattle.vsi_scope.specs.declared.program.Ex.TheVariants.{Num, Loc, Op'}
use Rattle.vsi_scope.specs.declared.program.Cmd.{Cmd, Row_of-Cmd, end_of-Cmd, more_of-Cmd}
use Rattle.vsi_scope.specs.declared.program.Cmd as cmd
use Rattle.vsi_scope.specs.Language.{Expression, Number, Location, Operator, Command, Skip, Assign, Sequence, If, While, Letvar}

-- The expression that a value of the code denotes.
abbrev pub expression : Ex → Expression
expression (Num n) = Number n
expression (Loc l s) = Location l s
expression (Op' o p a q b) = Operator o (expression a) (expression b)

abbrev mutual
  -- The command that a value of the code denotes.
  pub command : Cmd → Command
  command (cmd.Assign l s e) = Assign l s (expression e)
  command (cmd.If' e sy y sn n) = If (expression e) (row y) (row n)
  command (cmd.While' e sb b) = While (expression e) (row b)
  command (cmd.Letvar' e sb b) = Letvar (expression e) (row b)

  -- The sequence of the elements of a Vec of commands.
  pub row : {m : _} → Row_of-Cmd m → Command
  row end_of-Cmd = Skip
  row (more_of-Cmd c rest) = Sequence (command c) (row rest)

-- A list of commands is their sequence.
abbrev pub sequence : List Cmd → Command
sequence [] = Skip
sequence (c ∷ cs) = Sequence (command c) (sequence cs)
