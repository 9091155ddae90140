-- A program with a loop in place of each choice. Its flows are those of the program, and in addition each guard flows
-- into the ending of loops.
use Rattle.std.specs.Prelude.{◌≡◌}
use Rattle.vsi_scope.specs.Language.{Command, Skip, Assign, Sequence, If, While, Letvar}
use Rattle.vsi_scope.specs.Program.{Resolved}
use Rattle.vsi_scope.specs.View.{sequence}
use Rattle.vsi_types.specs.Security.{Program}
use Rattle.vsi_opt.specs.Folding.{append}

-- The command with a loop over both branches in place of each choice.
abbrev pub looped : Command → Command
looped Skip = Skip
looped (Assign l s e) = Assign l s e
looped (Sequence a b) = Sequence (looped a) (looped b)
looped (If e a b) = While e (append (looped a) (looped b))
looped (While e c) = While e (looped c)
looped (Letvar e c) = Letvar e (looped c)

-- The program with such a body.
abbrev pub looped_program : Program → Program
looped_program p = record { globals = p.globals; declared = p.declared; names = p.names; body = looped p.body }

-- The second resolved program is the first one with such a body.
pub record IsLooped (p r : Resolved) : Type 0 where
  pub globals : r.globals ≡ p.globals
  pub letvars : r.letvars ≡ p.letvars
  pub body : sequence r.body ≡ looped (sequence p.body)
