-- Commands within the limits of a resolved program.
use Rattle.std.specs.Prelude.{◌≡◌, ℕ, ◌≤◌}
use Rattle.vsi_scope.specs.Language.{Expression, Command, HasLocations, HasPlaces, expression_depth, depth, letvars}

-- The locations that an expression reads exist, and the expression is no deeper than the room.
pub record FitsExpression (scope room : ℕ) (e : Expression) : Type 0 where
  pub places : HasLocations scope e
  pub shallow : expression_depth e ≤ room

-- The locations of a command exist, the command is no deeper than the room, and it has n letvars.
pub record Fits (scope room n : ℕ) (c : Command) : Type 0 where
  pub places : HasPlaces scope c
  pub shallow : depth c ≤ room
  pub count : letvars c ≡ n
