-- The position of a walk over a program.
use Rattle.std.specs.Prelude.{ℕ, List}
use Rattle.vsi_types.specs.declared.rules.Guard.{Guard}
use Rattle.vsi_types.specs.declared.walker.Walker.{Walker}

-- A position in a program: the variable of each location, the enclosing guards, and the declarations before it.
pub record Place : Type 0 where
  pub scope : List ℕ
  pub guards : List Guard
  pub next : ℕ

-- The position of a walk.
abbrev pub walker_place : Walker → Place
walker_place w = record { scope = w.scope.items; guards = w.guards.items; next = w.next }
