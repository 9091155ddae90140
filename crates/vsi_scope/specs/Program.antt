-- A resolved program, as its readers see it.
use Rattle.std.specs.Prelude.{◌≡◌, ◌+◌, ◌≤◌, List, length, map, bytes_eq, IsTrue}
use Rattle.std.specs.List.{All, IsDistinct}
use Rattle.vsi_syntax.specs.Limits.{max_depth}
use Rattle.vsi_syntax.specs.Words.{is_name}
use Rattle.vsi_scope.specs.declared.program.Cmd.{Cmd}
use Rattle.vsi_scope.specs.declared.resolved.Global.{Global}
use Rattle.vsi_scope.specs.declared.resolved.Entry.{Entry}
use Rattle.vsi_scope.specs.Language.{letvars, size, nesting, expressions_depth, HasPlaces}
use Rattle.vsi_scope.specs.View.{sequence}
use Rattle.vsi_scope.specs.Limits.{max_globals, max_declarations, max_size}

-- A program: its globals, the entries of its letvars, and its commands.
pub record Resolved : Type 0 where
  pub globals : List Global
  pub letvars : List Entry
  pub body : List Cmd

-- The program with these parts.
abbrev pub resolved_of : List Global → List Entry → List Cmd → Resolved
resolved_of gs ls cs = record { globals = gs; letvars = ls; body = cs }

-- The name and the class name of a global are valid names.
abbrev pub IsNamed : Global → Type 0
IsNamed g = IsTrue (is_name g.name.now) × IsTrue (is_name g.class_name.now)

-- The invariant of a resolved program: an entry for each letvar, locations that exist, the limits, letvars and
-- expressions that nest at most 200 deep, and distinct names of globals.
pub record IsResolved (r : Resolved) : Type 0 where
  pub entries : length r.letvars ≡ letvars (sequence r.body)
  pub places : HasPlaces (length r.globals) (sequence r.body)
  pub few_globals : length r.globals ≤ max_globals
  pub few_declarations : length r.globals + letvars (sequence r.body) ≤ max_declarations
  pub small : size (sequence r.body) ≤ max_size
  pub nested : nesting (sequence r.body) ≤ max_depth
  pub shallow : expressions_depth (sequence r.body) ≤ max_depth
  pub distinct : IsDistinct bytes_eq (map (λ g. g.name.now) r.globals)
  pub named : All IsNamed r.globals
