-- A text whose program is that of another text, but for the name of one variable.
use Rattle.std.specs.Prelude.{◌≡◌, ℕ, List, ◌++◌, map, length, slice_set}
use Rattle.vsi_lattice.specs.Known.{Known}
use Rattle.vsi_scope.specs.Program.{Resolved}
use Rattle.vsi_scope.specs.View.{sequence}
use Rattle.vsi_code.specs.Layout.{whole_code}
use Rattle.vsi_compiler.specs.Stands.{Stands}

-- The names of a program's variables: the globals, then the letvars in the order of the text.
abbrev pub names : Resolved → List (List ℕ)
names r = map (λ g. g.name.now) r.globals ++ map (λ e. e.name.now) r.letvars

-- Two programs over locations have the same code.
abbrev pub SameCode : Resolved → Resolved → Type 0
SameCode old new =
    whole_code (length new.globals) (sequence new.body) ≡ whole_code (length old.globals) (sequence old.body)

-- Two programs over locations have the same code, their variables have the same names but for one, which has the new
-- name, and the same classes, where one is declared.
pub record SameProgram (variable : ℕ) (name : List ℕ) (old new : Resolved) : Type 0 where
  pub named : names new ≡ slice_set (names old) variable name
  pub globals : map (λ g. g.class) new.globals ≡ map (λ g. g.class) old.globals
  pub letvars : map (λ e. e.class) new.letvars ≡ map (λ e. e.class) old.letvars
  pub code : SameCode old new

-- The two texts have programs, and these are the same but for the new name of the variable.
pub record KeepsProgram (known : Known) (variable : ℕ) (name old new : List ℕ) : Type 0 where
  pub before : Resolved
  pub after : Resolved
  pub read : Stands known old before
  pub again : Stands known new after
  pub same : SameProgram variable name before after
