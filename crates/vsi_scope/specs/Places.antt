-- Resolution as a function, for trees whose names are all in scope.
use Rattle.std.specs.Prelude.{ℕ, suc, List, [], ◌∷◌, ◌++◌, bytes_eq, if◌then◌else◌, Option, Some, None}
use Rattle.vsi_syntax.specs.Tree as tree
use Rattle.vsi_scope.specs.Language.{Expression, Number, Location, Operator, Command, Assign, If, While, Letvar}
use Rattle.vsi_scope.specs.Scopes.{Text, Scope, in_sequence}

-- The position in a longer list: one further, or here if there is none further.
abbrev pub next_place : Option ℕ → Option ℕ → Option ℕ
next_place (Some l) here = Some (suc l)
next_place None here = here

-- The last position of a name.
abbrev pub place_of : Scope → Text → Option ℕ
place_of [] x = None
place_of (y ∷ ys) x = next_place (place_of ys x) (if bytes_eq y x then Some 0 else None)

-- The number if there is one, else 0.
abbrev pub or_zero : Option ℕ → ℕ
or_zero None = 0
or_zero (Some l) = l

-- The last position of a name that is in scope, else 0.
abbrev pub place : Scope → Text → ℕ
place scope x = or_zero (place_of scope x)

-- The expression over locations.
abbrev pub expression_of : Scope → tree.Tree → Expression
expression_of scope (tree.Number n) = Number n
expression_of scope (tree.Name x) = Location (place scope x.text) x.span
expression_of scope (tree.Bracket e) = expression_of scope e
expression_of scope (tree.Binary op a b) = Operator op (expression_of scope a) (expression_of scope b)

abbrev mutual
  -- The list of commands over locations for a command.
  pub commands_of : Scope → tree.Command → List Command
  commands_of scope (tree.Assign x e) = Assign (place scope x.text) x.span (expression_of scope e) ∷ []
  commands_of scope (tree.If e c d) =
      If (expression_of scope e) (in_sequence (commands_of scope c)) (in_sequence (commands_of scope d)) ∷ []
  commands_of scope (tree.While e c) = While (expression_of scope e) (in_sequence (commands_of scope c)) ∷ []
  commands_of scope (tree.Letvar x class e c) =
      Letvar (expression_of scope e) (in_sequence (commands_of (scope ++ x.text ∷ []) c)) ∷ []
  commands_of scope (tree.Block b) = all_commands scope b

  -- The list of commands over locations for a sequence.
  pub all_commands : Scope → tree.Body → List Command
  all_commands scope tree.Done = []
  all_commands scope (tree.Then c rest) = commands_of scope c ++ all_commands scope rest
