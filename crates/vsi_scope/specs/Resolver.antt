-- The effect of a walk through the text.
use Rattle.std.specs.Prelude.{◌≡◌, ℕ, ◌+◌, ◌≤◌, List, [], ◌++◌, length, map, Option}
use Rattle.vsi_syntax.specs.Tree as tree
use Rattle.vsi_scope.specs.declared.program.Cmd.{Cmd}
use Rattle.vsi_scope.specs.declared.resolution.whole.Names.{Names}
use Rattle.vsi_scope.specs.declared.resolution.whole.Globals.{Globals}
use Rattle.vsi_scope.specs.declared.resolution.command.Resolver.{Resolver}
use Rattle.vsi_scope.specs.declared.resolution.ScopeError.{ScopeError}
use Rattle.vsi_scope.specs.Language.{Command}
use Rattle.vsi_scope.specs.View.{command}
use Rattle.vsi_scope.specs.Scopes.{Scope}
use Rattle.vsi_scope.specs.Places.{commands_of, all_commands}
use Rattle.vsi_lattice.specs.Known.{Known}
use Rattle.vsi_scope.specs.Faults.{marks, all_marks, global_names, first_fault}
use Rattle.vsi_scope.specs.Resolving.{Variable, variable, variables, all_variables, shown, global_of}
use Rattle.vsi_scope.specs.Limits.{max_declarations}

-- The names in scope: those of globals, then those of letvars.
abbrev pub names_of : Names → Scope
names_of ns = map (λ x. x.now) ns.globals.keys ++ map (λ x. x.now) ns.locals.items

-- No global is read, and no letvar is in scope.
pub record HasNone (read : Globals) : Type 0 where
  pub list : read.list.items ≡ []
  pub globals : read.names.globals.keys ≡ []
  pub outer : read.names.locals.items ≡ []

-- The globals of these declarations are read, and no letvar is in scope.
pub record HasRead (known : Known) (gs : List tree.Declared) (read : Globals) : Type 0 where
  pub outer : read.names.locals.items ≡ []
  pub names : names_of read.names ≡ global_names gs
  pub list : map shown read.list.items ≡ map (global_of known) gs

-- The names in scope at this point of the walk.
abbrev pub scope_of : Resolver → Scope
scope_of w = names_of w.names

-- The number of declarations so far.
abbrev pub declared : Resolver → ℕ
declared w = length w.names.globals.keys + length w.letvars.items

-- The letvars in scope are declared, and the number of declarations is within the limit.
pub record IsWithin (w : Resolver) : Type 0 where
  pub locals : length w.names.locals.items ≤ length w.letvars.items
  pub few : declared w ≤ max_declarations

-- The walk has passed these letvars and has produced these commands.
pub record Walked
    (old new : Resolver) (before after : List Cmd) (variables : List Variable) (commands : List Command)
    : Type 0 where
  pub within : IsWithin new
  pub globals : new.names.globals.keys ≡ old.names.globals.keys
  pub locals : new.names.locals.items ≡ old.names.locals.items
  pub letvars : map variable new.letvars.items ≡ map variable old.letvars.items ++ variables
  pub body : map command after ≡ map command before ++ commands

-- The walk has passed a command.
abbrev pub WalkedOne : Known → Resolver → Resolver → List Cmd → List Cmd → tree.Command → Type 0
WalkedOne known old new before after c =
    Walked old new before after (variables known c) (commands_of (scope_of old) c)

-- The walk has passed a sequence.
abbrev pub WalkedAll : Known → Resolver → Resolver → List Cmd → List Cmd → tree.Body → Type 0
WalkedAll known old new before after b =
    Walked old new before after (all_variables known b) (all_commands (scope_of old) b)

-- The first fault of a command at this point of the walk.
abbrev pub fault_in : Known → Resolver → tree.Command → Option ScopeError
fault_in known w c = first_fault known (marks (scope_of w) (declared w) c)

-- The first fault of a sequence at this point of the walk.
abbrev pub fault_in_all : Known → Resolver → tree.Body → Option ScopeError
fault_in_all known w b = first_fault known (all_marks (scope_of w) (declared w) b)
