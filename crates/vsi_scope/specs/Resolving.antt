-- The relation between a resolved program and its tree, and the meaning of an error.
use Rattle.std.specs.Prelude.{◌≡◌, ℕ, ◌+◌, ◌<◌, ◌≤◌, List, [], ◌∷◌, ◌++◌, length, map, bytes_eq, Option, Some, None, IsSome, IfSome}
use Rattle.std.specs.List.{All, IsDistinct}
use Rattle.vsi_syntax.specs.declared.token.Span.{Span}
use Rattle.vsi_syntax.specs.Tree as tree
use Rattle.vsi_scope.specs.declared.resolved.Global.{Global}
use Rattle.vsi_scope.specs.declared.resolved.Entry.{Entry}
use Rattle.vsi_scope.specs.declared.resolution.ScopeError.{ScopeError}
use Rattle.vsi_scope.specs.declared.resolution.ScopeError.TheVariants as errors
use Rattle.vsi_scope.specs.Language.{Command, size}
use Rattle.vsi_scope.specs.View.{command}
use Rattle.vsi_scope.specs.Program.{Resolved}
use Rattle.vsi_scope.specs.Scopes.{Text, DoesAll, in_sequence}
use Rattle.vsi_lattice.specs.Known.{Known}
use Rattle.vsi_scope.specs.Faults.{all_locals, program_marks, first_fault, global_names}
use Rattle.vsi_scope.specs.Limits.{max_globals, max_declarations, max_size}

-- ---- the globals and the letvars of a tree.

-- A global: its name, its class if the lattice has it, and the name of the class.
pub record Shown : Type 0 where
  pub name : Text
  pub class : Option ℕ
  pub class_name : Text

-- A global of the program, independent of the location of its names in memory.
abbrev pub shown : Global → Shown
shown g = record { name = g.name.now; class = Some g.class; class_name = g.class_name.now }

-- The global that a declaration makes.
abbrev pub global_of : Known → tree.Declared → Shown
global_of known g = record { name = g.name.text; class = known g.class.text; class_name = g.class.text }

-- A letvar: its name, its class if one is written, and the span of its name.
pub record Variable : Type 0 where
  pub name : Text
  pub class : Option ℕ
  pub span : Span

-- An entry of the program, independent of the location of its name in memory.
abbrev pub variable : Entry → Variable
variable e = record { name = e.name.now; class = e.class; span = e.span }

-- The letvar of a name, with its class.
abbrev pub letvar : tree.Named → Option ℕ → Variable
letvar x class = record { name = x.text; class = class; span = x.span }

-- The class that is written, if any.
abbrev pub class_of : Known → Option tree.Named → Option ℕ
class_of known None = None
class_of known (Some x) = known x.text

abbrev mutual
  -- The letvars of a command, in source order.
  pub variables : Known → tree.Command → List Variable
  variables known (tree.Assign x e) = []
  variables known (tree.If e c d) = variables known c ++ variables known d
  variables known (tree.While e c) = variables known c
  variables known (tree.Letvar x class e c) = letvar x (class_of known class) ∷ variables known c
  variables known (tree.Block b) = all_variables known b

  -- The letvars of a sequence, in source order.
  pub all_variables : Known → tree.Body → List Variable
  all_variables known tree.Done = []
  all_variables known (tree.Then c rest) = variables known c ++ all_variables known rest

-- ---- classes in the lattice.

-- The lattice has each global's class.
abbrev pub HasGlobalClasses : Known → List tree.Declared → Type 0
HasGlobalClasses known [] = Unit {0}
HasGlobalClasses known (g ∷ gs) = IsSome (known g.class.text) × HasGlobalClasses known gs

-- The lattice has the class that is written, if any.
abbrev pub HasClass : Known → Option tree.Named → Type 0
HasClass known None = Unit {0}
HasClass known (Some x) = IsSome (known x.text)

abbrev mutual
  -- The lattice has every class that is written in a command.
  pub HasClasses : Known → tree.Command → Type 0
  HasClasses known (tree.Assign x e) = Unit {0}
  HasClasses known (tree.If e c d) = HasClasses known c × HasClasses known d
  HasClasses known (tree.While e c) = HasClasses known c
  HasClasses known (tree.Letvar x class e c) = HasClass known class × HasClasses known c
  HasClasses known (tree.Block b) = HasAllClasses known b

  -- The lattice has every class that is written in a sequence.
  pub HasAllClasses : Known → tree.Body → Type 0
  HasAllClasses known tree.Done = Unit {0}
  HasAllClasses known (tree.Then c rest) = HasClasses known c × HasAllClasses known rest

-- ---- resolution.

-- These commands are the program over locations, within the limits and with every class in the lattice.
pub record IsResolution (known : Known) (p : tree.Whole) (cs : List Command) : Type 0 where
  pub distinct : IsDistinct bytes_eq (global_names p.globals)
  pub few_globals : length p.globals ≤ max_globals
  pub few_declarations : length p.globals + all_locals p.body ≤ max_declarations
  pub global_classes : HasGlobalClasses known p.globals
  pub classes : HasAllClasses known p.body
  pub body : DoesAll (global_names p.globals) p.body cs
  pub small : size (in_sequence cs) ≤ max_size

-- The program is the resolution of the tree: its globals, its letvars in source order and its body, spans included.
pub record Resolves (known : Known) (p : tree.Whole) (r : Resolved) : Type 0 where
  pub faultless : first_fault known (program_marks p) ≡ None
  pub globals : map shown r.globals ≡ map (global_of known) p.globals
  pub letvars : map variable r.letvars ≡ all_variables known p.body
  pub resolution : IsResolution known p (map command r.body)

-- Every class that a name denotes is below a number.
abbrev pub AreBelow : ℕ → Known → Type 0
AreBelow n known = (x : Text) → IfSome (known x) (λ c. c < n)

-- Every class of the program is below a number.
pub record HasClassesBelow (n : ℕ) (r : Resolved) : Type 0 where
  pub globals : All (λ g. g.class < n) r.globals
  pub letvars : All (λ e. IfSome e.class (λ c. c < n)) r.letvars

-- The program has no fault, and its body over locations is too large.
pub record IsTooLarge (known : Known) (p : tree.Whole) : Type 0 where
  pub commands : List Command
  pub faultless : first_fault known (program_marks p) ≡ None
  pub body : DoesAll (global_names p.globals) p.body commands
  pub large : max_size < size (in_sequence commands)

-- The error is the first fault in source order, or says that a program without such a fault is too large.
abbrev pub ExplainsScope : Known → tree.Whole → ScopeError → Type 0
ExplainsScope known p errors.Memory = Unit {0}
ExplainsScope known p errors.TooLarge = IsTooLarge known p
ExplainsScope known p e = first_fault known (program_marks p) ≡ Some e
