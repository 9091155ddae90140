-- The declarations and uses of a program in source order, each with the context in which it is judged, and the first
-- fault.
use Rattle.std.specs.Prelude.{◌≡◌, ℕ, suc, ◌+◌, nat_lt, List, [], ◌∷◌, ◌++◌, length, map, if◌then◌else◌, Option, Some, None, Result, Ok, Err}
use Rattle.std.specs.Option.{option_or}
use Rattle.vsi_syntax.specs.Tree as tree
use Rattle.vsi_lattice.specs.Known.{Known}
use Rattle.vsi_scope.specs.declared.resolution.ScopeError.{ScopeError}
use Rattle.vsi_scope.specs.declared.resolution.ScopeError.TheVariants as errors
use Rattle.vsi_scope.specs.Scopes.{Scope}
use Rattle.vsi_scope.specs.Places.{place_of}
use Rattle.vsi_scope.specs.Limits.{max_globals, max_declarations}

-- A name that may be at fault: the name of a global with those above it, the name of a letvar with the number of
-- declarations before it, the name of a class, or a name that is read or assigned to with those in scope.
pub data Mark : Type 0 where
  Global : (above : Scope) → (name : tree.Named) → Mark
  Local : (declared : ℕ) → (name : tree.Named) → Mark
  Class : (name : tree.Named) → Mark
  Use : (scope : Scope) → (name : tree.Named) → Mark

-- ---- the marks of a tree, in source order.

-- The class that is written, if any.
abbrev pub class_marks : Option tree.Named → List Mark
class_marks None = []
class_marks (Some class) = Class class ∷ []

-- The names of an expression.
abbrev pub uses : Scope → tree.Tree → List Mark
uses scope (tree.Number n) = []
uses scope (tree.Name x) = Use scope x ∷ []
uses scope (tree.Bracket e) = uses scope e
uses scope (tree.Binary op a b) = uses scope a ++ uses scope b

abbrev mutual
  -- The number of letvars in a command.
  pub locals : tree.Command → ℕ
  locals (tree.Assign x e) = 0
  locals (tree.If e c d) = locals c + locals d
  locals (tree.While e c) = locals c
  locals (tree.Letvar x class e c) = suc (locals c)
  locals (tree.Block b) = all_locals b

  -- The number of letvars in a sequence.
  pub all_locals : tree.Body → ℕ
  all_locals tree.Done = 0
  all_locals (tree.Then c rest) = locals c + all_locals rest

abbrev mutual
  -- The marks of a command after n declarations.
  pub marks : Scope → ℕ → tree.Command → List Mark
  marks scope n (tree.Assign x e) = Use scope x ∷ uses scope e
  marks scope n (tree.If e c d) = uses scope e ++ (marks scope n c ++ marks scope (n + locals c) d)
  marks scope n (tree.While e c) = uses scope e ++ marks scope n c
  marks scope n (tree.Letvar x class e c) =
      Local n x ∷ (class_marks class ++ (uses scope e ++ marks (scope ++ x.text ∷ []) (suc n) c))
  marks scope n (tree.Block b) = all_marks scope n b

  -- The marks of a sequence after n declarations.
  pub all_marks : Scope → ℕ → tree.Body → List Mark
  all_marks scope n tree.Done = []
  all_marks scope n (tree.Then c rest) = marks scope n c ++ all_marks scope (n + locals c) rest

-- The marks of globals after others.
abbrev pub global_marks : Scope → List tree.Declared → List Mark
global_marks above [] = []
global_marks above (g ∷ gs) = Global above g.name ∷ Class g.class ∷ global_marks (above ++ g.name.text ∷ []) gs

-- The names of globals.
abbrev pub global_names : List tree.Declared → Scope
global_names gs = map (λ g. g.name.text) gs

-- The marks of a program.
abbrev pub program_marks : tree.Whole → List Mark
program_marks p = global_marks [] p.globals ++ all_marks (global_names p.globals) (length p.globals) p.body

-- ---- faults.

-- A fault if nothing was found.
abbrev pub if_absent : Option ℕ → ScopeError → Option ScopeError
if_absent None e = Some e
if_absent (Some l) e = None

-- A fault if something was found, else another one.
abbrev pub if_there : Option ℕ → ScopeError → Option ScopeError → Option ScopeError
if_there None e otherwise = otherwise
if_there (Some l) e otherwise = Some e

-- The fault at a mark; of two faults, the one listed first in `ScopeError`.
abbrev pub fault_at : Known → Mark → Option ScopeError
fault_at classes (Global above x) =
    if_there (place_of above x.text) (errors.Duplicate x.span)
    (if nat_lt (length above) max_globals then None else Some (errors.TooManyGlobals x.span))
fault_at classes (Local n x) = if nat_lt n max_declarations then None else Some (errors.TooManyDeclarations x.span)
fault_at classes (Class x) = if_absent (classes x.text) (errors.UnknownClass x.span)
fault_at classes (Use scope x) = if_absent (place_of scope x.text) (errors.Unbound x.span)

-- The first fault of marks.
abbrev pub first_fault : Known → List Mark → Option ScopeError
first_fault classes [] = None
first_fault classes (m ∷ ms) = option_or (fault_at classes m) (first_fault classes ms)

-- The error is the first fault, unless memory ran out.
abbrev pub Refuses : ScopeError → Option ScopeError → Type 0
Refuses errors.Memory o = Unit {0}
Refuses e o = o ≡ Some e

-- There is an answer if there is no fault, and an error is the first fault.
abbrev pub Judged : {X : Type 0} → Result X ScopeError → Option ScopeError → Type 0
Judged (Ok x) o = o ≡ None
Judged (Err e) o = Refuses e o
