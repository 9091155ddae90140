-- The relation between the marks of a program and its text, and the body of a program without a fault.
use Rattle.std.specs.Prelude.{◌≡◌, ◌≤◌, List, [], ◌∷◌, map, None}
use Rattle.vsi_syntax.specs.Tree as tree
use Rattle.vsi_scope.specs.Language.{Command, size}
use Rattle.vsi_scope.specs.Scopes.{DoesAll, in_sequence}
use Rattle.vsi_lattice.specs.Known.{Known}
use Rattle.vsi_scope.specs.Faults.{Mark, Global, Local, Class, Use, global_names, program_marks, first_fault}
use Rattle.vsi_scope.specs.Resolving.{IsResolution}
use Rattle.vsi_scope.specs.Limits.{max_size}

-- The names that are written, in order.
abbrev pub called : List tree.Lexeme → List tree.Named
called [] = []
called (tree.Called x ∷ ws) = x ∷ called ws
called (tree.Sign sign ∷ ws) = called ws

-- The name at a mark.
abbrev pub name_at : Mark → tree.Named
name_at (Global above x) = x
name_at (Local n x) = x
name_at (Class x) = x
name_at (Use scope x) = x

-- The marks of a program are at the names that its text writes, in source order.
abbrev pub MarksFollowText : Type 0
MarksFollowText = (p : tree.Whole) → map name_at (program_marks p) ≡ called (tree.write_program p)

-- A program that has a resolution has no fault.
abbrev pub ResolvesFaultless : Type 0
ResolvesFaultless =
    (known : Known) (p : tree.Whole) (cs : List Command) → IsResolution known p cs →
    first_fault known (program_marks p) ≡ None

-- A program without a fault has a body over locations, and if that isn't too large, it is the resolution.
pub record HasBody (known : Known) (p : tree.Whole) : Type 0 where
  pub commands : List Command
  pub body : DoesAll (global_names p.globals) p.body commands
  pub resolution : size (in_sequence commands) ≤ max_size → IsResolution known p commands

-- Every program without a fault has such a body.
abbrev pub FaultlessResolves : Type 0
FaultlessResolves =
    (known : Known) (p : tree.Whole) → first_fault known (program_marks p) ≡ None → HasBody known p
