-- The contracts of the code that runs.
use Rattle.std.specs.Prelude.{◌≡◌, ◌⊎◌, ◌≤◌, ℕ, ◌+◌, List, length, take, ⊤, Option, Some, None, Result, Ok, Err}
use Rattle.std.specs.List.{All}
use Rattle.vsi_lattice.specs.Order.{Lattice, IsClass}
use Rattle.vsi_syntax.specs.declared.token.Span.{Span}
use Rattle.vsi_scope.specs.Language.{Expression, Command, letvars, HasPlaces}
use Rattle.vsi_scope.specs.Limits.{max_declarations}
use Rattle.vsi_scope.specs.Meaning.{Store}
use Rattle.vsi_scope.specs.Program.{Resolved}
use Rattle.vsi_scope.specs.View.{sequence}
use Rattle.vsi_types.specs.Security.{class_of}
use Rattle.vsi_types.specs.Typing.{Locations}
use Rattle.vsi_steps.specs.declared.labels.Rule.{Rule}
use Rattle.vsi_steps.specs.declared.labels.Rule.TheVariants.{NoSensitiveUpgrade, PermissiveUpgrade}
use Rattle.vsi_steps.specs.declared.labels.State.{State}
use Rattle.vsi_steps.specs.declared.watch.Unfinished.{Unfinished}
use Rattle.vsi_steps.specs.declared.watch.Unfinished.TheVariants as ends
use Rattle.vsi_steps.specs.declared.watch.Watched as watch
use Rattle.vsi_steps.specs.Labels.{HasLabel, IsStored, IsLabelled, labelling, ReadsNoMark, ReadsMarkAt}
use Rattle.vsi_steps.specs.Monitor.{Halted, Stopped, Monitored, MayReplace, branch}

-- The words in scope, their labels, the classes of their variables, and the steps that are left.
pub record Held : Type 0 where
  pub words : Store
  pub labels : Locations
  pub variables : Locations
  pub left : ℕ

-- The same, independent of memory.
abbrev pub held : State → Held
held s =
    record { words = s.words.items; labels = s.labels.items; variables = s.variables.items; left = s.left }

-- Each word has a label, and each label and each variable a class of the lattice.
pub record IsHeld (L : Lattice) (a : Held) : Type 0 where
  pub labelled : IsLabelled L (length a.variables) a.words a.labels
  pub variables : All (IsClass L) a.variables

-- A command, which has n declarations before it, can be run under a counter: its declarations are few, the table has a
-- class for each of them, and the state has its locations.
pub record IsReady (L : Lattice) (table : List ℕ) (pc n : ℕ) (c : Command) (a : Held) : Type 0 where
  pub table_classes : All (IsClass L) table
  pub entries : n + letvars c ≤ length table
  pub few : n + letvars c ≤ max_declarations
  pub held : IsHeld L a
  pub counter : IsClass L pc
  pub places : HasPlaces (length a.variables) c

-- How an assignment under a counter is judged by a rule, from the variable's present label, the label of the expression
-- and the class of the variable: what is stored has a label, or the run is to be stopped.
abbrev pub Judged : Rule → Lattice → ℕ → ℕ → ℕ → ℕ → Option ℕ → Type 0
Judged R L pc present t class (Some v) =
    (MayReplace R L pc present × IsStored L t pc class v)
    ⊎ ((R ≡ PermissiveUpgrade) × (MayReplace R L pc present → ⊥) × (v ≡ L.top))
Judged R L pc present t class None = (R ≡ NoSensitiveUpgrade) × (MayReplace R L pc present → ⊥)

-- What a look at a guard under a counter finds: its label, or why the run is stopped.
abbrev pub Guarded : Rule → Lattice → ℕ → Locations → Expression → Result ℕ Unfinished → Type 0
Guarded R L pc q e (Ok t) = ReadsNoMark R L q e × IsClass L t × HasLabel L q e t
Guarded R L pc q e (Err x) = (s : Span) × ReadsMarkAt R L q e s × (x ≡ ends.Stopped (branch L s pc))

-- How a run of a command under a counter, with n declarations before it, ends.
abbrev pub Watched : Rule → Lattice → (ℕ → ℕ) → ℕ → ℕ → Command → Held → Held → Result ⊤ Unfinished → Type 0
Watched R L classes pc n c a b (Ok u) =
    Monitored R L classes a.variables pc n c a.words a.labels (Halted b.words b.labels)
    × (b.variables ≡ a.variables) × (b.left ≤ a.left)
Watched R L classes pc n c a b (Err (ends.Stopped x)) =
    Monitored R L classes a.variables pc n c a.words a.labels (Stopped x)
Watched R L classes pc n c a b (Err ends.Limit) = Unit {0}
Watched R L classes pc n c a b (Err ends.Memory) = Unit {0}

-- The same by the labels of a rule, where the table has the class of each declaration.
abbrev pub Goes : Rule → Lattice → List ℕ → ℕ → ℕ → Command → Held → Held → Result ⊤ Unfinished → Type 0
Goes R L table = Watched R (labelling R L) (class_of (labelling R L) table)

-- The table has the class of each declaration of the program. Its run from a store whose words have the classes of
-- their globals as labels halts with these words and labels, is stopped, or isn't finished.
abbrev pub RunEnds : Rule → Lattice → List ℕ → Resolved → Store → Result watch.Watched Unfinished → Type 0
RunEnds R L table r m (Ok w) =
    Monitored R (labelling R L) (class_of L table) (take (length r.globals) table) L.bottom (length r.globals)
    (sequence r.body) m (take (length r.globals) table) (Halted w.words.items w.labels.items)
RunEnds R L table r m (Err (ends.Stopped x)) =
    Monitored R (labelling R L) (class_of L table) (take (length r.globals) table) L.bottom (length r.globals)
    (sequence r.body) m (take (length r.globals) table) (Stopped x)
RunEnds R L table r m (Err ends.Limit) = Unit {0}
RunEnds R L table r m (Err ends.Memory) = Unit {0}
