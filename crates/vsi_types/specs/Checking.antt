-- The answers of the check.
use Rattle.std.specs.Prelude.{◌≡◌, ℕ, ◌+◌, ◌++◌, List, map, Result, Ok, Err}
use Rattle.vsi_lattice.specs.Order.{Lattice}
use Rattle.vsi_syntax.specs.declared.token.Span.{Span}
use Rattle.vsi_scope.specs.Language.{Command, letvars}
use Rattle.vsi_types.specs.declared.rules.CheckError.{CheckError}
use Rattle.vsi_types.specs.declared.rules.CheckError.TheVariants.{Memory, WrongChoice, Flow}
use Rattle.vsi_types.specs.declared.rules.Profile.{Profile}
use Rattle.vsi_types.specs.declared.rules.Step.{Step}
use Rattle.vsi_types.specs.declared.rules.Guard.{Guard}
use Rattle.vsi_types.specs.declared.rules.FlowFault.{FlowFault}
use Rattle.vsi_types.specs.Steps.{flow, steps, AreInOrder, IsFirstFault}
use Rattle.vsi_types.specs.Security.{Program, IsChoice, class_of, steps_of}
use Rattle.vsi_types.specs.Walker.{Place}

-- The meaning of an error: a wrong choice is not a choice for the program, and a flow is the first step that isn't in
-- order.
abbrev pub TellsWhy : Lattice → Profile → Program → List ℕ → CheckError → Type 0
TellsWhy L P p s Memory = Unit {0}
TellsWhy L P p s WrongChoice = IsChoice p s → ⊥
TellsWhy L P p s (Flow f) = IsChoice p s × IsFirstFault L (class_of L (p.globals ++ s)) (steps_of P p) f

-- The meaning of an answer for a list of steps: all are in order, or this is the first that isn't.
abbrev pub StepsJudged : {U : Type 0} → Lattice → (ℕ → ℕ) → List Step → Result U FlowFault → Type 0
StepsJudged L classes ss (Ok u) = AreInOrder L classes ss
StepsJudged L classes ss (Err f) = IsFirstFault L classes ss f

-- The flow of a guard into a target whose write position for that guard is given.
abbrev pub step_at : ℕ → (Guard → Span) → Guard → Step
step_at target written g = flow target (written g) g

-- The meaning of an answer for the flows of guards into a target, wherever it is written.
abbrev pub FlowsJudged : {U : Type 0} → Lattice → (ℕ → ℕ) → ℕ → List Guard → Result U FlowFault → Type 0
FlowsJudged L classes target gs r = (written : Guard → Span) →
    StepsJudged L classes (map (step_at target written) gs) r

-- The meaning of an error for a list of steps: a flow is the first that isn't in order.
abbrev pub TellsFault : Lattice → (ℕ → ℕ) → List Step → CheckError → Type 0
TellsFault L classes ss Memory = Unit {0}
TellsFault L classes ss WrongChoice = ⊥
TellsFault L classes ss (Flow f) = IsFirstFault L classes ss f

-- The meaning of an answer for the steps of a command at a position, and the position after it.
abbrev pub Judged : {U : Type 0} → Lattice → Profile → (ℕ → ℕ) → Place → Command → Place → Result U CheckError →
    Type 0
Judged L P classes a c b (Ok u) =
    (b.scope ≡ a.scope) × (b.guards ≡ a.guards) × (b.next ≡ a.next + letvars c)
    × ((names : ℕ → Span) → AreInOrder L classes (steps P names a.guards a.scope a.next c))
Judged L P classes a c b (Err e) =
    (names : ℕ → Span) → TellsFault L classes (steps P names a.guards a.scope a.next c) e
