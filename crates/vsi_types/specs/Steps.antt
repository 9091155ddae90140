-- The flow steps of a program in order.
use Rattle.std.specs.Prelude.{◌≡◌, ℕ, ◌+◌, Bool, true, false, ◌||◌, List, [], ◌∷◌, ◌++◌, map, slice_index}
use Rattle.std.specs.List.{All}
use Rattle.vsi_lattice.specs.Order.{Lattice, Below}
use Rattle.vsi_syntax.specs.declared.token.Span.{Span}
use Rattle.vsi_scope.specs.Language.{Expression, Number, Location, Operator, Command, Skip, Assign, Sequence, If, While, Letvar, letvars, has_loop}
use Rattle.vsi_types.specs.declared.rules.Profile.{Profile}
use Rattle.vsi_types.specs.declared.rules.Profile.TheVariants.{Base, Strict}
use Rattle.vsi_types.specs.declared.rules.Rule.{Rule}
use Rattle.vsi_types.specs.declared.rules.Step.{Step}
use Rattle.vsi_types.specs.declared.rules.Read.{Read}
use Rattle.vsi_types.specs.declared.rules.Guard.{Guard}
use Rattle.vsi_types.specs.declared.rules.FlowFault.{FlowFault}
use Rattle.vsi_types.specs.declared.rules.Rule.TheVariants as typing

-- The variable that represents the ending of loops.
abbrev pub sink : ℕ
sink = 65535

-- The reads of an expression in source order; the scope gives the variable of each location.
abbrev pub reads : List ℕ → Expression → List Read
reads scope (Number z) = []
reads scope (Location l s) = record { variable = slice_index scope l; place = s } ∷ []
reads scope (Operator o a b) = reads scope a ++ reads scope b

-- The reads of a guard, under the rule of that guard.
abbrev pub guarded : Rule → List Read → List Guard
guarded rule rs = map (λ r. record { rule = rule; read = r }) rs

-- The flow of a guard's read into a target.
abbrev pub flow : ℕ → Span → Guard → Step
flow target written g =
    record { rule = g.rule; source = g.read.variable; target = target; read = g.read.place; written = written }

-- The flows of guards into a target.
abbrev pub flows : ℕ → Span → List Guard → List Step
flows target written gs = map (flow target written) gs

-- The flow of a read into the ending of a loop; its write position is that of the read.
abbrev pub ending : Read → Step
ending r = record { rule = typing.Loop; source = r.variable; target = sink; read = r.place; written = r.place }

-- The flows of reads into the ending of a loop, under the strict profile and if there is a loop.
abbrev pub endings : Profile → Bool → List Read → List Step
endings Base looping rs = []
endings Strict false rs = []
endings Strict true rs = map ending rs

-- The flow steps of a command under guards, the outermost first, with n declarations before it; `names` gives the span
-- of each declaration's name, and `scope` the variable of each location.
abbrev pub steps : Profile → (ℕ → Span) → List Guard → List ℕ → ℕ → Command → List Step
steps P names gs scope n Skip = []
steps P names gs scope n (Assign l s e) = flows (slice_index scope l) s (guarded typing.Assign (reads scope e) ++ gs)
steps P names gs scope n (Sequence a b) = steps P names gs scope n a ++ steps P names gs scope (n + letvars a) b
steps P names gs scope n (If e a b) =
    endings P (has_loop a || has_loop b) (reads scope e)
    ++ (steps P names (gs ++ guarded typing.If (reads scope e)) scope n a
    ++ steps P names (gs ++ guarded typing.If (reads scope e)) scope (n + letvars a) b)
steps P names gs scope n (While e c) =
    endings P true (reads scope e) ++ steps P names (gs ++ guarded typing.While (reads scope e)) scope n c
steps P names gs scope n (Letvar e c) =
    flows n (names n) (guarded typing.Letvar (reads scope e)) ++ steps P names gs (scope ++ n ∷ []) (n + 1) c

-- A step is in order if the class of its source is at or below the class of its target.
abbrev pub IsInOrder : Lattice → (ℕ → ℕ) → Step → Type 0
IsInOrder L classes s = Below L (classes s.source) (classes s.target)

-- All steps are in order.
abbrev pub AreInOrder : Lattice → (ℕ → ℕ) → List Step → Type 0
AreInOrder L classes ss = All (IsInOrder L classes) ss

-- The fault that an error reports for a step.
abbrev pub fault_of : Step → FlowFault
fault_of s = record { rule = s.rule; span = s.read; source = s.source; target = s.target }

-- The fault reports the first step of the list that isn't in order.
pub record IsFirstFault (L : Lattice) (classes : ℕ → ℕ) (ss : List Step) (f : FlowFault) : Type 0 where
  pub before : List Step
  pub step : Step
  pub after : List Step
  pub whole : ss ≡ before ++ step ∷ after
  pub earlier : AreInOrder L classes before
  pub fault : f ≡ fault_of step
  pub down : IsInOrder L classes step → ⊥
