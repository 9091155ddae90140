-- The steps that are kept of a program.
use Rattle.std.specs.Prelude.{◌≡◌, ◌⊎◌, ℕ, ◌+◌, ◌≤◌, ◌==◌, ◌&&◌, Bool, true, List, [], ◌∷◌, ◌++◌, nat_lt, length, Result, Ok, Err, slice_index}
use Rattle.std.specs.List.{Contains}
use Rattle.vsi_syntax.specs.declared.token.Span.{Span}
use Rattle.vsi_scope.specs.Language.{Command, letvars, has_loop, HasPlaces}
use Rattle.vsi_types.specs.declared.rules.Profile.{Profile}
use Rattle.vsi_types.specs.declared.rules.Step.{Step}
use Rattle.vsi_types.specs.Steps.{steps}
use Rattle.vsi_types.specs.Walker.{Place}
use Rattle.vsi_infer.specs.declared.looking.Gathering.{Gathering}

-- The place has the locations of the command, and the names of its letvars.
pub record HasRoom (first count : ℕ) (a : Place) (c : Command) : Type 0 where
  pub places : HasPlaces (length a.scope) c
  pub after : first ≤ a.next
  pub limit : a.next + letvars c ≤ first + count
  pub small : first + count ≤ 1024

-- The steps that are kept, and whether every step is looked at.
pub record Kept : Type 0 where
  pub steps : List Step
  pub every : Bool

-- The steps that a walk keeps.
abbrev pub kept_of : Gathering → Kept
kept_of g = record { steps = g.kept.steps.items; every = g.every }

-- At most this one step was added to the kept ones.
abbrev pub MayKeep : Step → List Step → List Step → Type 0
MayKeep s old new = (new ≡ old) ⊎ (new ≡ old ++ s ∷ [])

-- Each kept step was kept before, or is one of the steps and wanted.
pub record IsAmong (wants : Step → Bool) (ss : List Step) (old new : Kept) : Type 0 where
  pub each : (x : Step) → Contains new.steps x → Contains old.steps x ⊎ (Contains ss x × (wants x ≡ true))
  pub more : length old.steps ≤ length new.steps
  pub every : new.every ≡ old.every

-- The same, and if every step is looked at, one is kept whenever one of the steps is wanted.
pub record IsFrom (wants : Step → Bool) (ss : List Step) (old new : Kept) : Type 0 where
  pub among : IsAmong wants ss old new
  pub some : old.every ≡ true → (x : Step) → Contains ss x → wants x ≡ true → 1 ≤ length new.steps

-- The steps of a command were looked at, and the place is the one after the command.
pub record IsGathered (wants : Step → Bool) (P : Profile) (names : ℕ → Span) (a : Place) (old : Kept) (c : Command)
    (b : Place) (new : Kept) : Type 0 where
  pub kept : IsFrom wants (steps P names a.guards a.scope a.next c) old new
  pub scope : b.scope ≡ a.scope
  pub guards : b.guards ≡ a.guards
  pub next : b.next ≡ a.next + letvars c

-- The answer for a command says whether it loops.
abbrev pub Gathers : {E : Type 0} → (Step → Bool) → Profile → (ℕ → Span) → Place → Kept → Command → Place → Kept
    → Result Bool E → Type 0
Gathers wants P names a old c b new (Ok looping) = (looping ≡ has_loop c) × IsGathered wants P names a old c b new
Gathers wants P names a old c b new (Err e) = Unit {0}

-- The step leads to the target of its source.
abbrev pub goes_along : List ℕ → Step → Bool
goes_along targets s = nat_lt s.source (length targets) && (slice_index targets s.source == s.target)
