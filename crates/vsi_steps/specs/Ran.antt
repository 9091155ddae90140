-- The contracts of a run up to a limit.
use Rattle.std.specs.Prelude.{◌≡◌, ◌≤◌, ℕ, ◌+◌, List, [], ◌∷◌, ◌++◌, length, Bool, true, false, Option, Some, None, ℤ}
use Rattle.vsi_scope.specs.Language.{Expression, Command, HasPlaces}
use Rattle.vsi_scope.specs.Limits.{max_size}
use Rattle.vsi_scope.specs.Meaning.{Store, value}
use Rattle.vsi_steps.specs.declared.run.Extent.{Extent}
use Rattle.vsi_steps.specs.declared.run.Step.{Step}
use Rattle.vsi_steps.specs.declared.run.Run.{Run}
use Rattle.vsi_steps.specs.Extents.{HasExtents}
use Rattle.vsi_steps.specs.Sites.{sites}
use Rattle.vsi_steps.specs.Steps.{step, Spells, Begins}

-- A run so far: the words, the steps, the most steps, and the table of extents.
pub record Past : Type 0 where
  pub words : Store
  pub steps : List Step
  pub limit : ℕ
  pub extents : List Extent

-- A run so far, independent of memory.
abbrev pub past : Run → Past
past r =
    record { words = r.words.items; steps = r.steps.items; limit = r.limit; extents = r.extents.items }

-- The steps are within the limit.
abbrev pub IsWithin : Past → Type 0
IsWithin a = length a.steps ≤ a.limit

-- A command, with n sites before it, can be run: its locations exist, its sites are few and in the table, and the steps
-- are within the limit.
pub record IsReady (n : ℕ) (c : Command) (a : Past) : Type 0 where
  pub places : HasPlaces (length a.words) c
  pub few : n + sites c ≤ max_size
  pub table : HasExtents a.extents n c
  pub within : IsWithin a

-- These steps were added under the same limit.
pub record Added (a : Past) (es : List Step) (b : Past) : Type 0 where
  pub steps : b.steps ≡ a.steps ++ es
  pub limit : b.limit ≡ a.limit
  pub extents : b.extents ≡ a.extents

-- The limit is reached.
abbrev pub IsFull : Past → Type 0
IsFull a = length a.steps ≡ a.limit

-- The step of an expression at a site was taken and gives its value, or the limit is reached.
abbrev pub Met : ℕ → Expression → Past → Past → Option ℤ → Type 0
Met n e a b (Some x) =
    (x ≡ value e a.words) × (b.words ≡ a.words) × Added a (step n e a.words ∷ []) b × IsWithin b
Met n e a b None = Added a [] b × IsFull b

-- A command, with n sites before it, was run: to its end, or up to the limit, before a further step.
abbrev pub Ran : ℕ → Command → Past → Past → Bool → Type 0
Ran n c a b true = (es : List Step) × Spells n c a.words es b.words × Added a es b × IsWithin b
Ran n c a b false = (es : List Step) × Begins n c a.words es × Added a es b × IsFull b
