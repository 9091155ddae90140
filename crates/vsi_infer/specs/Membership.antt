-- Whether a step is one of a program's, without a list of the surrounding guards.
use Rattle.std.specs.Prelude.{◌≡◌, ℕ, ◌+◌, ◌≤◌, ◌==◌, Bool, true, false, ◌&&◌, ◌||◌, List, [], ◌∷◌, ◌++◌, length, slice_index}
use Rattle.vsi_syntax.specs.declared.token.Span.{Span}
use Rattle.vsi_scope.specs.Language.{Expression, Number, Location, Operator, Command, Skip, Assign, Sequence, If, While, Letvar, letvars, has_loop, nesting, HasPlaces}
use Rattle.vsi_types.specs.declared.rules.Profile.{Profile}
use Rattle.vsi_types.specs.declared.rules.Rule.{Rule}
use Rattle.vsi_types.specs.declared.rules.Rule.TheVariants as typing
use Rattle.vsi_types.specs.declared.rules.Step.{Step}
use Rattle.vsi_types.specs.Steps.{sink}
use Rattle.vsi_infer.specs.Leading.{observes_ending}
use Rattle.vsi_infer.specs.StepsBetween.{same_rule}
use Rattle.vsi_infer.specs.declared.membership.Cursor.{Cursor}

-- Two spans are equal.
abbrev pub same_span : Span → Span → Bool
same_span s t = (s.start == t.start) && (s.stop == t.stop)

-- The step reads this variable at this span by this rule.
abbrev pub read_is : Step → Rule → ℕ → Span → Bool
read_is x rule v place = same_rule rule x.rule && ((v == x.source) && same_span place x.read)

-- The step writes this variable at this span.
abbrev pub written_is : Step → ℕ → Span → Bool
written_is x v place = (v == x.target) && same_span place x.written

-- Two steps are equal.
abbrev pub same_step : Step → Step → Bool
same_step x s = read_is x s.rule s.source s.read && written_is x s.target s.written

-- The step reads a variable that an expression reads.
abbrev pub reads_pass : Step → Rule → List ℕ → Expression → Bool
reads_pass x rule scope (Number z) = false
reads_pass x rule scope (Location l s) = read_is x rule (slice_index scope l) s
reads_pass x rule scope (Operator o a b) = reads_pass x rule scope a || reads_pass x rule scope b

-- The step goes from a variable that an expression reads to the ending of a loop.
abbrev pub ends_pass : Step → List ℕ → Expression → Bool
ends_pass x scope (Number z) = false
ends_pass x scope (Location l s) = read_is x typing.Loop (slice_index scope l) s && written_is x sink s
ends_pass x scope (Operator o a b) = ends_pass x scope a || ends_pass x scope b

-- The step is one of the command's, where `around` says whether it reads what a surrounding guard reads.
abbrev pub passes : Step → Profile → (ℕ → Span) → Bool → List ℕ → ℕ → Command → Bool
passes x P names around scope n Skip = false
passes x P names around scope n (Assign l s e) =
    (reads_pass x typing.Assign scope e || around) && written_is x (slice_index scope l) s
passes x P names around scope n (Sequence c d) =
    passes x P names around scope n c || passes x P names around scope (n + letvars c) d
passes x P names around scope n (If e c d) =
    (ends_pass x scope e && observes_ending P (has_loop c || has_loop d))
    || (passes x P names (around || reads_pass x typing.If scope e) scope n c
    || passes x P names (around || reads_pass x typing.If scope e) scope (n + letvars c) d)
passes x P names around scope n (While e c) =
    (ends_pass x scope e && observes_ending P true)
    || passes x P names (around || reads_pass x typing.While scope e) scope n c
passes x P names around scope n (Letvar e c) =
    (reads_pass x typing.Letvar scope e && written_is x n (names n))
    || passes x P names around (scope ++ n ∷ []) (n + 1) c

-- The variable of each location, and the next declaration.
pub record Stand : Type 0 where
  pub scope : List ℕ
  pub next : ℕ

-- The position of a cursor.
abbrev pub stand_of : Cursor → Stand
stand_of c = record { scope = c.scope.items; next = c.next }

-- The locations and the names of the letvars are there, and the nesting isn't too deep.
pub record IsFor (first count : ℕ) (a : Stand) (c : Command) : Type 0 where
  pub places : HasPlaces (length a.scope) c
  pub after : first ≤ a.next
  pub limit : a.next + letvars c ≤ first + count
  pub small : first + count ≤ 1024
  pub room : length a.scope + nesting c ≤ 456

-- The answer for a command, and the position of the cursor after it.
pub record IsPast (x : Step) (P : Profile) (names : ℕ → Span) (around : Bool) (a : Stand) (c : Command) (b : Stand)
    (found : Bool) : Type 0 where
  pub answer : found ≡ passes x P names around a.scope a.next c
  pub scope : b.scope ≡ a.scope
  pub next : b.next ≡ a.next + letvars c
