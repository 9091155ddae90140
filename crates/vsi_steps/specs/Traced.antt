-- The steps of a program.
use Rattle.std.specs.Prelude.{◌≡◌, ◌≤◌, ℕ, length, true, false}
use Rattle.vsi_scope.specs.Meaning.{Store}
use Rattle.vsi_scope.specs.Program.{Resolved}
use Rattle.vsi_scope.specs.View.{sequence}
use Rattle.vsi_steps.specs.declared.run.Trace.{Trace}
use Rattle.vsi_steps.specs.Steps.{Spells, Begins}

-- If the run halted, these are all steps of the body from the store, at most as many as the limit, and the words are
-- those at its end. If not, they are as many as the limit, and the body takes at least one more.
pub record IsTraced (r : Resolved) (m : Store) (limit : ℕ) (t : Trace) : Type 0 where
  pub all : t.halted ≡ true → Spells 0 (sequence r.body) m t.steps.items t.words.items × (length t.steps.items ≤ limit)
  pub first : t.halted ≡ false → Begins 0 (sequence r.body) m t.steps.items × (length t.steps.items ≡ limit)
