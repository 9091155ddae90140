use Rattle.std.proofs.Common.{◌≡◌, take}
use Rattle.vsi_image.specs.Fields.{globals}
use Rattle.vsi_conform.specs.Points as spec
use Rattle.vsi_conform.proofs.conforming.put_trial.Given as goal

-- The words so far are those of the globals so far.
abbrev pub invariant-loop-variable : goal.invariant-loop-variable
invariant-loop-variable l =
    l.words.items ≡ spec.given_words (spec.entries l.trial.store.items) (globals (take l.variable-index l.variables))
