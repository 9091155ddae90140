use Rattle.std.proofs.Common.{rules, sym, ◌∙◌}
use Rattle.std.proofs.lemmas.Option.{slice_get-get_or}
use Rattle.vsi_machine.proofs.Operands.{computes_start, computes_end, computes_more}
use Rattle.vsi_machine.proofs.Transferring.{held_none, held_end, held_more}
use Rattle.vsi_machine.proofs.stretches.evaluate.Goals as goal

pub loop-place-init : goal.loop-place-init
loop-place-init c = record {
  computes = computes_start _ _ _ _ (search rules);
  held = held_none _ _ _ _ (search rules);
}

pub returns-then-is_end-clause-value : goal.returns-then-is_end-clause-value
returns-then-is_end-clause-value c =
    computes_end _ _ _ _ _ c.in_ok-value.value c.loop-place.invariant.computes
    (sym c.deref.ensures.value ∙ c.in_ok-value.ensures)

pub returns-then-is_end-clause-exact : goal.returns-then-is_end-clause-exact
returns-then-is_end-clause-exact c =
    held_end _ _ _ _ _ c.in_ok-value.value c.loop-place.invariant.held
    (sym c.deref.ensures.value ∙ c.in_ok-value.ensures)

pub loop-place-preserved : goal.loop-place-preserved
loop-place-preserved c =
    let at = slice_get-get_or _ _ _ c.loop-place-test.true in record {
      computes = computes_more _ _ _ _ _ _ _ c.loop-place.invariant.computes c.in_ok-put.ensures.acts at;
      held = held_more _ _ _ _ _ _ _ c.loop-place.invariant.held c.in_ok-put.ensures.puts at;
    }
