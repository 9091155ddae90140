use Rattle.std.proofs.Common.{ap, ◌∙◌, length, subst, arith}
use Rattle.vsi_scope.specs.View.{sequence}
use Rattle.vsi_steps.specs.Extents.{IsFilled}
use Rattle.vsi_steps.specs.Ran.{Past, past}
use Rattle.vsi_steps.proofs.Tracing.{whole_ready, traced_all, traced_first}
use Rattle.vsi_steps.proofs.run.trace_of.Goals as goal

pub run_all-requires : goal.run_all-requires
run_all-requires c =
    let a : Past = record {
      words = c.in_ok-to_vec.field-0.items;
      steps = c.new.result.items;
      limit = c.args.limit;
      extents = c.put_all.new.extents.items;
    } in
    whole_ready c.args.program.now c.body-body.result.now c.body-body.ensures.value c.body-body.ensures.resolved a
    (ap length (c.in_ok-to_vec.ensures.items_if_clones_equal (λ x y h. h)) ∙ c.requires)
    (omega (arith, ap length c.new.ensures.items))
    (subst (λ t. IsFilled (sequence c.body-body.result.now) t c.put_all.new.extents.items) c.new-2.ensures.items
    c.in_ok-put_all.ensures)

pub returns : goal.returns
returns c =
    let a : Past = record {
      words = c.in_ok-to_vec.field-0.items;
      steps = c.new.result.items;
      limit = c.args.limit;
      extents = c.put_all.new.extents.items;
    } in
    let words = c.in_ok-to_vec.ensures.items_if_clones_equal (λ x y h. h) in record {
      all = traced_all c.body-body.result.now c.args.program.now.body c.body-body.ensures.value c.args.words.now a
          (past c.run_all.new.run) words c.new.ensures.items c.in_ok-halted.halted c.in_ok-halted.ensures;
      first = traced_first c.body-body.result.now c.args.program.now.body c.body-body.ensures.value c.args.words.now a
          (past c.run_all.new.run) words c.new.ensures.items c.in_ok-halted.halted c.in_ok-halted.ensures;
    }
