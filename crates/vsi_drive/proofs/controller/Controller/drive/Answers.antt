use Rattle.std.proofs.Common.{◌+◌, ◌∙◌, rules, arith}
use Rattle.std.proofs.lemmas.Result.{err_from_is_err_and}
use Rattle.vsi_drive.specs.Control.{control}
use Rattle.vsi_drive.proofs.Behind.{behind_more, stands_behind, store_goes_on, text_goes_on}
use Rattle.vsi_drive.proofs.controller.Controller.drive.Goals as goal

pub returns-in_err-_ending-clause-whole : goal.returns-in_err-_ending-clause-whole
returns-in_err-_ending-clause-whole c =
    let p = err_from_is_err_and c.from_residual.result c.from_residual.ensures.1 in
    rw p.1 (stands_behind (control c.args.self.now) c.args.store.now c.cycle.new.store c.args.lines.now
    c.loop-line.line-index (omega (arith, c.loop-line-test.true))
    (c.in_err-_ending.ensures.kept ∙ c.loop-line.invariant.behind))

pub returns-in_err-extend_from_slice-clause-whole : goal.returns-in_err-extend_from_slice-clause-whole
returns-in_err-extend_from_slice-clause-whole c =
    let p = err_from_is_err_and c.from_residual-in_err-extend_from_slice.result
    c.from_residual-in_err-extend_from_slice.ensures.1 in
    rw p.1 (stands_behind (control c.args.self.now) c.args.store.now c.cycle.new.store c.args.lines.now
    (c.loop-line.line-index + 1) (omega (arith, c.loop-line-test.true))
    (behind_more (control c.args.self.now) c.args.store.now c.loop-line.store c.cycle.new.store c.args.lines.now
    c.loop-line.line-index _ (omega (arith, c.loop-line-test.true)) c.loop-line.invariant.behind
    c.in_ok-_ending.ensures.store))

pub loop-line-preserved : goal.loop-line-preserved
loop-line-preserved c =
    record {
      words = search rules;
      text = rw (c.in_ok-extend_from_slice.ensures.items, c.deref.ensures.value)
          (text_goes_on (control c.args.self.now) c.loop-line.store c.cycle.new.store c.loop-line.text.items _ _
          c.args.lines.now c.loop-line.line-index _ (omega (arith, c.loop-line-test.true)) c.in_ok-_ending.ensures.store
          c.in_ok-_ending.ensures.line c.loop-line.invariant.text);
      store = store_goes_on (control c.args.self.now) c.loop-line.store c.cycle.new.store _ c.args.lines.now
          c.loop-line.line-index _ (omega (arith, c.loop-line-test.true)) c.in_ok-_ending.ensures.store
          c.loop-line.invariant.store;
      behind = behind_more (control c.args.self.now) c.args.store.now c.loop-line.store c.cycle.new.store c.args.lines.now
          c.loop-line.line-index _ (omega (arith, c.loop-line-test.true)) c.loop-line.invariant.behind
          c.in_ok-_ending.ensures.store;
    }
