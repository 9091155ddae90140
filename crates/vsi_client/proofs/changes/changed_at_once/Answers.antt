use Rattle.std.proofs.Common.{arith, ap, sym, ◌∙◌}
use Rattle.vsi_client.specs.Places.{line_start, offset_at}
use Rattle.vsi_client.proofs.Applying.{done_back}
use Rattle.vsi_client.proofs.changes.changed_at_once.Goals as goal

pub loop-left-preserved : goal.loop-left-preserved
loop-left-preserved c =
    let from = c.in-Some.from in
    let to = c.in-Some.to in
    let is_first = c.in-Some-line_after.ensures in
    let is_second = c.in-Some-line_after-2.ensures in
    let start = c.offset_in_line-start.ensures in
    let stop = c.offset_in_line-stop.ensures in
    let at_line = offset_at c.args.encoding c.args.text.now in
    let passed = c.loop-left.invariant in
    record {
      done =
          done_back c.args.encoding c.args.text.now c.args.changes.now c.loop-left.left c.loop-left.out.items
          c.extend_from_slice.new.self.items c.extend_from_slice-in-loop-left.new.self.items c.loop-left.at _ from to
          c.offset_in_line-start.result c.offset_in_line-stop.result passed.done c.loop-left-test.true
          passed.left_within c.in-Some.is (start.offset ∙ ap (λ n. at_line n from.character) is_first.number)
          (stop.offset ∙ ap (λ n. at_line n to.character) is_second.number) (omega (arith, c.if-start-at.false))
          (omega (arith, c.if-start-at.false)) stop.within c.in_ok-extend_from_slice.ensures.items
          c.in_ok-extend_from_slice-2.ensures.items;
      at_within = stop.within;
      left_within = omega (arith, passed.left_within);
      line_starts = is_second.start ∙ ap (λ n. line_start n c.args.text.now) (sym is_second.number);
      line_within = is_second.within;
    }
