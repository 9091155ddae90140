use Rattle.std.proofs.Common.{◌∙◌, ◌+◌, sym, arith}
use Rattle.vsi_machine.proofs.Counts.{goes_from, halts, halted_of, going_of, halts_longer}
use Rattle.vsi_machine.proofs.counting.slices.Goals as goal

pub returns-in-Halted-clause-halts : goal.returns-in-Halted-clause-halts
returns-in-Halted-clause-halts c =
    let image = c.args.machine.now.image in
    let i = c.loop-done.invariant in
    let v = c.run.new.self.state in
    let n = c.loop-done.done in
    let k = c.min-slice.result in
    halts_longer image.code.items (n + k) c.args.budget c.args.machine.now.state
    (halts _ v (goes_from image _ n k _ _ v i.image i.state c.run.ensures.state)
    (halted_of v (sym c.in-Halted.ensures.outcome))) (omega (arith, c.min-slice.ensures, i.within))

pub loop-done-preserved : goal.loop-done-preserved
loop-done-preserved c =
    let i = c.loop-done.invariant in
    record {
      within = omega (arith, c.min-slice.ensures, i.within);
      image = c.run.ensures.image ∙ i.image;
      state = goes_from c.args.machine.now.image _ _ _ _ _ _ i.image i.state c.run.ensures.state;
      going = going_of c.run.new.self.state (sym c.in-OutOfBudget.ensures.outcome);
      same = c.take_state.ensures.image ∙ i.same;
    }
