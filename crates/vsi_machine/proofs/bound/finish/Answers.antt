use Rattle.std.proofs.Common.{rules, ℤ, subst, w64, SFits}
use Rattle.std.proofs.lemmas.Int.{to_z-of_z}
use Rattle.vsi_machine.specs.Loops.{Remain}
use Rattle.vsi_machine.proofs.bound.finish.Goals as goal

pub returns-clause-finished : goal.returns-clause-finished
returns-clause-finished c =
    let fits : SFits w64 c.in-Ok.counter.last = search rules in
    record {
      slot = c.in-Ok.counter.slot;
      turns = c.in-Ok.counter.turns;
      last = c.in-Ok.counter.last;
      counter = c.in-Ok.ensures.counter;
      keeps = c.keeps.ensures.kept (search rules);
      remain = subst (λ (z : ℤ). Remain c.args.facts.now c.args.entry.now c.args.turned.now
          c.in-Ok.counter.slot z c.leave.new.facts)
          (to_z-of_z w64 c.in-Ok.counter.last fits) c.leave.ensures;
      least = c.in_ok-cost.ensures.least;
      most = c.in_ok-cost.ensures.most;
    }
