use Rattle.std.proofs.Common.{◌+◌, ◌*◌, ◌≤◌, vec_len}
use Rattle.vsi_infer.specs.Choices.{KeepsDeclared, IsJustified, Waits}
use Rattle.vsi_infer.specs.Ranks.{distance}
use Rattle.vsi_infer.proofs.inference.spread.Given as goal

abbrev pub invariant-loop-to : goal.invariant-loop-to
invariant-loop-to g l =
    let size = (g.C.Classes.lattice l.lattice).count in let leq = (g.C.Classes.lattice l.lattice).leq in let flows =
    g.F.Flow.flows l.flow in
    record {
      choice : KeepsDeclared size leq flows l.declared l.choice;
      justified : IsJustified size leq flows l.declared l.choice;
      waits : Waits size leq flows l.declared l.choice l.waiting.items l.from l.to;
      smaller : vec_len l.waiting + 2 * distance leq size l.choice ≤ vec_len l.fn.waiting + 2 * distance leq size
          l.fn.choice;
    }
