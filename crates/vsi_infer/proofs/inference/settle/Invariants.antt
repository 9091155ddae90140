use Rattle.std.proofs.Common.{◌+◌, ◌*◌, ℕ, vec_len, length}
use Rattle.vsi_infer.specs.Choices.{KeepsDeclared, IsJustified, Waits}
use Rattle.vsi_infer.specs.Ranks.{distance}
use Rattle.vsi_infer.proofs.inference.settle.Given as goal

abbrev pub invariant-loop-from : goal.invariant-loop-from
invariant-loop-from g l =
    let size = (g.C.Classes.lattice l.lattice).count in let leq = (g.C.Classes.lattice l.lattice).leq in let flows =
    g.F.Flow.flows l.flow in
    record {
      choice : KeepsDeclared size leq flows l.declared l.choice;
      justified : IsJustified size leq flows l.declared l.choice;
      waits : (old : ℕ) × Waits size leq flows l.declared l.choice l.waiting.items old (length l.declared);
    }

abbrev pub decreases-loop-from : goal.decreases-loop-from
decreases-loop-from g l = vec_len l.waiting + 2 * distance (g.C.Classes.lattice l.lattice).leq
    ((g.C.Classes.lattice l.lattice).count) l.choice
