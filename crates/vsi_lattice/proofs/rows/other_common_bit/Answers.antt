use Rattle.std.proofs.Common.{arith, ◌^◌}
use Rattle.std.proofs.Common.{◌*◌, ◌%◌, w64, bit_and}
use Rattle.std.specs.Int.{bit_not}
use Rattle.std.proofs.lemmas.Nat.{and_le_l}
use Rattle.vsi_lattice.proofs.JoinLemmas.{no_other, lowest_other}
use Rattle.vsi_lattice.proofs.rows.other_common_bit.Goals as goal

pub returns-then-both-eq0-clause-none : goal.returns-then-both-eq0-clause-none
returns-then-both-eq0-clause-none c = no_other c.args.x c.args.y c.args.own c.requires c.if-both-eq0.true

pub returns-else-both-eq0-clause-some : goal.returns-else-both-eq0-clause-some
returns-else-both-eq0-clause-some c = lowest_other c.args.x c.args.y c.args.own c.requires (omega arith)
    (omega (
      arith,
      and_le_l (bit_and c.args.x c.args.y) (bit_not w64 (1 * 2 ^ c.args.own % 2 ^ 64)),
      and_le_l c.args.x c.args.y,
    ))
