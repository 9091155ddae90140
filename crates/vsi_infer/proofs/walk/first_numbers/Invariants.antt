use Rattle.std.proofs.Common.{◌≡◌}
use Rattle.arrayvec.specs.ArrayVec.{array_vec_len}
use Rattle.vsi_types.specs.Security.{count_from}
use Rattle.vsi_infer.proofs.walk.first_numbers.Given as goal

abbrev pub invariant-loop-i : goal.invariant-loop-i
invariant-loop-i l = record {
  items : l.scope.items ≡ count_from 0 l.i;
  len : array_vec_len l.scope ≡ l.i;
}
