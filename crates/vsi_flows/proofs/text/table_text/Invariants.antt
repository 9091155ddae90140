use Rattle.std.proofs.Common.{◌≡◌, ◌++◌, take}
use Rattle.std.specs.List.{flat_map}
use Rattle.vsi_flows.specs.Text.{pair_line}
use Rattle.vsi_flows.proofs.text.table_text.Given as goal

abbrev pub invariant-loop-pair : goal.invariant-loop-pair
invariant-loop-pair l = l.text.items ≡ flat_map (pair_line l.lattice l.program) (take l.pair-index l.pairs)
