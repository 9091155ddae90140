use Rattle.std.proofs.Common.{◌≡◌, ◌≤◌, drop}
use Rattle.vsi_steady.specs.Telling.{above_all}
use Rattle.vsi_steady.proofs.chain.is_carried.Given as goal

abbrev pub invariant-loop-instr : goal.invariant-loop-instr
invariant-loop-instr l =
    (l.above ≤ l.instr-index) × (above_all (drop l.instr-index l.between) l.above ≡ above_all l.between 0)
