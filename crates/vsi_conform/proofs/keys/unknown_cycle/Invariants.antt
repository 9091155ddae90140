use Rattle.std.proofs.Common.{◌≡◌, drop, map}
use Rattle.vsi_lattice.specs.LatticeView.{class_named}
use Rattle.vsi_conform.specs.Reading.{cycle, first_unbound}
use Rattle.vsi_conform.proofs.keys.unknown_cycle.Given as goal

-- The first unknown class of the rest is the first of all.
abbrev pub invariant-loop-i : goal.invariant-loop-i
invariant-loop-i l =
    first_unbound (class_named l.lattice) l.i (map cycle (drop l.i l.cycles))
    ≡ first_unbound (class_named l.lattice) 0 (map cycle l.cycles)
