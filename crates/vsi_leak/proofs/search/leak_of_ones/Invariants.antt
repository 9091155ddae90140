use Rattle.std.specs.Prelude.{◌≡◌}
use Rattle.vsi_lattice.specs.LatticeView.{class_named, order}
use Rattle.vsi_leak.specs.Leaks.{NoOneShows, zeros}
use Rattle.vsi_leak.proofs.search.leak_of_ones.Given as goal

-- No 1 in a single global before this one shows a leak.
abbrev pub invariant-loop-place : goal.invariant-loop-place
invariant-loop-place l =
    (l.first.items ≡ zeros l.verified)
    × NoOneShows (class_named l.lattice) (order l.lattice) l.verified l.budget l.sign l.class l.place
