use Rattle.std.proofs.Common.{◌≡◌, ◌+◌, drop}
use Rattle.vsi_conform.specs.Reading.{bytes_of}
use Rattle.vsi_conform.specs.Reaching as spec
use Rattle.vsi_conform.proofs.reaching.number_of.Given as goal

-- The number of the name among the remaining globals, after those before them, is its number among all.
abbrev pub invariant-loop-i : goal.invariant-loop-i
invariant-loop-i l =
    l.i + spec.number_of (bytes_of (drop l.i l.names)) l.name ≡ spec.number_of (bytes_of l.names) l.name
