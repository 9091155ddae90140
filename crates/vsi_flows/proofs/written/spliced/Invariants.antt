use Rattle.std.proofs.Common.{◌≡◌, ◌++◌, drop}
use Rattle.vsi_flows.specs.Places.{with_raises}
use Rattle.vsi_flows.proofs.written.spliced.Given as goal

-- The text so far and what is left of it with what is left of the raises are the whole text.
abbrev pub invariant-loop-raise : goal.invariant-loop-raise
invariant-loop-raise l =
    l.out.items ++ with_raises l.lattice l.places l.text l.at (drop l.raise-index l.raises)
    ≡ with_raises l.lattice l.places l.text 0 l.raises
