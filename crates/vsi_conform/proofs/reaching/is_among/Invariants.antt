use Rattle.std.proofs.Common.{◌≡◌, drop}
use Rattle.vsi_conform.specs.Reading.{bytes_of, is_among}
use Rattle.vsi_conform.proofs.reaching.is_among.Given as goal

-- The name is among the remaining ones exactly if it is among all.
abbrev pub invariant-loop-known : goal.invariant-loop-known
invariant-loop-known l =
    is_among (bytes_of (drop l.known-index l.listed)) l.name ≡ is_among (bytes_of l.listed) l.name
