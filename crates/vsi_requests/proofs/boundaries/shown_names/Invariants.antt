use Rattle.std.proofs.Common.{◌≡◌, take}
use Rattle.vsi_lattice.specs.NamePlaces.{texts}
use Rattle.vsi_conform.specs.Reading.{bytes_of}
use Rattle.vsi_requests.proofs.boundaries.shown_names.Given as goal

-- The names shown so far are the first ones.
abbrev pub invariant-loop-name : goal.invariant-loop-name
invariant-loop-name l = texts l.names.items ≡ bytes_of (take l.name-index l.owned)
