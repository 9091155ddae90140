-- The relation of bad walks under the base profile to those under the strict profile.
use Rattle.std.specs.Prelude.{List}
use Rattle.vsi_lattice.specs.Order.{Lattice}
use Rattle.vsi_types.specs.declared.rules.Profile.TheVariants.{Base, Strict}
use Rattle.vsi_types.specs.declared.rules.Step.{Step}
use Rattle.vsi_types.specs.Security.{Program}
use Rattle.vsi_types.specs.Walks.{IsBad}

-- A walk that is bad under the base profile is bad under the strict one.
abbrev pub BaseWalksStayBad : Type 0
BaseWalksStayBad = (L : Lattice) (p : Program) (walk : List Step) → IsBad L Base p walk → IsBad L Strict p walk
