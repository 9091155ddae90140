-- A lattice with names.
use Rattle.std.specs.Prelude.{ℕ, List, Option}
use Rattle.vsi_lattice.specs.Order.{Lattice as Order}
use Rattle.vsi_lattice.specs.Rows.{row_lattice}
use Rattle.vsi_lattice.specs.NamePlaces.{owned, place_in}
use Rattle.vsi_lattice.specs.declared.lattice.Lattice.{Lattice}

-- The names of the classes, in order.
abbrev pub names : Lattice → List (List ℕ)
names l = owned l.names.items

-- The order of the classes.
abbrev pub order : Lattice → Order
order l = row_lattice l.order.above.items l.order.bottom l.order.top

-- The class with a name.
abbrev pub class_named : Lattice → List ℕ → Option ℕ
class_named l name = place_in (names l) name
