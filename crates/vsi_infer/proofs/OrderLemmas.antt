-- A lattice satisfies the order laws that the search needs.
use Rattle.vsi_lattice.specs.Order.{Lattice, IsLattice}
use Rattle.vsi_infer.specs.Orders.{OrderLaws}

-- A lattice satisfies the laws of its order.
pub order_laws : (L : Lattice) → IsLattice L → OrderLaws L.count L.leq L.bottom L.top
order_laws L l = record {
  reflexive = l.reflexive;
  transitive = l.transitive;
  antisymmetric = l.antisymmetric;
  bottom_within = l.bottom_within;
  bottom_least = l.bottom_least;
  top_within = l.top_within;
  top_greatest = l.top_greatest;
}
