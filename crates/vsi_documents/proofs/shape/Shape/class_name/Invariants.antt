use Rattle.std.proofs.Common.{◌≡◌, [], length}
use Rattle.vsi_lattice.specs.NamePlaces.{texts}
use Rattle.vsi_documents.specs.Shapes.{members}
use Rattle.vsi_documents.proofs.shape.Shape.class_name.Given as goal

abbrev pub invariant-loop-rest : goal.invariant-loop-rest
invariant-loop-rest l = members l.front.items (texts l.rest) l.digits ≡ members [] (texts l.given) l.class

abbrev pub decreases-loop-rest : goal.decreases-loop-rest
decreases-loop-rest l = length l.rest
