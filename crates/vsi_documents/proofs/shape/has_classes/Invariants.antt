use Rattle.std.proofs.Common.{◌≡◌, ℕ, ◌<◌, Some}
use Rattle.vsi_lattice.specs.LatticeView.{class_named}
use Rattle.vsi_lattice.specs.NamePlaces.{texts}
use Rattle.vsi_documents.specs.Shapes.{class_name}
use Rattle.vsi_documents.proofs.shape.has_classes.Given as goal

abbrev pub invariant-loop-class : goal.invariant-loop-class
invariant-loop-class l =
    (k : ℕ) → k < l.class → class_named l.lattice (class_name l.shape (texts l.given) k) ≡ Some k
