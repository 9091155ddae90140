-- Lattices that have the shape for references to names.
use Rattle.std.proofs.Common.{◌≡◌, ℕ, List, Some, length, sym, subst}
use Rattle.std.proofs.lemmas.List.{length-map}
use Rattle.std.specs.Borrow.{Bor}
use Rattle.vsi_lattice.specs.LatticeView.{order}
use Rattle.vsi_lattice.specs.NamePlaces.{texts}
use Rattle.vsi_lattice.specs.declared.lattice.Lattice.{Lattice}
use Rattle.vsi_documents.specs.Shapes.{HasClasses, HasOrder, IsShaped, count_of}
use Rattle.vsi_documents.specs.declared.shape.Shape.{Shape}

-- There are as many references as names.
pub shaped_by : (shape : Shape) (given : List (Bor (List ℕ))) (l : Lattice) →
    count_of shape (length given) ≡ Some (order l).count → HasClasses shape (texts given) l →
    HasOrder shape (length given) (order l) → IsShaped shape (texts given) l
shaped_by shape given l count classes ordered =
    let same : length given ≡ length (texts given) = sym (length-map given (λ r. r.now)) in
    record {
      count = subst (λ n. count_of shape n ≡ Some (order l).count) same count;
      classes = classes;
      ordered = subst (λ n. HasOrder shape n (order l)) same ordered;
    }
