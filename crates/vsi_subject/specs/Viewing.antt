-- The view of a class within the boundary of a request.
use Rattle.std.specs.Prelude.{◌≡◌, ℕ, ℤ, List, Some, None}
use Rattle.std.specs.Global.{Vec}
use Rattle.vsi_lattice.specs.NamePlaces.{texts}
use Rattle.vsi_lattice.specs.declared.lattice.Lattice.{Lattice}
use Rattle.vsi_image.specs.declared.instr.Image.{Image}
use Rattle.vsi_drive.specs.Boundary.{Boundary}
use Rattle.vsi_drive.specs.BoundaryFaults.{boundary_fault}
use Rattle.vsi_drive.specs.Control.{controlled}
use Rattle.vsi_drive.specs.Views.{view_of}
use Rattle.vsi_arguments.specs.declared.request.Viewing.{Viewing}
use Rattle.vsi_subject.specs.Admitted.{IsAdmitted}
use Rattle.vsi_subject.specs.Feeding.{AreFed}
use Rattle.vsi_subject.specs.Files.{BeginsAt, IsBudgetOf}
use Rattle.vsi_subject.specs.Holding.{Holding}
use Rattle.vsi_subject.specs.Steering.{IsViewed}

-- The lines of the final store of a halting run that are written within a boundary without a fault: by a lattice file,
-- that of the lists, or by an interface to which the image conforms, that of the table of the class, whose inputs alone
-- are set. The budget is enough or `--unbounded` is given.
pub record ViewsWithin (holds : Holding) (asked : Viewing) (text : Vec ℕ) : Type 0 where
  pub lattice : Lattice
  pub viewer : ℕ
  pub image : Image
  pub boundary : Boundary
  pub viewed : IsViewed holds asked lattice viewer image boundary
  pub words : List ℤ
  pub begins : BeginsAt holds asked.execution asked.initial_store image words
  pub fed : AreFed asked.policy lattice viewer image boundary (texts asked.initial_store.settings.items)
  pub budget : ℕ
  pub within : IsBudgetOf asked.execution.budget image budget
  pub admitted : IsAdmitted asked.is_unbounded lattice image budget
  pub sound : boundary_fault (controlled lattice viewer image budget boundary) ≡ None
  pub view : view_of (controlled lattice viewer image budget boundary) budget words ≡ Some text.items
