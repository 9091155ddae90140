-- Controllers.
use Rattle.std.specs.Prelude.{ℕ, Bool, ◌&&◌, ◌||◌, not, List}
use Rattle.vsi_image.specs.declared.instr.Image.{Image}
use Rattle.vsi_image.specs.Fields.{Global}
use Rattle.vsi_lattice.specs.Order.{Lattice}
use Rattle.vsi_lattice.specs.declared.lattice.Lattice as declared
use Rattle.vsi_lattice.specs.LatticeView.{class_named, order}
use Rattle.vsi_lattice.specs.Known.{Known}
use Rattle.vsi_store.specs.View.{is_seen}
use Rattle.vsi_drive.specs.declared.controller.Controller.{Controller}
use Rattle.vsi_drive.specs.Boundary.{Boundary, boundary_of, is_among, is_listed}

-- An image, the classes of its globals, the class that sets and sees them, the budget of a cycle, and the boundary.
pub record Control : Type 0 where
  pub known : Known
  pub order : Lattice
  pub class : ℕ
  pub image : Image
  pub budget : ℕ
  pub boundary : Boundary

-- The parts of a controller that its cycles depend on.
abbrev pub control : Controller → Control
control c =
    record {
      known = class_named c.lattice.now;
      order = order c.lattice.now;
      class = c.class;
      image = c.verified.now;
      budget = c.budget;
      boundary = boundary_of c.boundary;
    }

-- An image, the class that drives it by a lattice, the budget of a cycle, and a boundary.
abbrev pub controlled : declared.Lattice → ℕ → Image → ℕ → Boundary → Control
controlled l class im budget b =
    record {
      known = class_named l;
      order = order l;
      class = class;
      image = im;
      budget = budget;
      boundary = b;
    }

-- The class sees the globals whose class has this name.
abbrev pub sees : Control → List ℕ → Bool
sees c name = is_seen c.known c.order c.class name

-- A global is an input if it is named as one, or no inputs are named.
abbrev pub is_input : Control → List ℕ → Bool
is_input c name = is_listed c.boundary.inputs name

-- A cycle writes the outputs that the class sees, and those that are named as released.
abbrev pub is_written : Control → Global → Bool
is_written c g = is_listed c.boundary.outputs g.0 && (sees c g.1 || is_among c.boundary.released g.0)

-- A global is released if it is written though the class doesn't see it.
abbrev pub is_released : Control → Global → Bool
is_released c g = is_written c g && not (sees c g.1)
