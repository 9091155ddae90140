-- The relation of a program that was read back to its image.
use Rattle.std.specs.Prelude.{◌≡◌, ℕ, List, slice_get, Some}
use Rattle.vsi_image.specs.declared.instr.Image.{Image}
use Rattle.vsi_image.specs.Fields as image
use Rattle.vsi_scope.specs.declared.resolved.Global.{Global}
use Rattle.vsi_scope.specs.Program.{Resolved}
use Rattle.vsi_scope.specs.View.{sequence}
use Rattle.vsi_code.specs.Generated.{image_of}
use Rattle.vsi_code.specs.Names.{all_named}
use Rattle.vsi_lattice.specs.Known.{Known}

-- Each global has the class that its class name denotes.
abbrev pub HaveClasses : Known → List Global → Type 0
HaveClasses known gs = (i : ℕ) (g : Global) → slice_get gs i ≡ Some g → known g.class_name.now ≡ Some g.class

-- Each class name of the image denotes a class.
abbrev pub HasKnownClasses : Known → Image → Type 0
HasKnownClasses known im =
    (i : ℕ) (g : image.Global) → slice_get (image.globals im.globals.items) i ≡ Some g →
    (c : ℕ) × (known g.1 ≡ Some c)

-- The image is that of the program, field for field: it has the program's globals with their class names, and the code
-- of its body.
abbrev pub StandsFor : Resolved → Image → Type 0
StandsFor r im = image.fields im ≡ image_of (all_named r.globals) (sequence r.body)
