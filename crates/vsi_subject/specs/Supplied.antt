-- An image where a source text may be given, and what is said of it beside an interface.
use Rattle.std.specs.Prelude.{◌≡◌, ℕ, ◌==◌, nat_lt, Bool, true, false, ◌&&◌, List, ◌∷◌}
use Rattle.vsi_lattice.specs.declared.lattice.Lattice.{Lattice}
use Rattle.vsi_image.specs.declared.instr.Image.{Image}
use Rattle.vsi_answers.specs.Judged.{AreImage}
use Rattle.vsi_conform.specs.declared.interface.Interface.{Interface}
use Rattle.vsi_conform.specs.ImageConforms.{Conforms, Tells, is_conforming}
use Rattle.vsi_conform.specs.ImageLines.{AreImageRows}
use Rattle.vsi_conform.specs.declared.images.Answer.{Answer}
use Rattle.vsi_conform.specs.Rows.{Row}

-- The bytes begin as those of an image: with its three first bytes and a version below 9, which no source text has.
abbrev pub begins_image : List ℕ → Bool
begins_image (v ∷ s ∷ i ∷ version ∷ rest) = v == 86 && s == 83 && i == 73 && nat_lt version 9
begins_image _ = false

-- These rows say where an image differs from an interface, if it does; there are none exactly if nothing differs.
pub record JudgesImage (l : Lattice) (image : Image) (i : Interface) (fits : Bool) (rows : List Row) : Type 0 where
  pub answer : Answer
  pub tells : Tells l image i answer
  pub verdict : is_conforming answer ≡ fits
  pub is : fits ≡ true → Conforms l image i
  pub are : AreImageRows l image i answer rows

-- The same of the image with these bytes.
abbrev pub JudgesSupplied : Lattice → List ℕ → Interface → Bool → List Row → Type 0
JudgesSupplied l bytes i fits rows = (image : Image) × AreImage bytes image × JudgesImage l image i fits rows
