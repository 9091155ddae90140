-- The output of a build.
use Rattle.std.specs.Prelude.{◌≡◌, ℕ, List, take, Option}
use Rattle.std.specs.Io.KnownBytes.{Appends}
use Rattle.vsi_lattice.specs.Order.{Lattice}
use Rattle.vsi_lattice.specs.Known.{Known}
use Rattle.vsi_types.specs.declared.rules.Profile.{Profile}
use Rattle.vsi_image.specs.declared.instr.Image.{Image}
use Rattle.vsi_image.specs.Fields.{bytes_of, fields}
use Rattle.vsi_compiler.specs.Headline.{IsCompiled}
use Rattle.vsi_drive.specs.Engine.{IsReadFrom}

-- These are the bytes, in version 2, of an image for which the compiler's promises about the text hold.
pub record IsBuilt (known : Known) (L : Lattice) (P : Profile) (text bytes : List ℕ) : Type 0 where
  pub image : Image
  pub compiled : IsCompiled known L P text image
  pub spelled : bytes ≡ bytes_of 2 (fields image)

-- The bytes of an image compiled from the text that a reader supplies.
abbrev pub Builds : Known → Lattice → Profile → Option (List ℕ) → List ℕ → Type 0
Builds known L P remaining bytes = (text : List ℕ) × IsReadFrom remaining text × IsBuilt known L P text bytes

-- A prefix of some such bytes has been written.
abbrev pub WrittenCut : (List ℕ → Type 0) → Option (List ℕ) → Option (List ℕ) → Type 0
WrittenCut kind old new = (bytes : List ℕ) × kind bytes × ((n : ℕ) × Appends old new (take n bytes))
