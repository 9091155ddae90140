-- The laws that relate the profiles, and that a text has one image.
use Rattle.std.specs.Prelude.{◌≡◌, ℕ, List}
use Rattle.vsi_lattice.specs.Order.{Lattice}
use Rattle.vsi_image.specs.declared.instr.Image.{Image}
use Rattle.vsi_image.specs.Fields.{fields}
use Rattle.vsi_types.specs.declared.rules.Profile.{Profile}
use Rattle.vsi_types.specs.declared.rules.Profile.TheVariants.{Base, Strict}
use Rattle.vsi_lattice.specs.Known.{Known}
use Rattle.vsi_compiler.specs.Acceptance.{IsAccepted}
use Rattle.vsi_compiler.specs.Headline.{IsCompiled}

-- The base profile accepts every text that the strict profile accepts.
abbrev pub StrictImpliesBase : Type 0
StrictImpliesBase =
    (known : Known) (L : Lattice) (text : List ℕ) → IsAccepted known L Strict text → IsAccepted known L Base text

-- Two images compiled from one text, under any profiles, are equal.
abbrev pub OneImage : Type 0
OneImage =
    (known : Known) (L : Lattice) (P Q : Profile) (text : List ℕ) (a b : Image) →
    IsCompiled known L P text a → IsCompiled known L Q text b → fields a ≡ fields b
