-- The laws of audits.
use Rattle.std.specs.Prelude.{◌≡◌, ℕ, List}
use Rattle.vsi_lattice.specs.Known.{Known}
use Rattle.vsi_lattice.specs.Order.{Lattice}
use Rattle.vsi_types.specs.declared.rules.Profile.{Profile}
use Rattle.vsi_image.specs.declared.instr.Image.{Image}
use Rattle.vsi_image.specs.Fields.{fields}
use Rattle.vsi_compiler.specs.Headline.{IsCompiled}
use Rattle.vsi_audit.specs.Structure.{HasCommands}

-- An image with the fields of a compiled one has the code of commands within the limits of texts, so no audit refuses it
-- as code without commands.
abbrev pub CompiledHasCommands : Type 0
CompiledHasCommands =
    (known : Known) (L : Lattice) (P : Profile) (text : List ℕ) (im image : Image) → IsCompiled known L P text im →
    fields image ≡ fields im → HasCommands image
