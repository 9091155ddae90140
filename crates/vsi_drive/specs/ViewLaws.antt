-- The law that stores that agree have the same view.
use Rattle.std.specs.Prelude.{◌≡◌, ℕ, ℤ, List}
use Rattle.std.specs.Global.{Vec}
use Rattle.vsi_lattice.specs.Order.{Lattice, IsClass}
use Rattle.vsi_types.specs.declared.rules.Profile.{Profile}
use Rattle.vsi_image.specs.declared.instr.Image.{Image}
use Rattle.vsi_store.specs.View.{Views}
use Rattle.vsi_store.specs.declared.views.View.TheVariants.{Text}
use Rattle.vsi_compiler.specs.Headline.{IsCompiled}
use Rattle.vsi_lattice.specs.Known.{Known}
use Rattle.vsi_compiler.specs.Observation.{AgreeAt, IsStoreOf}

-- A class has the same view of a compiled image from two stores that agree at and below it, whenever both runs halt.
abbrev pub SameView : Type 0
SameView =
    (known : Known) (L : Lattice) (P : Profile) (text : List ℕ) (image : Image) (a : ℕ) →
    IsCompiled known L P text image → IsClass L a →
    (m₁ m₂ : List ℤ) (b₁ b₂ : ℕ) (t₁ t₂ : Vec ℕ) → IsStoreOf image m₁ → IsStoreOf image m₂ →
    AgreeAt known L image a m₁ m₂ → Views known L a image m₁ b₁ (Text t₁) → Views known L a image m₂ b₂ (Text t₂) →
    t₁.items ≡ t₂.items
