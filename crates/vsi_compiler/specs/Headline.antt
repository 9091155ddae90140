-- The promises about a compiled image, the text from which it was compiled, and a refusal.
use Rattle.std.specs.Prelude.{◌≡◌, ℕ, ◌+◌, ◌≤◌, List, length, map}
use Rattle.vsi_lattice.specs.Order.{Lattice}
use Rattle.vsi_syntax.specs.Tree.{Whole, Declared}
use Rattle.vsi_lattice.specs.Known.{Known}
use Rattle.vsi_scope.specs.Language.{Command, size}
use Rattle.vsi_scope.specs.Scopes.{in_sequence}
use Rattle.vsi_scope.specs.Resolving as resolving
use Rattle.vsi_types.specs.declared.rules.Profile.{Profile}
use Rattle.vsi_types.specs.declared.rules.Profile.TheVariants.{Strict}
use Rattle.vsi_image.specs.declared.instr.Image.{Image}
use Rattle.vsi_image.specs.Fields as image
use Rattle.vsi_image.specs.Valid.{IsValid}
use Rattle.vsi_opt.specs.Optimised.{optimised}
use Rattle.vsi_code.specs.Behaves.{Behaves}
use Rattle.vsi_code.specs.Generated.{image_of}
use Rattle.vsi_compiler.specs.Source.{Reads}
use Rattle.vsi_compiler.specs.Acceptance.{IsAccepted}
use Rattle.vsi_compiler.specs.Observation.{IsNoninterfering, EndsAlike}

-- The name and the class name of a declared global.
abbrev pub declared_global : Declared → image.Global
declared_global g = (g.name.text, g.class.text)

-- The image's globals are those that the text declares, in order, with their class names.
abbrev pub HasGlobals : List ℕ → Image → Type 0
HasGlobals text im = (tree : Whole) → Reads text tree → image.globals im.globals.items
    ≡ map declared_global tree.globals

-- The image behaves like the body of the text, from every store with one word per global.
abbrev pub KeepsMeaning : Known → List ℕ → Image → Type 0
KeepsMeaning known text im =
    (tree : Whole) (commands : List Command) → Reads text tree → resolving.IsResolution known tree commands →
    Behaves (length tree.globals) (in_sequence commands) im

-- The image is the image of the text's optimised body, over the globals that the text declares.
abbrev pub IsImageOf : Known → List ℕ → Image → Type 0
IsImageOf known text im =
    (tree : Whole) (commands : List Command) → Reads text tree → resolving.IsResolution known tree commands →
    image.fields im ≡ image_of (map declared_global tree.globals)
    (optimised (length tree.globals) (in_sequence commands))

-- The image has at most one instruction more than the size of the text's body.
abbrev pub IsNoLarger : Known → List ℕ → Image → Type 0
IsNoLarger known text im =
    (tree : Whole) (commands : List Command) → Reads text tree → resolving.IsResolution known tree commands →
    length im.code.items ≤ size (in_sequence commands) + 1

-- The image has bytes, and every image that they spell is this image and valid: it can be encoded, decoded to itself
-- and verified again.
pub record IsCoded (im : Image) : Type 0 where
  pub spelled : image.Spells (image.bytes_of 2 (image.fields im)) (image.fields im)
  pub again : (other : Image) → image.Spells (image.bytes_of 2 (image.fields im)) (image.fields other) →
      (image.fields other ≡ image.fields im) × IsValid other

-- An image that was compiled from a text under a profile.
pub record IsCompiled (known : Known) (L : Lattice) (P : Profile) (text : List ℕ) (im : Image) : Type 0 where
  pub accepted : IsAccepted known L P text
  pub globals : HasGlobals text im
  pub meaning : KeepsMeaning known text im
  pub noninterference : IsNoninterfering known L im
  pub endings : P ≡ Strict → EndsAlike known L im
  pub coded : IsCoded im
  pub image : IsImageOf known text im
  pub size : IsNoLarger known text im
