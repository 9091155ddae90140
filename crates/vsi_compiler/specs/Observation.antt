-- Stores and runs as an observer at a class sees them.
use Rattle.std.specs.Prelude.{◌≡◌, ℕ, pos, length, slice_get, slice_index_or, Some}
use Rattle.vsi_image.specs.declared.instr.Image.{Image}
use Rattle.vsi_image.specs.Fields.{Global, globals}
use Rattle.vsi_lattice.specs.Known.{Known}
use Rattle.vsi_lattice.specs.Order.{Lattice, IsClass, Below}
use Rattle.vsi_scope.specs.Meaning.{Store}
use Rattle.vsi_code.specs.Behaves.{Halts}

-- Two stores have equal words in every global whose class is at or below a.
abbrev pub AgreeAt : Known → Lattice → Image → ℕ → Store → Store → Type 0
AgreeAt known L image a m m' =
    (i : ℕ) (g : Global) (c : ℕ) → slice_get (globals image.globals.items) i ≡ Some g → known g.1 ≡ Some c →
    Below L c a → slice_index_or m i (pos 0) ≡ slice_index_or m' i (pos 0)

-- A store of the image: one word per global.
abbrev pub IsStoreOf : Image → Store → Type 0
IsStoreOf image m = length m ≡ length image.globals.items

-- The run of the image with this budget halts with these words in the globals.
abbrev pub Ends : Image → Store → ℕ → Store → Type 0
Ends image m budget m' = Halts image (length image.globals.items) m budget m'

-- If two stores agree at and below a class and both runs halt, the final stores agree there too.
abbrev pub IsNoninterfering : Known → Lattice → Image → Type 0
IsNoninterfering known L image =
    (a : ℕ) → IsClass L a → (m₁ m₂ m₁' m₂' : Store) (b₁ b₂ : ℕ) → IsStoreOf image m₁ → IsStoreOf image m₂ →
    AgreeAt known L image a m₁ m₂ → Ends image m₁ b₁ m₁' → Ends image m₂ b₂ m₂' → AgreeAt known L image a m₁' m₂'

-- For two stores that agree on the bottom class, if one run halts within some budget, so does the other.
abbrev pub EndsAlike : Known → Lattice → Image → Type 0
EndsAlike known L image =
    (m₁ m₂ m₁' : Store) (b₁ : ℕ) → IsStoreOf image m₁ → IsStoreOf image m₂ → AgreeAt known L image L.bottom m₁ m₂ →
    Ends image m₁ b₁ m₁' → (b₂ : ℕ) × (m₂' : Store) × Ends image m₂ b₂ m₂'
