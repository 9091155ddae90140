-- Images whose jumps depend on nothing above the bottom class.
use Rattle.std.specs.Prelude.{◌≡◌, ℕ, List, [], ◌∷◌, length, slice_get, slice_index, Some}
use Rattle.std.specs.List.{All}
use Rattle.vsi_lattice.specs.Order.{Lattice, IsClass, Below}
use Rattle.vsi_image.specs.declared.instr.Instr.{Instr}
use Rattle.vsi_image.specs.declared.instr.Instr.TheVariants.{Push, Load, Store, Add, Sub, Mul, Eq, Lt, Jz, Jmp, Halt}
use Rattle.vsi_image.specs.declared.instr.Image.{Image}
use Rattle.vsi_image.specs.Fields.{Global, globals}
use Rattle.vsi_lattice.specs.Known.{Known}

-- An operator replaces its two operands by one of a class at or above the classes of both.
abbrev pub Operates : Lattice → List ℕ → List ℕ → Type 0
Operates L [] left = ⊥
Operates L (b ∷ []) left = ⊥
Operates L (b ∷ a ∷ rest) left = (c : ℕ) × IsClass L c × Below L a c × Below L b c × (left ≡ c ∷ rest)

-- A STORE takes an operand of a class at or below that of its slot.
abbrev pub Stores : Lattice → ℕ → List ℕ → List ℕ → Type 0
Stores L slot [] left = ⊥
Stores L slot (c ∷ rest) left = Below L c slot × (left ≡ rest)

-- An instruction takes operands of these classes, the top one first, to operands of those, given the classes of the
-- slots; at a jump the only operand is that of JZ, which has the bottom class.
abbrev pub Passes : Lattice → List ℕ → Instr → List ℕ → List ℕ → Type 0
Passes L slots (Push n) held left = left ≡ L.bottom ∷ held
Passes L slots (Load k) held left = left ≡ slice_index slots k ∷ held
Passes L slots (Store k) held left = Stores L (slice_index slots k) held left
Passes L slots Add held left = Operates L held left
Passes L slots Sub held left = Operates L held left
Passes L slots Mul held left = Operates L held left
Passes L slots Eq held left = Operates L held left
Passes L slots Lt held left = Operates L held left
Passes L slots (Jz t) held left = (held ≡ L.bottom ∷ []) × (left ≡ [])
Passes L slots (Jmp t) held left = (held ≡ []) × (left ≡ [])
Passes L slots Halt held left = (held ≡ []) × (left ≡ [])

-- Each instruction takes the operands that the previous one leaves; the first one takes these.
abbrev pub GoesThrough : Lattice → List ℕ → List Instr → List ℕ → Type 0
GoesThrough L slots [] held = Unit {0}
GoesThrough L slots (i ∷ is) held = (left : List ℕ) × Passes L slots i held left × GoesThrough L slots is left

-- These are classes of an image's slots, each fixed for the whole code; a global has the class of its class name.
pub record HaveClasses (known : Known) (L : Lattice) (image : Image) (slots : List ℕ) : Type 0 where
  pub count : length slots ≡ image.slots
  pub classes : All (IsClass L) slots
  pub globals : (i : ℕ) (g : Global) → slice_get (globals image.globals.items) i ≡ Some g
      → known g.1 ≡ Some (slice_index slots i)

-- The slots have classes with which the code passes.
pub record IsSteady (known : Known) (L : Lattice) (image : Image) : Type 0 where
  pub slots : List ℕ
  pub have : HaveClasses known L image slots
  pub code : GoesThrough L slots image.code.items []
