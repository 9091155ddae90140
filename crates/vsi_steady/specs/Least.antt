-- The least classes of slots and of operands.
use Rattle.std.specs.Prelude.{◌≡◌, ◌≤◌, ℕ, false, List, [], ◌∷◌, slice_index, slice_set}
use Rattle.vsi_lattice.specs.Order.{Lattice, IsClass, Below, IsJoin}
use Rattle.vsi_image.specs.declared.instr.Instr.{Instr}
use Rattle.vsi_image.specs.declared.instr.Instr.TheVariants.{Push, Load, Store, Add, Sub, Mul, Eq, Lt, Jz, Jmp, Halt}
use Rattle.vsi_image.specs.declared.instr.Image.{Image}
use Rattle.vsi_lattice.specs.Known.{Known}
use Rattle.vsi_steady.specs.Steady.{IsSteady}

-- Each of these classes is at or below the class at its place in the other list.
abbrev pub AllBelow : Lattice → List ℕ → List ℕ → Type 0
AllBelow L [] [] = Unit {0}
AllBelow L [] (b ∷ ys) = ⊥
AllBelow L (a ∷ xs) [] = ⊥
AllBelow L (a ∷ xs) (b ∷ ys) = IsClass L a × IsClass L b × Below L a b × AllBelow L xs ys

-- If the image is steady, these classes of its slots are at or below those with which it is steady.
abbrev pub AreLeast : Known → Lattice → Image → List ℕ → Type 0
AreLeast known L image classes = (s : IsSteady known L image) → AllBelow L classes s.slots

-- The class of the top operand is of this kind.
abbrev pub OnTop : (ℕ → Type 0) → List ℕ → Type 0
OnTop Kind [] = ⊥
OnTop Kind (c ∷ rest) = Kind c

-- The top operand is removed.
abbrev pub Drops : List ℕ → List ℕ → Type 0
Drops [] left = ⊥
Drops (c ∷ rest) left = left ≡ rest

-- An operator replaces its two operands by one of the least class at or above both.
abbrev pub Joins : Lattice → List ℕ → List ℕ → Type 0
Joins L [] left = ⊥
Joins L (b ∷ []) left = ⊥
Joins L (b ∷ a ∷ rest) left = (c : ℕ) × IsJoin L.count (Below L) a b c × (left ≡ c ∷ rest)

-- An instruction leaves operands of these classes, whatever classes it requires of those that it takes.
abbrev pub Leads : Lattice → List ℕ → Instr → List ℕ → List ℕ → Type 0
Leads L slots (Push n) held left = left ≡ L.bottom ∷ held
Leads L slots (Load k) held left = left ≡ slice_index slots k ∷ held
Leads L slots (Store k) held left = Drops held left
Leads L slots Add held left = Joins L held left
Leads L slots Sub held left = Joins L held left
Leads L slots Mul held left = Joins L held left
Leads L slots Eq held left = Joins L held left
Leads L slots Lt held left = Joins L held left
Leads L slots (Jz t) held left = Drops held left
Leads L slots (Jmp t) held left = left ≡ held
Leads L slots Halt held left = left ≡ held

-- A STORE finds an operand at or below the class of its slot, and a JZ finds one of the bottom class.
abbrev pub Finds : Lattice → List ℕ → Instr → List ℕ → Type 0
Finds L slots (Store k) held = OnTop (λ c. Below L c (slice_index slots k)) held
Finds L slots (Jz t) held = OnTop (λ c. c ≡ L.bottom) held
Finds L slots _ held = Unit {0}

-- A STORE to a slot from this number on finds an operand at or below the class of its slot.
abbrev pub FindsRaised : Lattice → ℕ → List ℕ → Instr → List ℕ → Type 0
FindsRaised L n slots (Store k) held = n ≤ k → OnTop (λ c. Below L c (slice_index slots k)) held
FindsRaised L n slots _ held = Unit {0}

-- The class of a slot rises to the least class at or above itself and a class that isn't at or below it.
pub record Rises (L : Lattice) (classes : List ℕ) (slot class : ℕ) (raised : List ℕ) : Type 0 where
  pub within : IsClass L class
  pub join : ℕ
  pub is_join : IsJoin L.count (Below L) (slice_index classes slot) class join
  pub higher : L.leq class (slice_index classes slot) ≡ false
  pub set : raised ≡ slice_set classes slot join

-- A STORE raises the class of its slot by the class of the operand that it takes.
abbrev pub RisesBy : Lattice → List ℕ → Instr → List ℕ → List ℕ → Type 0
RisesBy L classes (Store k) held raised = OnTop (λ c. Rises L classes k c raised) held
RisesBy L classes _ held raised = ⊥
