-- Two runs of a steady image, instruction by instruction.
use Rattle.std.proofs.Common.{◌≡◌, ℕ, ◌+◌, ◌<◌, List, [], ◌∷◌, length, get_or, Some, None, Bool, true, false, refl, sym, ap, subst, ◌∙◌, arith, inl, inr, if◌then◌else◌}
use Rattle.std.specs.Prelude.{slice_set, slice_index, IfSome, ℤ, pos}
use Rattle.std.specs.List.{All}
use Rattle.std.specs.Option.{option_map}
use Rattle.std.specs.Ordering.{int_eq}
use Rattle.std.proofs.lemmas.Bool.{cases_eq, lt-ltb}
use Rattle.std.proofs.lemmas.Grind.{get_or-set_at}
use Rattle.std.proofs.lemmas.List.{get_or-set_other}
use Rattle.std.proofs.lemmas.List.Elements.{All-get_or}
use Rattle.std.proofs.lemmas.Option.{slice_get-get_or}
use Rattle.vsi_syntax.specs.Operators.{sum_of, difference_of, product_of, equal_of, less_of}
use Rattle.vsi_lattice.specs.Order.{Lattice, IsLattice, IsClass, Below}
use Rattle.vsi_image.specs.declared.instr.Instr.{Instr}
use Rattle.vsi_image.specs.declared.instr.Instr.TheVariants.{Push, Load, Store, Add, Sub, Mul, Eq, Lt, Jz, Jmp, Halt}
use Rattle.vsi_image.specs.Effects.{left, slot_of}
use Rattle.vsi_image.specs.Meaning.{going, acted, on_two, ended}
use Rattle.vsi_steady.specs.Steady.{Operates, Stores, Passes}

-- Both states have an operand for each of these classes, and equal ones where the class is at or below a.
abbrev pub SameOperands : Lattice → ℕ → List ℕ → List ℤ → List ℤ → Type 0
SameOperands L a [] [] [] = Unit {0}
SameOperands L a (c ∷ cs) (v ∷ vs) (w ∷ ws) =
    IsClass L c × (Below L c a → v ≡ w) × SameOperands L a cs vs ws
SameOperands L a _ _ _ = ⊥

-- The slots of both states are equal where their class is at or below a.
abbrev pub SameSlots : Lattice → ℕ → List ℕ → List ℤ → List ℤ → Type 0
SameSlots L a slots m m' = (k : ℕ) → k < length slots → Below L (slice_index slots k) a
    → get_or m k (pos 0) ≡ get_or m' k (pos 0)

module _ (L : Lattice) (laws : IsLattice L) (a : ℕ) (class : IsClass L a) (classes : List ℕ)
    (all : All (IsClass L) classes) where
  -- An instruction takes both states to one place, with operands of these classes and with slots that agree.
  pub record BothPass (i : Instr) (pc : ℕ) (left : List ℕ) (s s' m m' : List ℤ) : Type 0 where
    pub place : ℕ
    pub halted : Bool
    pub rest : List ℤ
    pub rest' : List ℤ
    pub slots : List ℤ
    pub slots' : List ℤ
    pub did : acted i pc s m ≡ Some (ended place halted rest slots)
    pub did' : acted i pc s' m' ≡ Some (ended place halted rest' slots')
    pub operands : SameOperands L a left rest rest'
    pub words : SameSlots L a classes slots slots'

  -- The class of a slot is a class of the lattice.
  slot_class : (k : ℕ) → k < length classes → IsClass L (slice_index classes k)
  slot_class k lt = All-get_or (IsClass L) classes k 0 lt all

  -- A pushed number is the same in both states.
  push_both : (n : ℤ) (pc : ℕ) (held : List ℕ) (s s' m m' : List ℤ) → SameOperands L a held s s'
      → SameSlots L a classes m m'
      → BothPass (Push n) pc (L.bottom ∷ held) s s' m m'
  push_both n pc held s s' m m' same equal =
      record {
        place = pc + 1;
        halted = false;
        rest = n ∷ s;
        rest' = n ∷ s';
        slots = m;
        slots' = m';
        did = refl;
        did' = refl;
        operands = (laws.bottom_within, (λ below. refl), same);
        words = equal;
      }

  -- A loaded word has the class of its slot.
  load_both : (k pc : ℕ) (held : List ℕ) (s s' m m' : List ℤ) → k < length classes → length m ≡ length classes
      → length m' ≡ length classes → SameOperands L a held s s' → SameSlots L a classes m m'
      → BothPass (Load k) pc (slice_index classes k ∷ held) s s' m m'
  load_both k pc held s s' m m' lt full full' same equal =
      let within : k < length m = omega arith in
      let within' : k < length m' = omega arith in
      record {
        place = pc + 1;
        halted = false;
        rest = get_or m k (pos 0) ∷ s;
        rest' = get_or m' k (pos 0) ∷ s';
        slots = m;
        slots' = m';
        did = ap (option_map (λ v. going (pc + 1) (v ∷ s) m)) (slice_get-get_or m k (pos 0) within);
        did' = ap (option_map (λ v. going (pc + 1) (v ∷ s') m')) (slice_get-get_or m' k (pos 0) within');
        operands = (slot_class k lt, equal k lt, same);
        words = equal;
      }

  -- Slots stay equal if a word is stored whose class is at or below that of its slot.
  same_set : (k c : ℕ) (v w : ℤ) (m m' : List ℤ) → k < length classes → length m ≡ length classes
      → length m' ≡ length classes
      → IsClass L c → Below L c (slice_index classes k) → (Below L c a → v ≡ w) → SameSlots L a classes m m'
      → SameSlots L a classes (slice_set m k v) (slice_set m' k w)
  same_set k c v w m m' lt full full' within low word equal j there below =
      elim (cases_eq j k) [
        | inl e ↦
            let up : Below L (slice_index classes k) a = subst (λ x. Below L (slice_index classes x) a) e below in
            let here = laws.transitive c (slice_index classes k) a within (slot_class k lt) class low up in
            get_or-set_at m k j v (pos 0) e (omega arith) ∙ word here
            ∙ sym (get_or-set_at m' k j w (pos 0) e (omega arith))
        | inr n ↦
            get_or-set_other m k j v (pos 0) n ∙ equal j there below
            ∙ sym (get_or-set_other m' k j w (pos 0) n)
      ]

  -- A STORE writes to its slot.
  store_is : (k pc : ℕ) (v : ℤ) (s m : List ℤ) → k < length m
      → acted (Store k) pc (v ∷ s) m ≡ Some (going (pc + 1) s (slice_set m k v))
  store_is k pc v s m lt =
      ap (λ b. if b then Some (going (pc + 1) s (slice_set m k v)) else None) (lt-ltb k (length m) lt)

  -- A stored word has a class at or below that of its slot.
  store_both : (k pc : ℕ) (held left : List ℕ) (s s' m m' : List ℤ) → k < length classes → length m ≡ length classes
      → length m' ≡ length classes → Stores L (slice_index classes k) held left → SameOperands L a held s s'
      → SameSlots L a classes m m' → BothPass (Store k) pc left s s' m m'
  store_both k pc [] left s s' m m' lt full full' p same equal = absurd p
  store_both k pc (c ∷ held) left [] s' m m' lt full full' p same equal = absurd same
  store_both k pc (c ∷ held) left (v ∷ s) [] m m' lt full full' p same equal = absurd same
  store_both k pc (c ∷ held) left (v ∷ s) (w ∷ s') m m' lt full full' p same equal =
      record {
        place = pc + 1;
        halted = false;
        rest = s;
        rest' = s';
        slots = slice_set m k v;
        slots' = slice_set m' k w;
        did = store_is k pc v s m (omega arith);
        did' = store_is k pc w s' m' (omega arith);
        operands = subst (λ l. SameOperands L a l s s') (sym p.1) same.2;
        words = same_set k c v w m m' lt full full' same.0 p.0 same.1 equal;
      }

  -- The result of an operator is the same in both states if both of its operands are.
  operate_both : (i : Instr) (f : ℤ → ℤ → ℤ) (pc : ℕ) (held left : List ℕ) (s s' m m' : List ℤ)
      → ((x : List ℤ) (y : List ℤ) → acted i pc x y ≡ on_two f pc x y) → Operates L held left
      → SameOperands L a held s s'
      → SameSlots L a classes m m' → BothPass i pc left s s' m m'
  operate_both i f pc [] left s s' m m' is p same equal = absurd p
  operate_both i f pc (b ∷ []) left s s' m m' is p same equal = absurd p
  operate_both i f pc (b ∷ d ∷ held) left [] s' m m' is p same equal = absurd same
  operate_both i f pc (b ∷ d ∷ held) left (v ∷ []) [] m m' is p same equal = absurd same
  operate_both i f pc (b ∷ d ∷ held) left (v ∷ []) (v' ∷ s') m m' is p same equal = absurd same.2
  operate_both i f pc (b ∷ d ∷ held) left (v ∷ w ∷ s) [] m m' is p same equal = absurd same
  operate_both i f pc (b ∷ d ∷ held) left (v ∷ w ∷ s) (v' ∷ []) m m' is p same equal = absurd same.2
  operate_both i f pc (b ∷ d ∷ held) left (v ∷ w ∷ s) (v' ∷ w' ∷ s') m m' is p same equal =
      let c = p.0 in
      let one : Below L c a → f w v ≡ f w' v' =
      λ below.
      let right : v ≡ v' = same.1 (laws.transitive b c a same.0 p.1 class p.3 below) in
      let first : w ≡ w' = same.2.1 (laws.transitive d c a same.2.0 p.1 class p.2 below) in
      ap (λ x. f x v) first ∙ ap (f w') right in
      record {
        place = pc + 1;
        halted = false;
        rest = f w v ∷ s;
        rest' = f w' v' ∷ s';
        slots = m;
        slots' = m';
        did = is (v ∷ w ∷ s) m;
        did' = is (v' ∷ w' ∷ s') m';
        operands = subst (λ l. SameOperands L a l (f w v ∷ s) (f w' v' ∷ s')) (sym p.4) (p.1, one, same.2.2);
        words = equal;
      }

  -- A JZ takes the same word in both states, because it has the bottom class.
  jz_both : (t pc : ℕ) (s s' m m' : List ℤ) → SameOperands L a (L.bottom ∷ []) s s' → SameSlots L a classes m m'
      → BothPass (Jz t) pc [] s s' m m'
  jz_both t pc [] s' m m' same equal = absurd same
  jz_both t pc (v ∷ s) [] m m' same equal = absurd same
  jz_both t pc (v ∷ s) (w ∷ s') m m' same equal =
      record {
        place = if int_eq v (pos 0) then t else pc + 1;
        halted = false;
        rest = s;
        rest' = s';
        slots = m;
        slots' = m';
        did = refl;
        did' = ap (λ x. Some (going (if int_eq x (pos 0) then t else pc + 1) s' m'))
            (sym (same.1 (laws.bottom_least a class)));
        operands = same.2;
        words = equal;
      }

  -- An instruction that keeps the operands and the slots goes to the same place in both states.
  keeps_both : (i : Instr) (pc place : ℕ) (halted : Bool) (s s' m m' : List ℤ)
      → ((o w : List ℤ) → acted i pc o w ≡ Some (ended place halted o w)) → SameOperands L a [] s s'
      → SameSlots L a classes m m' → BothPass i pc [] s s' m m'
  keeps_both i pc place halted s s' m m' does same equal =
      record {
        place = place;
        halted = halted;
        rest = s;
        rest' = s';
        slots = m;
        slots' = m';
        did = does s m;
        did' = does s' m';
        operands = same;
        words = equal;
      }

  -- Every instruction that passes with the classes of the slots takes both states alike.
  pub both_pass : (i : Instr) (pc : ℕ) (held left : List ℕ) (s s' m m' : List ℤ) → Passes L classes i held left
      → IfSome (slot_of i) (λ k. k < length classes) → length m ≡ length classes → length m' ≡ length classes
      → SameOperands L a held s s' → SameSlots L a classes m m' → BothPass i pc left s s' m m'
  both_pass (Push n) pc held left s s' m m' p lt full full' same equal =
      subst (λ l. BothPass (Push n) pc l s s' m m') (sym p) (push_both n pc held s s' m m' same equal)
  both_pass (Load k) pc held left s s' m m' p lt full full' same equal =
      subst (λ l. BothPass (Load k) pc l s s' m m') (sym p) (load_both k pc held s s' m m' lt full full' same equal)
  both_pass (Store k) pc held left s s' m m' p lt full full' same equal =
      store_both k pc held left s s' m m' lt full full' p same equal
  both_pass Add pc held left s s' m m' p lt full full' same equal =
      operate_both Add sum_of pc held left s s' m m' (λ x y. refl) p same equal
  both_pass Sub pc held left s s' m m' p lt full full' same equal =
      operate_both Sub difference_of pc held left s s' m m' (λ x y. refl) p same equal
  both_pass Mul pc held left s s' m m' p lt full full' same equal =
      operate_both Mul product_of pc held left s s' m m' (λ x y. refl) p same equal
  both_pass Eq pc held left s s' m m' p lt full full' same equal =
      operate_both Eq equal_of pc held left s s' m m' (λ x y. refl) p same equal
  both_pass Lt pc held left s s' m m' p lt full full' same equal =
      operate_both Lt less_of pc held left s s' m m' (λ x y. refl) p same equal
  both_pass (Jz t) pc held left s s' m m' p lt full full' same equal =
      subst (λ l. BothPass (Jz t) pc l s s' m m') (sym p.1)
      (jz_both t pc s s' m m' (subst (λ h. SameOperands L a h s s') p.0 same) equal)
  both_pass (Jmp t) pc held left s s' m m' p lt full full' same equal =
      subst (λ l. BothPass (Jmp t) pc l s s' m m') (sym p.1)
      (keeps_both (Jmp t) pc t false s s' m m' (λ o w. refl) (subst (λ h. SameOperands L a h s s') p.0 same) equal)
  both_pass Halt pc held left s s' m m' p lt full full' same equal =
      subst (λ l. BothPass Halt pc l s s' m m') (sym p.1)
      (keeps_both Halt pc pc true s s' m m' (λ o w. refl) (subst (λ h. SameOperands L a h s s') p.0 same) equal)
