-- The classes of operands in an array.
use Rattle.std.proofs.Common.{◌≡◌, ℕ, ◌+◌, ◌<◌, ◌≤◌, List, ◌∷◌, ◌++◌, length, take, drop, get_or, Some, Bool, true, false, not, refl, sym, ap, subst, ◌∙◌, if◌then◌else◌}
use Rattle.std.specs.Prelude.{slice_get}
use Rattle.std.specs.List.{All}
use Rattle.std.proofs.lemmas.List.{drop_more}
use Rattle.std.proofs.Math.Seq.{take-append_seam}
use Rattle.std.proofs.lemmas.List.Sums.{fold_more}
use Rattle.std.proofs.lemmas.Option.{get_or_from_slice_get}
use Rattle.vsi_lattice.specs.Order.{Lattice, IsClass}
use Rattle.vsi_image.specs.declared.instr.Instr.{Instr}
use Rattle.vsi_image.specs.declared.instr.Instr.TheVariants.{Push, Load, Store, Add, Sub, Mul, Eq, Lt, Jz, Jmp, Halt}
use Rattle.vsi_image.specs.declared.instr.Image.{Image}
use Rattle.vsi_image.specs.Effects.{left, leaves_none, goes_off, depth_after, depth_at}
use Rattle.vsi_image.specs.Valid.{IsFine, IsValid}
use Rattle.vsi_machine.proofs.Steps.{read}
use Rattle.vsi_steady.specs.Steady.{GoesThrough, Passes}

-- A walk over the code is at this place with this many operands, and all of them have classes.
pub record Standing (L : Lattice) (image : Image) (pc depth : ℕ) (held : List ℕ) : Type 0 where
  pub at_depth : depth ≡ depth_at image.code.items pc
  pub room : depth ≤ image.stack
  pub classes : All (IsClass L) held

-- The instruction at a place is valid there.
pub fine_at : (L : Lattice) (image : Image) (pc depth : ℕ) (held : List ℕ) (i : Instr) → IsValid image
    → Standing L image pc depth held → slice_get image.code.items pc ≡ Some i → IsFine image i depth
fine_at L image pc depth held i valid s e = subst (λ n. IsFine image i n) (sym s.at_depth) (valid.each pc i e)

-- The instruction read from equal code is valid there.
pub fine_read : (L : Lattice) (image : Image) (list : List Instr) (pc depth : ℕ) (held : List ℕ) (d : Instr)
    → IsValid image → Standing L image pc depth held → list ≡ image.code.items → pc < length image.code.items
    → IsFine image (get_or list pc d) depth
fine_read L image list pc depth held d valid s same lt =
    fine_at L image pc depth held (get_or list pc d) valid s (read image.code.items list pc d same lt)

-- An instruction that never continues leaves no operand.
off_none : (i : Instr) → goes_off i ≡ true → leaves_none i ≡ true
off_none (Jmp t) h = refl
off_none Halt h = refl
off_none (Push n) h = h
off_none (Load k) h = h
off_none (Store k) h = h
off_none Add h = h
off_none Sub h = h
off_none Mul h = h
off_none Eq h = h
off_none Lt h = h
off_none (Jz t) h = refl

-- The walk is at the next place with the operands that the instruction leaves.
pub standing_on : (L : Lattice) (image : Image) (pc depth : ℕ) (held held' : List ℕ) (i : Instr) → IsValid image
    → Standing L image pc depth held → slice_get image.code.items pc ≡ Some i → pc < length image.code.items
    → All (IsClass L) held' → Standing L image (pc + 1) (left i depth) held'
standing_on L image pc depth held held' i valid s e lt all =
    let code = image.code.items in
    let fine = fine_at L image pc depth held i valid s e in
    let more : depth_at code (pc + 1) ≡ depth_after (depth_at code pc) (get_or code pc i) =
    fold_more depth_after 0 code pc i lt in
    let here : get_or code pc i ≡ i = get_or_from_slice_get code pc i i e in
    let on : depth_at code (pc + 1) ≡ depth_after depth i =
    more ∙ ap (depth_after (depth_at code pc)) here ∙ ap (λ n. depth_after n i) (sym s.at_depth) in
    let kept : left i depth ≡ depth_after depth i =
    elim (goes_off i) as (λ b. goes_off i ≡ b → left i depth ≡ (if b then 0 else left i depth)) [
      | true ↦ λ h. fine.empty (off_none i h)
      | false ↦ λ h. refl
    ] refl in
    record { at_depth = kept ∙ sym on; room = fine.room; classes = all }

-- If the code passes after an instruction, it passes from the instruction on.
pub gone_on : (L : Lattice) (classes : List ℕ) (code : List Instr) (pc : ℕ) (i : Instr) (held rest : List ℕ)
    → slice_get code pc ≡ Some i → pc < length code → Passes L classes i held rest
    → GoesThrough L classes (drop (pc + 1) code) rest → GoesThrough L classes (drop pc code) held
gone_on L classes code pc i held rest e lt p on =
    let here : get_or code pc i ≡ i = get_or_from_slice_get code pc i i e in
    let cut : drop pc code ≡ i ∷ drop (pc + 1) code =
    drop_more code pc i lt ∙ ap (λ x. x ∷ drop (pc + 1) code) here in
    subst (λ l. GoesThrough L classes l held) (sym cut) (rest, p, on)

-- A requirement that didn't fail is met.
pub met : (b : Bool) → not b ≡ false → b ≡ true
met true h = refl
met false h = sym h

-- A list written over the whole of another replaces it.
pub written : (n : ℕ) (xs ys : List ℕ) → n ≡ length xs → take n (xs ++ ys) ≡ xs
written n xs ys e = ap (λ k. take k (xs ++ ys)) e ∙ take-append_seam xs ys
