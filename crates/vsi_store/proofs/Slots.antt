-- A run keeps the number of slots.
use Rattle.std.proofs.Common.{◌≡◌, ℕ, zero, suc, ◌-◌, ◌≤◌, List, length, Option, Some, None, true, false, refl, sym, ap, ◌∙◌, arith, option_and_then}
use Rattle.std.specs.Prelude.{ℤ, pos, replicate, slice_get, if◌then◌else◌}
use Rattle.std.proofs.lemmas.List.{length-append, length-take}
use Rattle.std.proofs.lemmas.Option.{none-some, same_Some}
use Rattle.vsi_image.specs.declared.instr.Instr.{Instr}
use Rattle.vsi_image.specs.declared.instr.Image.{Image}
use Rattle.vsi_image.specs.Valid.{IsValid}
use Rattle.vsi_image.specs.Meaning.{State, stepped, after, start, acted}
use Rattle.vsi_machine.specs.Runs.{globals_of, run_of}
use Rattle.vsi_machine.proofs.Steps.{moved}

-- An instruction, if there is one, leaves the number of slots unchanged.
slots_acted : (o : Option Instr) (s t : State) →
    option_and_then (λ i. acted i s.pc s.operands s.slots) o ≡ Some t → length t.slots ≡ length s.slots
slots_acted None s t e = absurd (none-some _ e)
slots_acted (Some i) s t e = (moved i s.pc s.operands s.slots t e).count

-- A step keeps the number of slots.
slots_stepped : (code : List Instr) (s t : State) → stepped code s ≡ Some t → length t.slots ≡ length s.slots
slots_stepped code s t e =
    let act = option_and_then (λ i. acted i s.pc s.operands s.slots) (slice_get code s.pc) in
    elim s.halted as (λ v. (if v then Some s else act) ≡ Some t → length t.slots ≡ length s.slots) [
      | true ↦ λ h. ap (λ u. length u.slots) (sym (same_Some _ _ h))
      | false ↦ λ h. slots_acted (slice_get code s.pc) s t h
    ] e

-- A run keeps the number of slots if its first step and the rest do.
slots_on : (code : List Instr) (n : ℕ) (s t : State) (o : Option State) → stepped code s ≡ o →
    ((u : State) → after code n u ≡ Some t → length t.slots ≡ length u.slots) →
    option_and_then (after code n) o ≡ Some t → length t.slots ≡ length s.slots
slots_on code n s t None step rest e = absurd (none-some _ e)
slots_on code n s t (Some u) step rest e = rest u e ∙ slots_stepped code s u step

-- A run keeps the number of slots.
slots_after : (code : List Instr) (n : ℕ) (s t : State) → after code n s ≡ Some t → length t.slots ≡ length s.slots
slots_after code zero s t e = ap (λ u. length u.slots) (sym (same_Some _ _ e))
slots_after code (suc n) s t e = slots_on code n s t (stepped code s) refl (λ u. slots_after code n u t) e

-- At the end of a run of a valid image there is a word for each global.
pub words_last : (image : Image) (words : List ℤ) (n : ℕ) (t : State) → IsValid image →
    length words ≡ length image.globals.items → run_of image words n ≡ Some t →
    length (globals_of image t) ≡ length image.globals.items
words_last image words n t valid full e =
    let all = slots_after image.code.items n (start image words) t e in
    let room : length image.globals.items ≤ length t.slots =
    omega (arith, all, full, length-append words (replicate (image.slots - length words) (pos 0))) in
    omega (arith, room, length-take (length image.globals.items) t.slots)
