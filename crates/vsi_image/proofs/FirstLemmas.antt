-- The first fault that a check finds, from one instruction to the next.
use Rattle.std.proofs.Common.{◌≡◌, ℕ, zero, suc, ◌+◌, ◌<◌, ◌≤◌, List, [], ◌∷◌, length, get_or, drop, Option, Some, None, ap, ◌∙◌, sym, subst, refl, arith}
use Rattle.std.specs.Prelude.{slice_get}
use Rattle.std.proofs.lemmas.Option.{none-some, same_Some}
use Rattle.std.proofs.lemmas.List.{drop_more, drop_all}
use Rattle.vsi_image.specs.declared.instr.Instr.{Instr}
use Rattle.vsi_image.specs.declared.verifier.VerifyError.{VerifyError}
use Rattle.vsi_image.specs.Faults.{◌orelse◌, first_from}

-- A check of the instruction with a number.
abbrev pub Judge : Type 0
Judge = ℕ → Instr → Option VerifyError

-- If the first of two faults is none, both are none.
pub orelse-none : {X : Type 0} (a b : Option X) → (a orelse b) ≡ None → (a ≡ None) × (b ≡ None)
orelse-none (Some x) b h = absurd (none-some _ (sym h))
orelse-none None b h = (refl, h)

-- The rest of the code is an instruction followed by those after it.
at_rest :
    (judge : Judge) (code : List Instr) (pc : ℕ) (i d : Instr) → pc < length code → get_or code pc d ≡ i
    → first_from judge pc (drop pc code) ≡ (judge pc i orelse first_from judge (pc + 1) (drop (pc + 1) code))
at_rest judge code pc i d h e =
    ap (first_from judge pc) (drop_more code pc d h)
    ∙ ap (λ x. judge pc x orelse first_from judge (pc + 1) (drop (pc + 1) code)) e

-- If an instruction has no fault, the first fault is that of the instructions after it.
pub first_from-passes :
    (judge : Judge) (code : List Instr) (pc : ℕ) (i d : Instr) → pc < length code → get_or code pc d ≡ i
    → judge pc i ≡ None
    → first_from judge pc (drop pc code) ≡ first_from judge (pc + 1) (drop (pc + 1) code)
first_from-passes judge code pc i d h e f =
    at_rest judge code pc i d h e ∙ ap (λ o. o orelse first_from judge (pc + 1) (drop (pc + 1) code)) f

-- An instruction with a fault ends the search.
pub first_from-stops :
    (judge : Judge) (code : List Instr) (pc : ℕ) (i d : Instr) (x : VerifyError) → pc < length code
    → get_or code pc d ≡ i → judge pc i ≡ Some x
    → first_from judge pc (drop pc code) ≡ Some x
first_from-stops judge code pc i d x h e f =
    at_rest judge code pc i d h e ∙ ap (λ o. o orelse first_from judge (pc + 1) (drop (pc + 1) code)) f

-- No fault is found after the last instruction.
pub first_from-ends :
    (judge : Judge) (code : List Instr) (pc : ℕ) → length code ≤ pc → first_from judge pc (drop pc code) ≡ None
first_from-ends judge code pc h = ap (first_from judge pc) (drop_all pc code h)

-- If no fault is found from pc on, no instruction from there on has a fault.
each_from :
    (judge : Judge) (is : List Instr) (pc k : ℕ) (i : Instr) → first_from judge pc is ≡ None
    → slice_get is k ≡ Some i → judge (pc + k) i ≡ None
each_from judge [] pc k i f e = absurd (none-some _ e)
each_from judge (x ∷ is) pc zero i f e =
    let o = orelse-none (judge pc x) _ f in
    let here : pc + 0 ≡ pc = omega arith in
    rw here (subst (λ x. judge pc x ≡ None) (same_Some _ _ e) o.0)
each_from judge (x ∷ is) pc (suc k) i f e =
    let o = orelse-none (judge pc x) _ f in
    let further : pc + suc k ≡ (pc + 1) + k = omega arith in
    rw further (each_from judge is (pc + 1) k i o.1 e)

-- If no fault is found, no instruction has a fault.
pub first_from-none :
    (judge : Judge) (code : List Instr) (k : ℕ) (i : Instr) → first_from judge 0 code ≡ None
    → slice_get code k ≡ Some i → judge k i ≡ None
first_from-none judge code k i f e =
    let same : 0 + k ≡ k = omega arith in
    subst (λ n. judge n i ≡ None) same (each_from judge code 0 k i f e)

-- If no instruction from pc on has a fault, none is found from there on.
none_from :
    (judge : Judge) (is : List Instr) (pc : ℕ)
    → ((k : ℕ) (i : Instr) → slice_get is k ≡ Some i → judge (pc + k) i ≡ None)
    → first_from judge pc is ≡ None
none_from judge [] pc h = refl
none_from judge (x ∷ is) pc h =
    let here : pc + 0 ≡ pc = omega arith in
    let this : judge pc x ≡ None = subst (λ n. judge n x ≡ None) here (h 0 x refl) in
    ap (λ o. o orelse first_from judge (pc + 1) is) this
    ∙ none_from judge is (pc + 1) (λ k i e.
    let further : pc + suc k ≡ (pc + 1) + k = omega arith in
    subst (λ n. judge n i ≡ None) further (h (suc k) i e))

-- If no instruction has a fault, none is found.
pub first_from-clear :
    (judge : Judge) (code : List Instr)
    → ((k : ℕ) (i : Instr) → slice_get code k ≡ Some i → judge k i ≡ None)
    → first_from judge 0 code ≡ None
first_from-clear judge code h =
    none_from judge code 0 (λ k i e.
    let same : 0 + k ≡ k = omega arith in
    rw same (h k i e))
