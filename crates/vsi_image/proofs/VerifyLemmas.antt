-- The meaning of the verifier's checks.
use Rattle.std.proofs.Common.{◌≡◌, ◌≢◌, ℕ, ◌+◌, ◌-◌, ◌<◌, ◌≤◌, List, length, get_or, Option, Some, None, Bool, true, false, ap, ◌∙◌, sym, subst, refl, arith, inl, inr, nat_lt, nat_le, nat_eq, if◌then◌else◌, ◌&&◌, ◌==◌}
use Rattle.std.specs.Prelude.{slice_get, IfSome, IsTrue, IsSomeAnd}
use Rattle.std.specs.Option.{option_map_or, option_map}
use Rattle.std.proofs.lemmas.Option.{none-some}
use Rattle.std.proofs.lemmas.List.Sums.{fold_more}
use Rattle.std.proofs.lemmas.Bool.{cases_eq}
use Rattle.std.proofs.lemmas.Bool.Decides.{nat_tests}
use Rattle.vsi_image.specs.declared.instr.Instr.{Instr}
use Rattle.vsi_image.specs.declared.instr.Image.{Image}
use Rattle.vsi_image.specs.declared.encoder.Limit.{Limit}
use Rattle.vsi_image.specs.declared.verifier.VerifyError.{VerifyError}
use Rattle.vsi_image.specs.declared.verifier.VerifyError.TheVariants.{Unencodable, NotEmpty, RunsOff}
use Rattle.vsi_image.specs.Effects.{takes, left, slot_of, target_of, leaves_none, goes_off, depth_after, depth_at}
use Rattle.vsi_image.specs.Limits.{first_limit}
use Rattle.vsi_image.specs.Fields.{fields}
use Rattle.vsi_image.specs.Faults.{◌orelse◌, fault_at, own_fault, first_from, target_fault, end_fault, first_fault}
use Rattle.vsi_image.specs.Marks.{AreMarked, MarkDepths}
use Rattle.vsi_image.specs.Valid.{IsFine, IsValid}
use Rattle.vsi_image.proofs.Limited.{limits, no_limits}
use Rattle.vsi_image.proofs.FirstLemmas.{orelse-none, first_from-none, first_from-clear}

-- The depth after an instruction follows from the depth at it.
pub depth_at-more :
    (code : List Instr) (pc : ℕ) (i d : Instr) → pc < length code → get_or code pc d ≡ i
    → depth_at code (pc + 1) ≡ depth_after (depth_at code pc) i
depth_at-more code pc i d h e = fold_more depth_after 0 code pc d h ∙ ap (depth_after (depth_at code pc)) e

-- The properties of an instruction without a fault.
pub record NoFault (image : Image) (depth : ℕ) (i : Instr) : Type 0 where
  pub slot : option_map_or (nat_le image.slots) (slot_of i) false ≡ false
  pub target : option_map_or (nat_le (length image.code.items)) (target_of i) false ≡ false
  pub operands : takes i ≤ depth
  pub room : left i depth ≤ image.stack
  pub empty : leaves_none i ≡ true → left i depth ≡ 0

-- The five checks of an instruction in turn.
abbrev tested : (a b c d e f : Bool) (w x y z u : VerifyError) → Option VerifyError
tested a b c d e f w x y z u =
    if a then Some w else if b then Some x else if c then Some y else if d then Some z
    else if e && f then Some u else None

-- If the checks in turn find nothing, each was passed.
tested-none :
    (a b c d e f : Bool) (w x y z u : VerifyError) → tested a b c d e f w x y z u ≡ None
    → (a ≡ false) × (b ≡ false) × (c ≡ false) × (d ≡ false) × (e ≡ true → f ≡ false)
tested-none true b c d e f w x y z u h = absurd (none-some _ (sym h))
tested-none false true c d e f w x y z u h = absurd (none-some _ (sym h))
tested-none false false true d e f w x y z u h = absurd (none-some _ (sym h))
tested-none false false false true e f w x y z u h = absurd (none-some _ (sym h))
tested-none false false false false true true w x y z u h = absurd (none-some _ (sym h))
tested-none false false false false true false w x y z u h = (refl, refl, refl, refl, λ _. refl)
tested-none false false false false false f w x y z u h = (refl, refl, refl, refl, λ e. absurd (cc))

-- If every check is passed, the checks in turn find nothing.
tested-clear :
    (a b c d e f : Bool) (w x y z u : VerifyError) → a ≡ false → b ≡ false → c ≡ false → d ≡ false
    → (e ≡ true → f ≡ false)
    → tested a b c d e f w x y z u ≡ None
tested-clear false false false false false f w x y z u ha hb hc hd he = refl
tested-clear false false false false true false w x y z u ha hb hc hd he = refl
tested-clear false false false false true true w x y z u ha hb hc hd he = absurd (let h = he refl in cc)
tested-clear true b c d e f w x y z u ha hb hc hd he = absurd (cc)
tested-clear false true c d e f w x y z u ha hb hc hd he = absurd (cc)
tested-clear false false true d e f w x y z u ha hb hc hd he = absurd (cc)
tested-clear false false false true e f w x y z u ha hb hc hd he = absurd (cc)

-- If an instruction has no fault, every check was passed.
pub fault_at-none :
    (image : Image) (pc depth : ℕ) (i : Instr) → fault_at image pc depth i ≡ None → NoFault image depth i
fault_at-none image pc depth i h =
    let past_slots = option_map_or (nat_le image.slots) (slot_of i) false in
    let past_code = option_map_or (nat_le (length image.code.items)) (target_of i) false in
    let p =
    tested-none past_slots past_code (nat_lt depth (takes i)) (nat_lt image.stack (left i depth))
    (leaves_none i) (nat_lt 0 (left i depth)) _ _ _ _ _ h in
    record {
      slot = p.0;
      target = p.1;
      operands = grind (arith, nat_tests, p.2);
      room = grind (arith, nat_tests, p.3);
      empty = λ e. let q = p.4 e in grind (arith, nat_tests, q);
    }

-- The marks of the instructions that were passed, with one more.
pub marks-more :
    (code : List Instr) (pc : ℕ) (old new : ℕ → Bool)
    → ((k : ℕ) → k < pc → old k ≡ (depth_at code k == 0)) → ((k : ℕ) → k ≢ pc → new k ≡ old k)
    → new pc ≡ (depth_at code pc == 0)
    → (k : ℕ) → k < pc + 1 → new k ≡ (depth_at code k == 0)
marks-more code pc old new p o h k l =
    elim (cases_eq k pc) [
      | inl e ↦ subst (λ n. new n ≡ (depth_at code n == 0)) (sym e) h
      | inr d ↦ o k d ∙ p k (let x : k < pc = omega (arith, d) in x)
    ]

-- A target's mark says whether the depth there is 0.
by_mark :
    (code : List Instr) (marks : ℕ → Bool) (o : Option ℕ)
    → ((t : ℕ) → o ≡ Some t → marks t ≡ (depth_at code t == 0))
    → option_map_or marks o true ≡ option_map_or (λ t. nat_eq (depth_at code t) 0) o true
by_mark code marks None m = refl
by_mark code marks (Some t) m = m t refl

-- The mark of a jump's target decides whether the jump has a fault.
pub target_fault-by_mark :
    (code : List Instr) (pc : ℕ) (i : Instr) (marks : ℕ → Bool) (b : Bool)
    → ((t : ℕ) → target_of i ≡ Some t → marks t ≡ (depth_at code t == 0))
    → option_map_or marks (target_of i) true ≡ b
    → target_fault code pc i ≡ (if b then None else Some (NotEmpty pc))
target_fault-by_mark code pc i marks b m y =
    ap (λ b. if b then None else Some (NotEmpty pc)) (sym (by_mark code marks (target_of i) m) ∙ y)

-- The depth after an instruction without a fault is within the limit.
pub depth_after-small :
    (image : Image) (depth : ℕ) (i : Instr) → image.stack ≤ 256 → NoFault image depth i
    → depth_after depth i ≤ 256
depth_after-small image depth i s f = by_goes_off (goes_off i)
  where
    by_goes_off : (b : Bool) → (if b then 0 else left i depth) ≤ 256
    by_goes_off true = omega arith
    by_goes_off false = omega (arith, f.room)

-- If no limit is reported, no limit is exceeded.
no_map : (o : Option Limit) → option_map Unencodable o ≡ None → o ≡ None
no_map None h = refl
no_map (Some x) h = absurd (none-some _ (sym h))

-- A check that is passed reports no fault.
by_pass : (b : Bool) (x : VerifyError) → (if b then None else Some x) ≡ None → b ≡ true
by_pass true x h = refl
by_pass false x h = absurd (none-some _ (sym h))

-- A slot that passes the check exists.
slot_fine : (slots : ℕ) (o : Option ℕ) → option_map_or (nat_le slots) o false ≡ false → IfSome o (λ s. s < slots)
slot_fine slots None h = tt
slot_fine slots (Some s) h = grind (arith, nat_tests, h)

-- A target that passes both checks exists, and is reached without operands.
target_fine :
    (code : List Instr) (o : Option ℕ) → option_map_or (nat_le (length code)) o false ≡ false
    → option_map_or (λ t. nat_eq (depth_at code t) 0) o true ≡ true
    → IfSome o (λ t. (t < length code) × (depth_at code t ≡ 0))
target_fine code None h d = tt
target_fine code (Some t) h d = (grind (arith, nat_tests, h), grind (arith, nat_tests, d))

-- An end that passes the check never continues.
end_fine : (o : Option Instr) → option_map_or goes_off o false ≡ true → IsSomeAnd o (λ i. IsTrue (goes_off i))
end_fine None h = absurd (cc)
end_fine (Some i) h = h

-- An image without a fault is valid.
pub valid_from : (image : Image) → first_fault image ≡ None → IsValid image
valid_from image h =
    let code = image.code.items in
    let a = orelse-none (option_map Unencodable (first_limit (fields image))) _ h in
    let b = orelse-none (first_from (own_fault image) 0 code) _ a.1 in
    let c = orelse-none (end_fault code) _ b.1 in
    record {
      allowed = limits (fields image) (no_map (first_limit (fields image)) a.0);
      each = λ pc i e.
          let f = fault_at-none image pc (depth_at code pc) i (first_from-none (own_fault image) code pc i b.0 e) in
          let g = by_pass _ _ (first_from-none (target_fault code) code pc i c.1 e) in
          record {
            slot = slot_fine image.slots (slot_of i) f.slot;
            target = target_fine code (target_of i) f.target g;
            operands = f.operands;
            room = f.room;
            empty = f.empty;
          };
      ends = end_fine (slice_get code (length code - 1)) (by_pass _ _ c.0);
    }

-- A target that passes the check is within the code.
some_below :
    (code : List Instr) (o : Option ℕ) (t : ℕ) → option_map_or (nat_le (length code)) o false ≡ false
    → o ≡ Some t → t < length code
some_below code o t h e =
    let h' = subst (λ o. option_map_or (nat_le (length code)) o false ≡ false) e h in grind (arith, nat_tests, h')

-- If no instruction has a fault of its own, the marks are right for every target.
pub targets-marked :
    (image : Image) (code : List Instr) (marks : ℕ → Bool) → code ≡ image.code.items
    → first_limit (fields image) ≡ None → first_from (own_fault image) 0 image.code.items ≡ None
    → MarkDepths image.code.items marks
    → AreMarked code marks
targets-marked image code marks same l f m =
    subst (λ code. AreMarked code marks) (sym same) (λ pc t i e h.
    let none = first_from-none (own_fault image) image.code.items pc i f e in
    let n = fault_at-none image pc (depth_at image.code.items pc) i none in
    let below = some_below image.code.items (target_of i) t n.target h in
    let a = limits (fields image) l in
    (omega (arith, below, a.count), m t below))

-- A slot that exists passes the check.
no_slot : (slots : ℕ) (o : Option ℕ) → IfSome o (λ s. s < slots) → option_map_or (nat_le slots) o false ≡ false
no_slot slots None h = refl
no_slot slots (Some s) h = grind (arith, nat_tests, h)

-- A target that exists passes the check.
no_target :
    (code : List Instr) (o : Option ℕ) → IfSome o (λ t. (t < length code) × (depth_at code t ≡ 0))
    → option_map_or (nat_le (length code)) o false ≡ false
no_target code None h = refl
no_target code (Some t) h = let l = h.0 in grind (arith, nat_tests, l)

-- An instruction that is fine has no fault.
fault_at-clear :
    (image : Image) (pc depth : ℕ) (i : Instr) → IsFine image i depth → fault_at image pc depth i ≡ None
fault_at-clear image pc depth i f =
    let past_slots = option_map_or (nat_le image.slots) (slot_of i) false in
    let past_code = option_map_or (nat_le (length image.code.items)) (target_of i) false in
    tested-clear past_slots past_code (nat_lt depth (takes i)) (nat_lt image.stack (left i depth))
    (leaves_none i) (nat_lt 0 (left i depth)) _ _ _ _ _
    (no_slot image.slots (slot_of i) f.slot)
    (no_target image.code.items (target_of i) f.target)
    (let h = f.operands in grind (arith, nat_tests, h))
    (let h = f.room in grind (arith, nat_tests, h))
    (λ e. let h = f.empty e in grind (arith, nat_tests, h))

-- A target that is reached without operands passes the check.
target_empty :
    (code : List Instr) (o : Option ℕ) → IfSome o (λ t. (t < length code) × (depth_at code t ≡ 0))
    → option_map_or (λ t. nat_eq (depth_at code t) 0) o true ≡ true
target_empty code None h = refl
target_empty code (Some t) h = let l = h.1 in grind (arith, nat_tests, l)

-- An end that never continues passes the check.
no_end_fault : (o : Option Instr) → IsSomeAnd o (λ i. IsTrue (goes_off i)) → option_map_or goes_off o false ≡ true
no_end_fault None h = absurd h
no_end_fault (Some i) h = h

-- A valid image has no fault.
pub none_from : (image : Image) → IsValid image → first_fault image ≡ None
none_from image v =
    let code = image.code.items in
    let targets = first_from (target_fault code) 0 code in
    let own : (k : ℕ) (i : Instr) → slice_get code k ≡ Some i → own_fault image k i ≡ None =
    λ k i e. fault_at-clear image k (depth_at code k) i (v.each k i e) in
    let at_targets : (k : ℕ) (i : Instr) → slice_get code k ≡ Some i → target_fault code k i ≡ None = λ k i e.
    ap (λ b. if b then None else Some (NotEmpty k)) (target_empty code (target_of i) (v.each k i e).target) in
    ap (λ o. o orelse (first_from (own_fault image) 0 code orelse (end_fault code orelse targets)))
    (ap (option_map Unencodable) (no_limits (fields image) v.allowed))
    ∙ ap (λ o. o orelse (end_fault code orelse targets)) (first_from-clear (own_fault image) code own)
    ∙ ap (λ b. (if b then None else Some RunsOff) orelse targets) (no_end_fault _ v.ends)
    ∙ first_from-clear (target_fault code) code at_targets
