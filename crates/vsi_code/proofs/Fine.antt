-- The code is valid.
use Rattle.std.proofs.Common.{◌≡◌, ℕ, zero, suc, ◌+◌, ◌-◌, ◌<◌, ◌≤◌, List, [], ◌∷◌, ◌++◌, length, fold, max, get_or, Some, None, Bool, true, false, refl, sym, ap, ◌∙◌, subst, arith, if◌then◌else◌, ◌⊎◌, inl, inr}
use Rattle.std.specs.Prelude.{slice_get, IfSome, IsSomeAnd, IsTrue}
use Rattle.std.proofs.lemmas.Bool.{cases_lt}
use Rattle.std.proofs.lemmas.List.{take_all}
use Rattle.std.proofs.lemmas.Option.{none-some, same_Some, slice_get_cases, slice_get_within, get_or_from_slice_get}
use Rattle.std.proofs.lemmas.List.Sums.{fold_more}
use Rattle.vsi_image.specs.declared.instr.Instr.{Instr}
use Rattle.vsi_image.specs.declared.instr.Instr.TheVariants.{Push, Load, Store, Jz, Jmp, Halt}
use Rattle.vsi_image.specs.declared.instr.Image.{Image}
use Rattle.vsi_image.specs.Effects.{takes, left, slot_of, target_of, leaves_none, goes_off, depth_after, depth_at}
use Rattle.vsi_image.specs.Fields.{fields, IsAllowed}
use Rattle.vsi_image.specs.Valid.{IsFine, IsValid}
use Rattle.vsi_syntax.specs.declared.tree.Op.{Op}
use Rattle.vsi_syntax.specs.declared.tree.Op.TheVariants.{Add, Sub, Mul, Eq, Lt}
use Rattle.vsi_scope.specs.Language.{Expression, Number, Location, Operator, Command, Skip, Assign, Sequence, If, While, Letvar, HasLocations, HasPlaces, expression_size, size, nesting}
use Rattle.vsi_code.specs.Needs.{IsGreatestDepth, expression_height, height}
use Rattle.vsi_code.specs.Layout.{op_code, expression_code, code_at, whole_code}
use Rattle.vsi_code.proofs.Placed.{HasAt, has_front, has_back, has_all, expression_long, command_long, whole_long}

module _ (image : Image) where
  -- The depth of operands at a position.
  abbrev depth : ℕ → ℕ
  depth pc = depth_at image.code.items pc

  -- The code has these instructions from a position on.
  abbrev Stands : ℕ → List Instr → Type 0
  Stands pc is = HasAt image.code.items pc is

  -- Each instruction of a stretch is fine at its depth.
  abbrev AllFine : ℕ → List Instr → Type 0
  AllFine pc [] = Unit {0}
  AllFine pc (i ∷ is) = IsFine image i (depth pc) × AllFine (pc + 1) is

  -- Two stretches that are fine are fine together.
  all_append : (a b : List Instr) (pc : ℕ) → AllFine pc a → AllFine (pc + length a) b → AllFine pc (a ++ b)
  all_append [] b pc f g = let e : pc + 0 ≡ pc = omega arith in subst (λ n. AllFine n b) e g
  all_append (i ∷ a) b pc f g =
      let e : pc + length (i ∷ a) ≡ pc + 1 + length a = omega arith in
      (f.0, all_append a b (pc + 1) f.1 (subst (λ n. AllFine n b) e g))

  -- Two stretches, the first of known length, are fine together.
  all_join : (a b : List Instr) (pc n : ℕ) → length a ≡ n → AllFine pc a → AllFine (pc + n) b → AllFine pc (a ++ b)
  all_join a b pc n e f g = all_append a b pc f (subst (λ n. AllFine (pc + n) b) (sym e) g)

  -- An instruction of a fine stretch is fine at its position.
  all_each : (is : List Instr) (pc k : ℕ) (i : Instr) →
      AllFine pc is → slice_get is k ≡ Some i → IsFine image i (depth (pc + k))
  all_each [] pc k i f e = absurd (none-some _ e)
  all_each (x ∷ is) pc zero i f e =
      let z : pc ≡ pc + 0 = omega arith in
      let here = subst (λ x. IsFine image x (depth pc)) (same_Some _ _ e) f.0 in
      subst (λ n. IsFine image i (depth n)) z here
  all_each (x ∷ is) pc (suc k) i f e =
      let z : pc + 1 + k ≡ pc + suc k = omega arith in
      subst (λ n. IsFine image i (depth n)) z (all_each is (pc + 1) k i f.1 e)

  -- The depth after an instruction.
  depth_next : (pc : ℕ) (i : Instr) →
      slice_get image.code.items pc ≡ Some i → depth (pc + 1) ≡ depth_after (depth pc) i
  depth_next pc i e =
      fold_more depth_after 0 image.code.items pc i (slice_get_within image.code.items pc i e)
      ∙ ap (depth_after (depth pc)) (get_or_from_slice_get image.code.items pc i i e)

  -- An instruction without a slot and a target is fine if it has its operands and room.
  plain : (i : Instr) (pc d : ℕ) → depth pc ≡ d → slot_of i ≡ None → target_of i ≡ None → leaves_none i ≡ false →
      takes i ≤ d → left i d ≤ image.stack → IsFine image i (depth pc)
  plain i pc d e s t l o r = record {
    slot = subst (λ x. IfSome x (λ s. s < image.slots)) (sym s) tt;
    target = subst (λ x. IfSome x (λ t. (t < length image.code.items) × (depth t ≡ 0))) (sym t) tt;
    operands = subst (λ d. takes i ≤ d) (sym e) o;
    room = subst (λ d. left i d ≤ image.stack) (sym e) r;
    empty = λ h. absurd (cc);
  }

  -- An operator is fine after its two operands.
  op_fine : (o : Op) (pc d : ℕ) → depth pc ≡ d + 2 → d + 1 ≤ image.stack → IsFine image (op_code o) (depth pc)
  op_fine Add pc d e r = plain (op_code Add) pc (d + 2) e refl refl refl (omega arith) (omega (arith, r))
  op_fine Sub pc d e r = plain (op_code Sub) pc (d + 2) e refl refl refl (omega arith) (omega (arith, r))
  op_fine Mul pc d e r = plain (op_code Mul) pc (d + 2) e refl refl refl (omega arith) (omega (arith, r))
  op_fine Eq pc d e r = plain (op_code Eq) pc (d + 2) e refl refl refl (omega arith) (omega (arith, r))
  op_fine Lt pc d e r = plain (op_code Lt) pc (d + 2) e refl refl refl (omega arith) (omega (arith, r))

  -- An operator leaves one operand in place of two.
  op_depth : (o : Op) (d : ℕ) → depth_after (d + 2) (op_code o) ≡ d + 1
  op_depth Add d = omega arith
  op_depth Sub d = omega arith
  op_depth Mul d = omega arith
  op_depth Eq d = omega arith
  op_depth Lt d = omega arith

  -- A store is fine after one operand.
  store_fine : (l pc : ℕ) → depth pc ≡ 1 → l < image.slots → IsFine image (Store l) (depth pc)
  store_fine l pc e s =
      record { slot = s; target = tt; operands = omega (arith, e); room = omega (arith, e); empty = λ h. absurd (cc) }

  -- A test is fine after one operand if the depth at its target is 0.
  jz_fine : (t pc : ℕ) → depth pc ≡ 1 → t < length image.code.items → depth t ≡ 0 → IsFine image (Jz t) (depth pc)
  jz_fine t pc e w d = record {
    slot = tt;
    target = (w, d);
    operands = omega (arith, e);
    room = omega (arith, e);
    empty = λ h. omega (arith, e);
  }

  -- A jump is fine at depth 0 if the depth at its target is 0.
  jmp_fine : (t pc : ℕ) → depth pc ≡ 0 → t < length image.code.items → depth t ≡ 0 → IsFine image (Jmp t) (depth pc)
  jmp_fine t pc e w d = record {
    slot = tt;
    target = (w, d);
    operands = omega (arith, e);
    room = omega (arith, e);
    empty = λ h. omega (arith, e);
  }

  -- A HALT is fine at depth 0.
  halt_fine : (pc : ℕ) → depth pc ≡ 0 → IsFine image Halt (depth pc)
  halt_fine pc e =
      record {
        slot = tt;
        target = tt;
        operands = omega arith;
        room = omega (arith, e);
        empty = λ h. omega (arith, e);
      }

  -- Some position has this depth.
  abbrev Peak : ℕ → Type 0
  Peak n = (pc : ℕ) × (depth pc ≡ n)

  -- A position has every depth that equals its own.
  peak_as : (a b : ℕ) → a ≡ b → Peak a → Peak b
  peak_as a b e p = (p.0, p.1 ∙ e)

  -- If two depths occur, so does the greater one.
  higher : (a b : ℕ) → Peak a → Peak b → Peak (max a b)
  higher a b p q = by_order (cases_lt a b)
    where
      by_order : (a < b) ⊎ (b ≤ a) → Peak (max a b)
      by_order (inl lt) = let e : b ≡ max a b = omega (arith, lt) in peak_as b (max a b) e q
      by_order (inr le) = let e : a ≡ max a b = omega (arith, le) in peak_as a (max a b) e p

  -- An expression's code is fine if the stack has room for its height; it leaves one more operand, and its greatest
  -- depth is the expression's height.
  expression_fine : (e : Expression) (pc d k : ℕ) → HasLocations k e → k ≤ image.slots →
      d + expression_height e ≤ image.stack →
      Stands pc (expression_code e) → depth pc ≡ d →
      AllFine pc (expression_code e) × (depth (pc + expression_size e) ≡ d + 1) × Peak (d + expression_height e)
  expression_fine (Number n) pc d k p s r h e =
      let one : depth pc - 0 + 1 ≡ d + 1 = omega (arith, e) in
      let behind = depth_next pc (Push n) h.0 ∙ one in
      ((plain (Push n) pc d e refl refl refl (omega arith) (omega (arith, r)), tt), behind, (pc + 1, behind))
  expression_fine (Location l span) pc d k p s r h e =
      let one : depth pc - 0 + 1 ≡ d + 1 = omega (arith, e) in
      let fine : IsFine image (Load l) (depth pc) = record {
        slot = omega (arith, p, s);
        target = tt;
        operands = omega arith;
        room = omega (arith, e, r);
        empty = λ h. absurd (cc);
      } in
      let behind = depth_next pc (Load l) h.0 ∙ one in
      ((fine, tt), behind, (pc + 1, behind))
  expression_fine (Operator o a b) pc d k p s r h e =
      let pc1 = pc + expression_size a in
      let pc2 = pc1 + expression_size b in
      let back = expression_code b ++ op_code o ∷ [] in
      let ha = has_front image.code.items pc (expression_code a) _ h in
      let hr = has_back image.code.items pc (expression_code a) back (expression_size a) (expression_long a) h in
      let hb = has_front image.code.items pc1 (expression_code b) _ hr in
      let ho = has_back image.code.items pc1 (expression_code b) (op_code o ∷ []) (expression_size b)
      (expression_long b) hr in
      let fa = expression_fine a pc d k p.0 s (omega (arith, r)) ha e in
      let fb = expression_fine b pc1 (d + 1) k p.1 s (omega (arith, r)) hb fa.1 in
      let two : depth pc2 ≡ d + 2 = omega (arith, fb.1) in
      let end : pc + (expression_size a + expression_size b + 1) ≡ pc2 + 1 = omega arith in
      let last : AllFine pc2 (op_code o ∷ []) = (op_fine o pc2 d two (omega (arith, r)), tt) in
      let second = all_join (expression_code b) (op_code o ∷ []) pc1 (expression_size b)
      (expression_long b) fb.0 last in
      let A = expression_height a in
      let B = expression_height b in
      let most : max (d + A) (d + 1 + B) ≡ d + max A (B + 1) = omega arith in
      let peak = higher (d + A) (d + 1 + B) fa.2 fb.2 in (
        all_join (expression_code a) back pc (expression_size a) (expression_long a) fa.0 second,
        ap depth end ∙ depth_next pc2 (op_code o) ho.0 ∙ ap (λ x. depth_after x (op_code o)) two ∙ op_depth o d,
        peak_as (max (d + A) (d + 1 + B)) (d + max A (B + 1)) most peak,
      )

  -- The depth after a jump is 0.
  behind_jmp : (pc t : ℕ) → slice_get image.code.items pc ≡ Some (Jmp t) → depth (pc + 1) ≡ 0
  behind_jmp pc t e = depth_next pc (Jmp t) e

  -- The depth after an instruction that takes the only operand is 0.
  behind_one : (pc : ℕ) (i : Instr) → slice_get image.code.items pc ≡ Some i →
      goes_off i ≡ false → left i 1 ≡ 0 → depth pc ≡ 1 → depth (pc + 1) ≡ 0
  behind_one pc i e o l d =
      depth_next pc i e ∙ ap (λ b. if b then 0 else left i (depth pc)) o ∙ ap (left i) d ∙ l

  -- The greatest depth of a guard or a value is its height.
  peak_of : (e : Expression) → Peak (0 + expression_height e) → Peak (expression_height e)
  peak_of e p = let z : 0 + expression_height e ≡ expression_height e = omega arith in peak_as _ _ z p

  -- A command's code is fine if the slots and the stack have room for it; it leaves no operand, and its greatest depth
  -- is the command's height.
  command_fine : (c : Command) (pc k : ℕ) → HasPlaces k c → k + nesting c ≤ image.slots → height c ≤ image.stack →
      Stands pc (code_at pc k c) → depth pc ≡ 0 → pc + size c < length image.code.items →
      AllFine pc (code_at pc k c) × (depth (pc + size c) ≡ 0) × Peak (height c)
  command_fine Skip pc k p s r h e w =
      let z : pc + 0 ≡ pc = omega arith in
      (tt, ap depth z ∙ e, (pc, e))
  command_fine (Assign l span x) pc k p s r h e w =
      let pc1 = pc + expression_size x in
      let hx = has_front image.code.items pc (expression_code x) _ h in
      let hs = has_back image.code.items pc (expression_code x) (Store l ∷ []) (expression_size x)
      (expression_long x) h in
      let fx = expression_fine x pc 0 k p.1 (omega (arith, s)) (omega (arith, r)) hx e in
      let end : pc + (expression_size x + 1) ≡ pc1 + 1 = omega arith in
      let one : depth pc1 ≡ 1 = omega (arith, fx.1) in
      let last : AllFine pc1 (Store l ∷ []) = (store_fine l pc1 one (omega (arith, p.0, s)), tt) in (
        all_join (expression_code x) (Store l ∷ []) pc (expression_size x) (expression_long x) fx.0 last,
        ap depth end ∙ behind_one pc1 (Store l) hs.0 refl refl one,
        peak_of x fx.2,
      )
  command_fine (Sequence a b) pc k p s r h e w =
      let pc1 = pc + size a in
      let A = code_at pc k a in
      let B = code_at pc1 k b in
      let ha = has_front image.code.items pc A _ h in
      let hb = has_back image.code.items pc A B (size a) (command_long a pc k) h in
      let fa = command_fine a pc k p.0 (omega (arith, s)) (omega (arith, r)) ha e (omega (arith, w)) in
      let fb = command_fine b pc1 k p.1 (omega (arith, s)) (omega (arith, r)) hb fa.1 (omega (arith, w)) in
      let end : pc + (size a + size b) ≡ pc1 + size b = omega arith in
      let peak = higher (height a) (height b) fa.2 fb.2 in
      (all_join A B pc (size a) (command_long a pc k) fa.0 fb.0, ap depth end ∙ fb.1, peak)
  command_fine (If x a b) pc k p s r h e w =
      let test = pc + expression_size x in
      let first = test + 1 in
      let jump = first + size a in
      let second = jump + 1 in
      let end = second + size b in
      let A = code_at first k a in
      let B = code_at second k b in
      let back = Jz second ∷ (A ++ (Jmp end ∷ B)) in
      let hx = has_front image.code.items pc (expression_code x) _ h in
      let h1 = has_back image.code.items pc (expression_code x) back (expression_size x) (expression_long x) h in
      let ha = has_front image.code.items first A _ h1.1 in
      let h2 = has_back image.code.items first A (Jmp end ∷ B) (size a) (command_long a first k) h1.1 in
      let fx = expression_fine x pc 0 k p.0 (omega (arith, s)) (omega (arith, r)) hx e in
      let one : depth test ≡ 1 = omega (arith, fx.1) in
      let d1 = behind_one test (Jz second) h1.0 refl refl one in
      let fa = command_fine a first k p.1 (omega (arith, s)) (omega (arith, r)) ha d1 (omega (arith, w)) in
      let d2 = behind_jmp jump end h2.0 in
      let fb = command_fine b second k p.2 (omega (arith, s)) (omega (arith, r)) h2.1 d2 (omega (arith, w)) in
      let at : pc + (expression_size x + size a + size b + 2) ≡ end = omega arith in
      let leave = jmp_fine end jump fa.1 (omega (arith, w)) fb.1 in
      let branches = all_join A (Jmp end ∷ B) first (size a) (command_long a first k) fa.0 (leave, fb.0) in
      let choice : AllFine test back = (jz_fine second test one (omega (arith, w)) d2, branches) in
      let inner = higher (height a) (height b) fa.2 fb.2 in
      let peak = higher (expression_height x) (max (height a) (height b)) (peak_of x fx.2) inner in (
        all_join (expression_code x) back pc (expression_size x) (expression_long x) fx.0 choice,
        ap depth at
            ∙ fb.1,
        peak,
      )
  command_fine (While x c) pc k p s r h e w =
      let test = pc + expression_size x in
      let body = test + 1 in
      let jump = body + size c in
      let end = jump + 1 in
      let C = code_at body k c in
      let back = Jz end ∷ (C ++ Jmp pc ∷ []) in
      let hx = has_front image.code.items pc (expression_code x) _ h in
      let h1 = has_back image.code.items pc (expression_code x) back (expression_size x) (expression_long x) h in
      let hc = has_front image.code.items body C _ h1.1 in
      let h2 = has_back image.code.items body C (Jmp pc ∷ []) (size c) (command_long c body k) h1.1 in
      let fx = expression_fine x pc 0 k p.0 (omega (arith, s)) (omega (arith, r)) hx e in
      let one : depth test ≡ 1 = omega (arith, fx.1) in
      let d1 = behind_one test (Jz end) h1.0 refl refl one in
      let fc = command_fine c body k p.1 (omega (arith, s)) (omega (arith, r)) hc d1 (omega (arith, w)) in
      let d2 = behind_jmp jump pc h2.0 in
      let at : pc + (expression_size x + size c + 2) ≡ end = omega arith in
      let again : AllFine jump (Jmp pc ∷ []) = (jmp_fine pc jump fc.1 (omega (arith, w)) e, tt) in
      let turn = all_join C (Jmp pc ∷ []) body (size c) (command_long c body k) fc.0 again in
      let loop : AllFine test back = (jz_fine end test one (omega (arith, w)) d2, turn) in
      let peak = higher (expression_height x) (height c) (peak_of x fx.2) fc.2 in
      (all_join (expression_code x) back pc (expression_size x) (expression_long x) fx.0 loop, ap depth at ∙ d2, peak)
  command_fine (Letvar x c) pc k p s r h e w =
      let pc1 = pc + expression_size x in
      let body = pc1 + 1 in
      let back = Store k ∷ code_at body (k + 1) c in
      let hx = has_front image.code.items pc (expression_code x) _ h in
      let h1 = has_back image.code.items pc (expression_code x) back (expression_size x) (expression_long x) h in
      let fx = expression_fine x pc 0 k p.0 (omega (arith, s)) (omega (arith, r)) hx e in
      let one : depth pc1 ≡ 1 = omega (arith, fx.1) in
      let d1 = behind_one pc1 (Store k) h1.0 refl refl one in
      let fc = command_fine c body (k + 1) p.1 (omega (arith, s)) (omega (arith, r)) h1.1 d1 (omega (arith, w)) in
      let at : pc + (expression_size x + size c + 1) ≡ body + size c = omega arith in
      let rest : AllFine pc1 back = (store_fine k pc1 one (omega (arith, s)), fc.0) in
      let peak = higher (expression_height x) (height c) (peak_of x fx.2) fc.2 in
      (all_join (expression_code x) back pc (expression_size x) (expression_long x) fx.0 rest, ap depth at ∙ fc.1, peak)

  -- The code is fine, leaves no operand before the HALT, and its greatest depth is the body's height.
  body_fine : (g : ℕ) (c : Command) → HasPlaces g c → image.code.items ≡ whole_code g c →
      image.slots ≡ g + nesting c → image.stack ≡ height c →
      AllFine 0 (code_at 0 g c) × (depth (0 + size c) ≡ 0) × Peak (height c)
  body_fine g c p is slots stack =
      let count : length image.code.items ≡ size c + 1 = ap length is ∙ whole_long g c in
      let stands = subst (Stands 0) is (has_all image.code.items) in
      let body = has_front image.code.items 0 (code_at 0 g c) (Halt ∷ []) stands in
      command_fine c 0 g p (omega (arith, slots)) (omega (arith, stack)) body refl (omega (arith, count))

  -- An image with a body's whole code, slots and stack is valid if its fields are allowed.
  pub valid : (g : ℕ) (c : Command) → IsAllowed (fields image) → HasPlaces g c → image.code.items ≡ whole_code g c →
      image.slots ≡ g + nesting c → image.stack ≡ height c → IsValid image
  valid g c allowed p is slots stack =
      let C = code_at 0 g c in
      let long = command_long c 0 g in
      let stands = subst (Stands 0) is (has_all image.code.items) in
      let last_at = (has_back image.code.items 0 C (Halt ∷ []) (size c) long stands).0 in
      let count : length image.code.items ≡ size c + 1 = ap length is ∙ whole_long g c in
      let body = body_fine g c p is slots stack in
      let halt : AllFine (0 + size c) (Halt ∷ []) = (halt_fine (0 + size c) body.1, tt) in
      let all = subst (AllFine 0) (sym is) (all_join C (Halt ∷ []) 0 (size c) long body.0 halt) in
      let last : length image.code.items - 1 ≡ 0 + size c = omega (arith, count) in
      let end = sym (ap (slice_get image.code.items) last ∙ last_at) in
      record {
        allowed = allowed;
        each = λ pc i e.
            let z : 0 + pc ≡ pc = omega arith in
            subst (λ n. IsFine image i (depth n)) z (all_each image.code.items 0 pc i all e);
        ends = subst (λ o. IsSomeAnd o (λ i. IsTrue (goes_off i))) end refl;
      }

  -- If an instruction leaves at most n operands, the depth after it is at most n.
  after_within : (d n : ℕ) (i : Instr) → left i d ≤ n → depth_after d i ≤ n
  after_within d n i le = by_test (goes_off i)
    where
      by_test : (b : Bool) → (if b then 0 else left i d) ≤ n
      by_test true = omega arith
      by_test false = le

  -- No position of a valid image is deeper than its stack.
  depth_within : IsValid image → (pc : ℕ) → depth pc ≤ image.stack
  depth_within v zero = omega arith
  depth_within v (suc pc) = by_place (slice_get_cases image.code.items pc).1 (depth_within v pc)
    where
      Here : Type 0
      Here = (x : Instr) × (pc < length image.code.items) × (slice_get image.code.items pc ≡ Some x)
          × (get_or image.code.items pc x ≡ x)

      Past : Type 0
      Past = (length image.code.items ≤ pc) × (slice_get image.code.items pc ≡ None)

      by_place : Here ⊎ Past → depth pc ≤ image.stack → depth (suc pc) ≤ image.stack
      by_place (inl x) before =
          let next : suc pc ≡ pc + 1 = omega arith in
          let within = after_within (depth pc) image.stack x.0 (v.each pc x.0 x.2).room in
          subst (λ n. n ≤ image.stack) (sym (ap depth next ∙ depth_next pc x.0 x.2)) within
      by_place (inr past) before =
          let more : length image.code.items ≤ suc pc = omega (arith, past.0) in
          let same = take_all (suc pc) image.code.items more ∙ sym (take_all pc image.code.items past.0) in
          subst (λ is. fold depth_after 0 is ≤ image.stack) (sym same) before

  -- The stack of such an image is the greatest depth of its code.
  pub greatest : (g : ℕ) (c : Command) → IsValid image → HasPlaces g c → image.code.items ≡ whole_code g c →
      image.slots ≡ g + nesting c → image.stack ≡ height c → IsGreatestDepth image.code.items image.stack
  greatest g c v p is slots stack =
      let peak = (body_fine g c p is slots stack).2 in
      record { within = depth_within v; reached = (peak.0, peak.1 ∙ sym stack) }
