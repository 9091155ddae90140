-- A valid image has bytes, and no other image has the same bytes.
use Rattle.std.proofs.Common.{◌≡◌, ℕ, ◌-◌, ◌<◌, ◌≤◌, All, length, refl, sym, ap, subst, ◌∙◌, arith, slice_get, IfSome}
use Rattle.std.specs.Prelude.{IsSomeAnd, IsTrue}
use Rattle.std.proofs.lemmas.List.Elements.{recursion_from_All}
use Rattle.vsi_image.specs.declared.instr.Instr.{Instr}
use Rattle.vsi_image.specs.declared.instr.Image.{Image}
use Rattle.vsi_image.specs.Effects.{slot_of, target_of, left, goes_off, depth_at}
use Rattle.vsi_image.specs.Fields.{Fields, IsAllowed, HasOpcode, Spells, bytes_of, fields}
use Rattle.vsi_image.specs.Valid.{IsFine, IsValid}
use Rattle.vsi_image.proofs.Images.{images-agree}
use Rattle.vsi_compiler.specs.Headline.{IsCoded}

-- An instruction that is fine in an image is fine in one with the same fields.
same_fine : (a b : Image) → fields a ≡ fields b → (i : Instr) (depth : ℕ) → IsFine a i depth → IsFine b i depth
same_fine a b same i depth fine =
    let slots : a.slots ≡ b.slots = ap (λ (f : Fields). f.slots) same in
    let stack : a.stack ≡ b.stack = ap (λ (f : Fields). f.stack) same in
    let code : a.code.items ≡ b.code.items = ap (λ (f : Fields). f.code) same in
    record {
      slot = subst (λ n. IfSome (slot_of i) (λ s. s < n)) slots fine.slot;
      target = subst (λ is. IfSome (target_of i) (λ t. (t < length is) × (depth_at is t ≡ 0))) code fine.target;
      operands = fine.operands;
      room = subst (λ n. left i depth ≤ n) stack fine.room;
      empty = fine.empty;
    }

-- An image with the fields of a valid one is valid.
same_valid : (a b : Image) → fields a ≡ fields b → IsValid a → IsValid b
same_valid a b same valid =
    let code : a.code.items ≡ b.code.items = ap (λ (f : Fields). f.code) same in
    record {
      allowed = subst IsAllowed same valid.allowed;
      each = λ pc i at.
          same_fine a b same i (depth_at b.code.items pc)
          (subst (λ is. IsFine a i (depth_at is pc)) code (valid.each pc i (ap (λ is. slice_get is pc) code ∙ at)));
      ends = subst (λ is. IsSomeAnd (slice_get is (length is - 1)) (λ i. IsTrue (goes_off i))) code valid.ends;
    }

-- A valid image whose operands fit has bytes.
spelled_so : (im : Image) → IsValid im → All (HasOpcode 2) im.code.items →
    Spells (bytes_of 2 (fields im)) (fields im)
spelled_so im valid opcodes =
    record {
      version = 2;
      fits = record {
        low = omega arith;
        high = omega arith;
        allowed = valid.allowed;
        code = recursion_from_All (HasOpcode 2) im.code.items opcodes;
      };
      spelled = refl;
    }

-- A valid image whose operands fit is encoded, decoded to itself and verified again.
pub coded : (im : Image) → IsValid im → All (HasOpcode 2) im.code.items → IsCoded im
coded im valid opcodes =
    let spelled = spelled_so im valid opcodes in
    record {
      spelled = spelled;
      again = λ other spells.
          let same = images-agree (bytes_of 2 (fields im)) (fields other) (fields im) spells spelled in
          (same, same_valid im other (sym same) valid);
    }

-- An image that is encoded and verified again is valid.
pub coded_valid : (im : Image) → IsCoded im → IsValid im
coded_valid im coded = (coded.again im coded.spelled).1
