-- Texts that were read at paths.
use Rattle.std.proofs.Common.{◌≡◌, ◌∙◌, ℕ, List, Option, Some, Bool, true, false, cond, refl, subst, sym, IfSome}
use Rattle.std.proofs.lemmas.Slice.Eq.{bytes_eq-Decides}
use Rattle.std.specs.BTreeMap.{BTreeMap, get_by_text}
use Rattle.std.specs.Map.{update}
use Rattle.std.specs.Prelude.{String, option_map}
use Rattle.std.specs.Rc.{rc_slice_items}
use Rattle.std.specs.declared.rc.RcSlice.{RcSlice}
use Rattle.std.specs.Str.{bytes_eq}
use Rattle.vsi_subject.specs.Holding.{Holding, IsReadAt}
use Rattle.vsi_subject.specs.Loading.{AreRead}

-- A property of one text, if it is chosen, and otherwise of the text that was found, holds for the one of the two.
either : {Z : Type 0} (P : List ℕ → Type 0) (x : RcSlice ℕ Z) (old : Option (RcSlice ℕ Z)) (b : Bool) →
    (b ≡ true → P (rc_slice_items x)) → IfSome (option_map rc_slice_items old) P →
    IfSome (option_map rc_slice_items (cond b (Some x) old)) P
either P x old true one rest = one refl
either P x old false one rest = rest

-- One more text that was read leaves texts that were read.
pub read_more : {Y Z : Type 0} (holds : Holding) (old new : BTreeMap (String Y) (RcSlice ℕ Z)) (at : List ℕ)
    (bytes : RcSlice ℕ Z) →
    ((path : List ℕ) → get_by_text new path ≡ update bytes_eq (get_by_text old) at (Some bytes) path) →
    AreRead holds old → IsReadAt holds at (rc_slice_items bytes) → AreRead holds new
read_more {Y} {Z} holds old new at bytes sets all one path =
    subst (λ (found : Option (RcSlice ℕ Z)). IfSome (option_map rc_slice_items found) (IsReadAt holds path))
    (sym (sets path))
    (either (IsReadAt holds path) bytes (get_by_text old path) (bytes_eq at path)
    (λ same. subst (λ p. IsReadAt holds p (rc_slice_items bytes)) ((bytes_eq-Decides at path).0 same) one) (all path))

-- The texts before a file is taken were read from the first files, and so were the texts after it.
pub go_on : {Y Z : Type 0} (first old new : Holding) (before after : BTreeMap (String Y) (RcSlice ℕ Z)) → (old ≡ first) × AreRead first before → new ≡ old →
    (AreRead old before → AreRead old after) → (new ≡ first) × AreRead first after
go_on first old new before after read kept told = (
  kept ∙ read.0,
  subst (λ h. AreRead h after) read.0 (told (subst (λ h. AreRead h before) (sym read.0) read.1)),
)
