-- Shown bytes are plain.
use Rattle.std.proofs.Common.{◌≡◌, ℕ, ◌+◌, ◌/◌, ◌%◌, ◌<◌, ◌==◌, nat_lt, if◌then◌else◌, Bool, true, false, ◌&&◌, List, [], ◌∷◌, ◌++◌, ap, ◌∙◌, arith, refl, codes}
use Rattle.std.proofs.lemmas.Bool.{and_from, and_parts}
use Rattle.std.specs.List.{list_all}
use Rattle.std.proofs.lemmas.List.Folds.{list_all-append}
use Rattle.vsi_telling.specs.Safe.{is_printable, is_plain, all_printable, all_plain, hex_digit, by_digits, shown_byte, shown, told_byte, told}

-- If every byte of two texts has a property, so has every byte of both joined.
pub both_pass : (p : ℕ → Bool) (a b : List ℕ) → list_all p a ≡ true → list_all p b ≡ true → list_all p (a ++ b) ≡ true
both_pass p a b ha hb = list_all-append p a b ∙ ap (λ x. x && list_all p b) ha ∙ hb

-- A digit is printable.
digit_passes : (d : ℕ) → d < 16 → is_printable (if nat_lt d 10 then 48 + d else 87 + d) ≡ true
digit_passes d h = grind arith

-- The digit of a number's last four bits is printable.
hex_passes : (n : ℕ) → is_printable (hex_digit n) ≡ true
hex_passes n = digit_passes (n % 16) (omega arith)

-- A printable byte is plain.
printable_plain : (b : ℕ) → is_printable b ≡ true → is_plain b ≡ true
printable_plain b h = grind arith

-- Printable bytes are plain.
all_printable_plain : (bytes : List ℕ) → all_printable bytes ≡ true → all_plain bytes ≡ true
all_printable_plain [] h = refl
all_printable_plain (b ∷ bs) h =
    and_from _ _ (printable_plain b (and_parts _ _ h).0) (all_printable_plain bs (and_parts _ _ h).1)

-- One of three texts is printable if each is.
one_of_three : (p q : Bool) (x y z : List ℕ) → all_printable x ≡ true → (q ≡ true → all_printable y ≡ true)
    → all_printable z ≡ true → all_printable (if p then x else if q then y else z) ≡ true
one_of_three true q x y z hx hy hz = hx
one_of_three false true x y z hx hy hz = hy refl
one_of_three false false x y z hx hy hz = hz

-- A byte written with its digits is printable.
digits_printable : (b : ℕ) → all_printable (by_digits b) ≡ true
digits_printable b = and_from _ _ (hex_passes (b / 16)) (and_from _ _ (hex_passes b) refl)

-- The shown form of a byte is printable.
pub byte_printable : (b : ℕ) → all_printable (shown_byte b) ≡ true
byte_printable b =
    one_of_three (b == 9) (is_printable b) (codes "  ") (b ∷ []) (by_digits b) refl (λ h. and_from _ _ h refl)
    (digits_printable b)

-- The shown form of bytes is printable.
pub shown_printable : (bytes : List ℕ) → all_printable (shown bytes) ≡ true
shown_printable [] = refl
shown_printable (b ∷ bs) = both_pass is_printable (shown_byte b) (shown bs) (byte_printable b) (shown_printable bs)

-- The shown form of bytes is plain.
pub shown_plain : (bytes : List ℕ) → all_plain (shown bytes) ≡ true
shown_plain bytes = all_printable_plain (shown bytes) (shown_printable bytes)

-- One of two texts is plain if both are.
one_of_two : (p : Bool) (x y : List ℕ) → all_plain x ≡ true → all_plain y ≡ true → all_plain (if p then x else y) ≡ true
one_of_two true x y hx hy = hx
one_of_two false x y hx hy = hy

-- The form of a byte in a text with lines is plain.
pub told_byte_plain : (b : ℕ) → all_plain (told_byte b) ≡ true
told_byte_plain b =
    one_of_two (b == 10) (10 ∷ []) (shown_byte b) refl (all_printable_plain (shown_byte b) (byte_printable b))

-- The form of a text with lines is plain.
pub told_plain : (bytes : List ℕ) → all_plain (told bytes) ≡ true
told_plain [] = refl
told_plain (b ∷ bs) = both_pass is_plain (told_byte b) (told bs) (told_byte_plain b) (told_plain bs)
