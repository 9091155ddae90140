-- The bytes of a number that is read are its spelling, and a spelling is read back.
use Rattle.std.proofs.Common.{◌≡◌, ℕ, suc, ◌+◌, ◌^◌, ◌<◌, ◌≤◌, ◌&&◌, Bool, true, false, cond, ltb, List, [], ◌∷◌, ◌++◌, length, get_or, take, drop, Result, Ok, Err, refl, sym, ap, ◌∙◌, append_assoc, arith, inl, inr}
use Rattle.std.specs.Prelude.{IfOk}
use Rattle.std.specs.Int.{Width, w16, w32, w64, byte_len, from_be_bytes, to_be_bytes}
use Rattle.std.proofs.lemmas.Bool.{cases_lt, ltb-false, le-ltb}
use Rattle.std.proofs.lemmas.List.{take_at, drop_at, take-append-drop, length-append, length-take, get_or-drop, get_or-take, get_or_past}
use Rattle.std.proofs.lemmas.Nat.{be_bytes_2, be_bytes_4, be_bytes_8, from_be_bytes-to_be_bytes_2, from_be_bytes-to_be_bytes_4, from_be_bytes-to_be_bytes_8}
use Rattle.vsi_image.specs.declared.decoder.DecodeError.{DecodeError}
use Rattle.vsi_image.specs.Reading.{◌>>=◌, number_at, text_at, byte_at, allowed}

-- Every number is a byte.
abbrev pub IsBytes : List ℕ → Type 0
IsBytes bytes = (i : ℕ) → get_or bytes i 0 < 256

-- The rest of bytes is bytes.
pub IsBytes-drop : (n : ℕ) (bytes : List ℕ) → IsBytes bytes → IsBytes (drop n bytes)
IsBytes-drop n bytes h i = rw get_or-drop (h (n + i))

-- The prefix of bytes is bytes.
pub IsBytes-take : (n : ℕ) (bytes : List ℕ) → IsBytes bytes → IsBytes (take n bytes)
IsBytes-take n bytes h i =
    elim (cases_lt i n) [
      | inl lt ↦ rw (get_or-take n bytes i 0 lt) (h i)
      | inr le ↦ rw (get_or_past (take n bytes) i 0 (omega (arith, length-take n bytes))) (omega arith)
    ]

-- If a field was read, the next result has the properties that follow from both.
pub bind_found :
    {A B : Type 0} (r : Result A DecodeError) (f : A → Result B DecodeError) (P : A → Type 0) (Q : B → Type 0)
    → IfOk r P → ((x : A) → P x → IfOk (f x) Q)
    → IfOk (r >>= f) Q
bind_found (Ok x) f P Q h g = g x h
bind_found (Err e) f P Q h g = tt

-- A result that depends on a test has the properties that follow in both cases.
pub test_found :
    {B : Type 0} (b : Bool) (r s : Result B DecodeError) (Q : B → Type 0)
    → (b ≡ true → IfOk r Q) → (b ≡ false → IfOk s Q)
    → IfOk (cond b r s) Q
test_found true r s Q h g = h refl
test_found false r s Q h g = g refl

-- A value that is allowed has the properties that follow from the test.
pub allowed_found :
    {A : Type 0} (b : Bool) (at : ℕ) (x : A) (Q : A → Type 0) → (b ≡ true → Q x) → IfOk (allowed b at x) Q
allowed_found true at x Q h = h refl
allowed_found false at x Q h = tt

-- If two tests are passed together, each is.
pub both_true : (a b : Bool) → (a && b) ≡ true → (a ≡ true) × (b ≡ true)
both_true true b h = (refl, h)
both_true false b h = absurd cc

-- The bytes that a reader took from the front, and the bytes after them.
pub record Takes (bytes text rest : List ℕ) : Type 0 where
  pub parts : bytes ≡ text ++ rest
  pub rest_fits : IsBytes rest

-- The bytes that two readers took, one after the other, are taken together.
pub Takes-then : (a x b y c : List ℕ) → Takes a x b → Takes b y c → Takes a (x ++ y) c
Takes-then a x b y c p q =
    record {
      parts = p.parts ∙ ap (λ (t : List ℕ). x ++ t) q.parts ∙ sym (append_assoc x y c);
      rest_fits = q.rest_fits;
    }

-- A byte in front of those taken is taken too.
pub Takes-behind : (n m : ℕ) (a x b : List ℕ) → n ≡ m → Takes a x b → Takes (n ∷ a) (m ∷ x) b
Takes-behind n m a x b e p =
    record {
      parts = ap (λ (t : List ℕ). n ∷ t) p.parts ∙ ap (λ (k : ℕ). k ∷ (x ++ b)) e;
      rest_fits = p.rest_fits;
    }

-- A reader may take nothing.
pub Takes-none : (a : List ℕ) → IsBytes a → Takes a [] a
Takes-none a h = record { parts = refl; rest_fits = h }

-- Numbers of a width, below a limit, have one spelling.
pub record IsWide (w : Width) (limit : ℕ) : Type 0 where
  pub len : (n : ℕ) → length (to_be_bytes w n) ≡ byte_len w
  pub back :
      (bytes : List ℕ) → length bytes ≡ byte_len w → IsBytes bytes
      → to_be_bytes w (from_be_bytes w bytes) ≡ bytes
  pub again : (n : ℕ) → n < limit → from_be_bytes w (to_be_bytes w n) ≡ n
  pub below : (bytes : List ℕ) → IsBytes bytes → from_be_bytes w bytes < limit

-- Two bytes are such a width.
pub wide16 : IsWide w16 (2 ^ 16)
wide16 = record {
  len = λ n. refl;
  back = λ bytes len fits. be_bytes_2 bytes _ len fits refl;
  again = λ n lt. from_be_bytes-to_be_bytes_2 n lt;
  below = λ bytes fits. omega (arith, fits 0, fits 1);
}

-- Four bytes are such a width.
pub wide32 : IsWide w32 (2 ^ 32)
wide32 = record {
  len = λ n. refl;
  back = λ bytes len fits. be_bytes_4 bytes _ len fits refl;
  again = λ n lt. from_be_bytes-to_be_bytes_4 n lt;
  below = λ bytes fits. omega (arith, fits 0, fits 1, fits 2, fits 3);
}

-- Eight bytes are such a width.
pub wide64 : IsWide w64 (2 ^ 64)
wide64 = record {
  len = λ n. refl;
  back = λ bytes len fits. be_bytes_8 bytes _ len fits refl;
  again = λ n lt. from_be_bytes-to_be_bytes_8 n lt;
  below = λ bytes fits. omega (arith, fits 0, fits 1, fits 2, fits 3, fits 4, fits 5, fits 6, fits 7);
}

-- ---- reading is sound.

-- A text that is read is at the front.
pub text_found :
    (n whole : ℕ) (bytes : List ℕ) → IsBytes bytes
    → IfOk (text_at n whole bytes) (λ x. Takes bytes x.0 x.1 × (length x.0 ≡ n))
text_found n whole bytes fits =
    test_found (ltb (length bytes) n) _ _ _ (λ e. tt) (λ e.
    let long : n ≤ length bytes = ltb-false _ _ e in
    let takes : Takes bytes (take n bytes) (drop n bytes) =
    record { parts = sym (take-append-drop n bytes); rest_fits = IsBytes-drop n bytes fits } in
    (takes, omega (arith, length-take n bytes)))

-- The bytes of a number that is read are its spelling, and it fits its width.
pub number_found :
    (w : Width) (limit : ℕ) (wide : IsWide w limit) (whole : ℕ) (bytes : List ℕ) → IsBytes bytes
    → IfOk (number_at w whole bytes) (λ x. Takes bytes (to_be_bytes w x.0) x.1 × (x.0 < limit))
number_found w limit wide whole bytes fits =
    test_found (ltb (length bytes) (byte_len w)) _ _ _ (λ e. tt) (λ e.
    let long : byte_len w ≤ length bytes = ltb-false _ _ e in
    let front = take (byte_len w) bytes in
    let front_fits = IsBytes-take (byte_len w) bytes fits in
    let spelled : to_be_bytes w (from_be_bytes w front) ≡ front =
    wide.back front (omega (arith, length-take (byte_len w) bytes)) front_fits in
    let takes : Takes bytes (to_be_bytes w (from_be_bytes w front)) (drop (byte_len w) bytes) =
    record {
      parts = rw spelled (sym (take-append-drop (byte_len w) bytes));
      rest_fits = IsBytes-drop (byte_len w) bytes fits;
    } in
    (takes, wide.below front front_fits))

-- A byte that is read is at the front.
pub byte_found :
    (whole : ℕ) (bytes : List ℕ) → IsBytes bytes
    → IfOk (byte_at whole bytes) (λ x. (bytes ≡ x.0 ∷ x.1) × IsBytes x.1)
byte_found whole [] fits = tt
byte_found whole (b ∷ bytes) fits = (refl, λ i. fits (suc i))

-- ---- spellings are read back.

-- A text at the front is read.
pub text_again : (whole : ℕ) (text rest : List ℕ) → text_at (length text) whole (text ++ rest) ≡ Ok (text, rest)
text_again whole text rest =
    let long : ltb (length (text ++ rest)) (length text) ≡ false =
    le-ltb _ _ (omega (arith, length-append text rest)) in
    rw (long, take_at text rest (length text) refl, drop_at text rest (length text) refl) refl

-- The spelling of a number that fits its width is read back.
pub number_again :
    (w : Width) (limit : ℕ) (wide : IsWide w limit) (whole n : ℕ) (rest : List ℕ) → n < limit
    → number_at w whole (to_be_bytes w n ++ rest) ≡ Ok (n, rest)
number_again w limit wide whole n rest lt =
    let len = wide.len n in
    let front = to_be_bytes w n in
    let long : ltb (length (front ++ rest)) (byte_len w) ≡ false =
    le-ltb _ _ (omega (arith, length-append front rest)) in
    rw (long, take_at front rest (byte_len w) len, drop_at front rest (byte_len w) len, wide.again n lt) refl
