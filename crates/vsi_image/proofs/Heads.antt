-- The bytes of a head that is read are its spelling, and a spelling is read back.
use Rattle.std.proofs.Common.{◌≡◌, ℕ, ◌^◌, ◌<◌, ◌≤◌, true, eqb, List, [], ◌∷◌, ◌++◌, Ok, refl, ap, subst, ◌∙◌, append_assoc, arith, nat_le, bytes_eq}
use Rattle.std.specs.Prelude.{IfOk}
use Rattle.std.specs.Int.{Width, w16, w32, to_be_bytes}
use Rattle.std.proofs.lemmas.Bool.{eqb-true}
use Rattle.std.proofs.lemmas.Bool.Decides.{nat_tests}
use Rattle.vsi_image.specs.Fields.{head_bytes}
use Rattle.vsi_image.specs.Reading.{Head, place, byte_at, text_at, number_at, is_within, field_at, magic_at, version_at, head_at}
use Rattle.vsi_image.proofs.Numbers.{IsBytes, bind_found, test_found, allowed_found, both_true, Takes, Takes-then, IsWide, wide16, wide32, number_found, text_found, byte_found, number_again, text_again}

-- A number that was read, within its bounds.
pub record Bounded (w : Width) (low high : ℕ) (bytes : List ℕ) (x : ℕ × List ℕ) : Type 0 where
  pub taken : Takes bytes (to_be_bytes w x.0) x.1
  pub above : low ≤ x.0
  pub below : x.0 ≤ high

-- A number that passed the test is within its bounds.
bounds : (low high n : ℕ) → is_within low high n ≡ true → (low ≤ n) × (n ≤ high)
bounds low high n h =
    let p = both_true (nat_le low n) (nat_le n high) h in
    let a = p.0 in
    let b = p.1 in
    (grind (arith, nat_tests, a), grind (arith, nat_tests, b))

-- A number within its bounds passes the test.
is_bounded : (low high n : ℕ) → low ≤ n → n ≤ high → is_within low high n ≡ true
is_bounded low high n a b =
    let p : nat_le low n ≡ true = grind (arith, nat_tests, a) in
    let q : nat_le n high ≡ true = grind (arith, nat_tests, b) in
    rw (p, q) refl

-- The bytes of a number that is read are its spelling, and it is within its bounds.
field_found :
    (w : Width) (limit : ℕ) (wide : IsWide w limit) (low high whole : ℕ) (bytes : List ℕ) → IsBytes bytes
    → IfOk (field_at w low high whole bytes) (Bounded w low high bytes)
unfolding field_at
field_found w limit wide low high whole bytes fits =
    let Q = Bounded w low high bytes in
    bind_found (number_at w whole bytes) _ _ Q (number_found w limit wide whole bytes fits) (λ n t.
    allowed_found (is_within low high n.0) (place whole bytes) n Q (λ h.
    let p = bounds low high n.0 h in
    record { taken = t.0; above = p.0; below = p.1 }))

-- The spelling of a number within its bounds is read back.
field_again :
    (w : Width) (limit : ℕ) (wide : IsWide w limit) (low high whole n : ℕ) (rest : List ℕ)
    → n < limit → low ≤ n → n ≤ high
    → field_at w low high whole (to_be_bytes w n ++ rest) ≡ Ok (n, rest)
unfolding field_at
field_again w limit wide low high whole n rest lt a b =
    rw (number_again w limit wide whole n rest lt, is_bounded low high n a b) refl

-- Texts that compare as equal are equal.
same_bytes : (xs ys : List ℕ) → bytes_eq xs ys ≡ true → xs ≡ ys
same_bytes [] [] h = refl
same_bytes [] (y ∷ ys) h = absurd cc
same_bytes (x ∷ xs) [] h = absurd cc
same_bytes (x ∷ xs) (y ∷ ys) h =
    let p = both_true (eqb x y) (bytes_eq xs ys) h in
    ap (λ (n : ℕ). n ∷ xs) (eqb-true x y p.0) ∙ ap (λ (zs : List ℕ). y ∷ zs) (same_bytes xs ys p.1)

-- The magic bytes.
abbrev magic : List ℕ
magic = 86 ∷ 83 ∷ 73 ∷ []

-- If the magic bytes are read, they are at the front.
magic_found :
    (whole : ℕ) (bytes : List ℕ) → IsBytes bytes
    → IfOk (magic_at whole bytes) (λ x. Takes bytes magic x.1)
unfolding magic_at
magic_found whole bytes fits =
    let Q : List ℕ × List ℕ → Type 0 = λ x. Takes bytes magic x.1 in
    bind_found (text_at 3 whole bytes) _ _ Q (text_found 3 whole bytes fits) (λ m t.
    test_found (bytes_eq m.0 magic) _ _ Q (λ e.
    let is : m.0 ≡ magic = same_bytes m.0 magic e in
    subst (λ (b : List ℕ). Takes bytes b m.1) is t.0) (λ _. tt))

-- A version that was read.
pub record Versioned (bytes : List ℕ) (x : ℕ × List ℕ) : Type 0 where
  pub taken : Takes bytes (x.0 ∷ []) x.1
  pub low : 1 ≤ x.0
  pub high : x.0 ≤ 2

-- A version that is read is at the front, and is 1 or 2.
version_found : (whole : ℕ) (bytes : List ℕ) → IsBytes bytes → IfOk (version_at whole bytes) (Versioned bytes)
unfolding version_at
version_found whole bytes fits =
    bind_found (byte_at whole bytes) _ _ (Versioned bytes) (byte_found whole bytes fits) (λ n t.
    test_found (is_within 1 2 n.0) _ _ (Versioned bytes) (λ e.
    let p = bounds 1 2 n.0 e in
    record { taken = record { parts = t.0; rest_fits = t.1 }; low = p.0; high = p.1 }) (λ _. tt))

-- The numbers of a head are within their bounds.
pub record HeadFits (h : Head) : Type 0 where
  pub low : 1 ≤ h.version
  pub high : h.version ≤ 2
  pub globals : h.globals ≤ 256
  pub above : h.globals ≤ h.slots
  pub slots : h.slots ≤ 512
  pub stack : h.stack ≤ 256
  pub count : h.count ≤ 65535

-- A head that was read.
pub record Headed (bytes : List ℕ) (x : Head × List ℕ) : Type 0 where
  pub taken : Takes bytes (head_bytes x.0.version x.0.globals x.0.slots x.0.stack x.0.count) x.1
  pub fits : HeadFits x.0

-- The bytes of a head that is read are its spelling, and its numbers are within their bounds.
pub head_found : (whole : ℕ) (bytes : List ℕ) → IsBytes bytes → IfOk (head_at whole bytes) (Headed bytes)
unfolding head_at
head_found whole bytes fits =
    let Q = Headed bytes in
    let at16 = field_found w16 (2 ^ 16) wide16 in
    bind_found (magic_at whole bytes) _ _ Q (magic_found whole bytes fits) (λ m tm.
    bind_found (version_at whole m.1) _ _ Q (version_found whole m.1 tm.rest_fits) (λ v tv.
    bind_found (field_at w16 0 256 whole v.1) _ _ Q (at16 0 256 whole v.1 tv.taken.rest_fits) (λ g tg.
    bind_found (field_at w16 g.0 512 whole g.1) _ _ Q (at16 g.0 512 whole g.1 tg.taken.rest_fits) (λ s ts.
    bind_found (field_at w16 0 256 whole s.1) _ _ Q (at16 0 256 whole s.1 ts.taken.rest_fits) (λ k tk.
    bind_found (field_at w32 0 65535 whole k.1) _ _ Q
    (field_found w32 (2 ^ 32) wide32 0 65535 whole k.1 tk.taken.rest_fits) (λ c tc.
    let C = to_be_bytes w32 c.0 in
    let K = to_be_bytes w16 k.0 ++ C in
    let S = to_be_bytes w16 s.0 ++ K in
    let G = to_be_bytes w16 g.0 ++ S in
    let stack = Takes-then s.1 (to_be_bytes w16 k.0) k.1 C c.1 tk.taken tc.taken in
    let slots = Takes-then g.1 (to_be_bytes w16 s.0) s.1 K c.1 ts.taken stack in
    let globals = Takes-then v.1 (to_be_bytes w16 g.0) g.1 S c.1 tg.taken slots in
    let version = Takes-then m.1 (v.0 ∷ []) v.1 G c.1 tv.taken globals in
    record {
      taken = Takes-then bytes magic m.1 (v.0 ∷ G) c.1 tm version;
      fits = record {
        low = tv.low;
        high = tv.high;
        globals = tg.below;
        above = ts.above;
        slots = ts.below;
        stack = tk.below;
        count = tc.below;
      };
    }))))))

-- The magic bytes are read.
magic_again : (whole : ℕ) (rest : List ℕ) → magic_at whole (86 ∷ 83 ∷ 73 ∷ rest) ≡ Ok (86 ∷ 83 ∷ 73 ∷ [], rest)
unfolding magic_at
magic_again whole rest = rw (text_again whole (86 ∷ 83 ∷ 73 ∷ []) rest) refl

-- Version 1 or 2 is read.
version_again :
    (whole version : ℕ) (rest : List ℕ) → 1 ≤ version → version ≤ 2
    → version_at whole (version ∷ rest) ≡ Ok (version, rest)
unfolding version_at
version_again whole version rest low high =
    let p : nat_le 1 version ≡ true = grind (arith, nat_tests, low) in
    let q : nat_le version 2 ≡ true = grind (arith, nat_tests, high) in
    rw (p, q) refl

-- The spelling of a head whose numbers are within their bounds is read back.
pub head_again :
    (whole : ℕ) (h : Head) (rest : List ℕ) → HeadFits h
    → head_at whole (head_bytes h.version h.globals h.slots h.stack h.count ++ rest) ≡ Ok (h, rest)
unfolding head_at
head_again whole h rest f =
    let G = to_be_bytes w16 h.globals in
    let S = to_be_bytes w16 h.slots in
    let K = to_be_bytes w16 h.stack in
    let C = to_be_bytes w32 h.count in
    let p0 = f.low in
    let p1 = f.high in
    let p2 = f.globals in
    let p3 = f.slots in
    let p4 = f.stack in
    let p5 = f.count in
    let at16 = field_again w16 (2 ^ 16) wide16 in
    let regrouped : (G ++ S ++ K ++ C) ++ rest ≡ G ++ (S ++ (K ++ (C ++ rest))) =
    append_assoc G (S ++ K ++ C) rest
    ∙ ap (λ (x : List ℕ). G ++ x) (append_assoc S (K ++ C) rest)
    ∙ ap (λ (x : List ℕ). G ++ (S ++ x)) (append_assoc K C rest) in
    ap (λ (x : List ℕ). head_at whole (86 ∷ 83 ∷ 73 ∷ h.version ∷ x)) regrouped
    ∙ rw (
      magic_again whole (h.version ∷ (G ++ (S ++ (K ++ (C ++ rest))))),
      version_again whole h.version (G ++ (S ++ (K ++ (C ++ rest)))) p0 p1,
      at16 0 256 whole h.globals (S ++ (K ++ (C ++ rest))) (omega arith) (omega arith) p2,
      at16 h.globals 512 whole h.slots (K ++ (C ++ rest)) (omega arith) f.above p3,
      at16 0 256 whole h.stack (C ++ rest) (omega arith) (omega arith) p4,
      field_again w32 (2 ^ 32) wide32 0 65535 whole h.count rest (omega arith) (omega arith) p5,
    ) refl
