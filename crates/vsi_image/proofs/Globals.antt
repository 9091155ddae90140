-- The bytes of globals that are read are their spelling, and a spelling is read back.
use Rattle.std.proofs.Common.{◌≡◌, ℕ, zero, suc, ◌≤◌, ◌&&◌, Bool, true, false, List, [], ◌∷◌, ◌++◌, length, Ok, refl, sym, ap, ◌∙◌, append_assoc, arith, nat_le, if◌then◌else◌}
use Rattle.std.specs.Prelude.{IfOk}
use Rattle.std.specs.List.{flat_map}
use Rattle.std.proofs.lemmas.Bool.Decides.{nat_tests}
use Rattle.std.proofs.lemmas.List.Concat.{flat_map-cons}
use Rattle.vsi_syntax.specs.Words.{is_letter, is_word_byte, every, keyword, is_absent, is_name}
use Rattle.vsi_image.specs.Fields.{Global, is_taken, IsGlobal, AreGlobals, string, global_bytes}
use Rattle.vsi_image.specs.Reading.{place, byte_at, text_at, allowed, is_within, name_at, global_at, globals_at}
use Rattle.vsi_image.proofs.Numbers.{IsBytes, bind_found, allowed_found, both_true, Takes, Takes-then, Takes-none, text_found, byte_found, text_again}

-- A name has 1 to 32 bytes.
pub name_short : (name : List ℕ) → is_name name ≡ true → (1 ≤ length name) × (length name ≤ 32)
unfolding is_name
name_short [] h = absurd cc
name_short (b ∷ bs) h =
    let letters = is_letter b && every is_word_byte (b ∷ bs) in
    let p = both_true (letters && nat_le (length (b ∷ bs)) 32) (is_absent (keyword (b ∷ bs))) h in
    let q = (both_true letters (nat_le (length (b ∷ bs)) 32) p.0).1 in
    (omega arith, grind (arith, nat_tests, q))

-- A test that is not true is false.
not_true : (b : Bool) → (if b then false else true) ≡ true → b ≡ false
not_true true h = absurd cc
not_true false h = refl

-- A name that was read after these globals.
abbrev pub Named : List Global → List ℕ → List ℕ × List ℕ → Type 0
Named before bytes x = Takes bytes (string x.0) x.1 × (is_name x.0 ≡ true) × (is_taken before x.0 ≡ false)

-- The bytes of a name that is read are its spelling, and it differs from those before it.
pub name_found :
    (before : List Global) (whole : ℕ) (bytes : List ℕ) → IsBytes bytes
    → IfOk (name_at before whole bytes) (Named before bytes)
unfolding name_at
name_found before whole bytes fits =
    let Q = Named before bytes in
    bind_found (byte_at whole bytes) _ _ Q (byte_found whole bytes fits) (λ n t.
    let short = is_within 1 32 n.0 in
    let is_n : IfOk (allowed short (place whole bytes) n) (λ m. m ≡ n) =
    allowed_found short (place whole bytes) n (λ m. m ≡ n) (λ _. refl) in
    bind_found (allowed short (place whole bytes) n) _ (λ m. m ≡ n) Q is_n (λ m e. rw e (
    bind_found (text_at n.0 whole n.1) _ _ Q (text_found n.0 whole n.1 t.1) (λ name u.
    let free = if is_taken before name.0 then false else true in
    allowed_found (is_name name.0 && free) (place whole n.1) name Q (λ h.
    let p = both_true (is_name name.0) free h in
    let length_first = t.0 ∙ ap (λ (k : ℕ). k ∷ n.1) (sym u.1) in
    let parts = length_first ∙ ap (λ (b : List ℕ). length name.0 ∷ b) u.0.parts in
    (record { parts = parts; rest_fits = u.0.rest_fits }, p.0, not_true (is_taken before name.0) p.1))))))

-- The spelling of a name that differs from those before it is read back.
pub name_again :
    (before : List Global) (whole : ℕ) (name rest : List ℕ) → is_name name ≡ true → is_taken before name ≡ false
    → name_at before whole (string name ++ rest) ≡ Ok (name, rest)
unfolding name_at
name_again before whole name rest h free =
    let s = name_short name h in
    let low : nat_le 1 (length name) ≡ true = let l = s.0 in grind (arith, nat_tests, l) in
    let high : nat_le (length name) 32 ≡ true = let l = s.1 in grind (arith, nat_tests, l) in
    rw (low, high, text_again whole name rest, h, free) refl

-- A global that was read after these.
pub record Reads (before : List Global) (bytes : List ℕ) (x : Global × List ℕ) : Type 0 where
  pub taken : Takes bytes (global_bytes x.0) x.1
  pub fits : IsGlobal before x.0

-- The bytes of a global that is read are its spelling.
pub global_found :
    (before : List Global) (whole : ℕ) (bytes : List ℕ) → IsBytes bytes
    → IfOk (global_at before whole bytes) (Reads before bytes)
unfolding global_at
global_found before whole bytes fits =
    let Q = Reads before bytes in
    bind_found (name_at before whole bytes) _ _ Q (name_found before whole bytes fits) (λ name t.
    bind_found (name_at [] whole name.1) _ _ Q (name_found [] whole name.1 t.0.rest_fits) (λ class u. record {
      taken = Takes-then bytes (string name.0) name.1 (string class.0) class.1 t.0 u.0;
      fits = record { name = t.1; unlike = t.2; class = u.1 };
    }))

-- The spelling of a global is read back.
pub global_again :
    (before : List Global) (whole : ℕ) (g : Global) (rest : List ℕ) → IsGlobal before g
    → global_at before whole (global_bytes g ++ rest) ≡ Ok (g, rest)
unfolding global_at
global_again before whole g rest h =
    let class = string g.1 ++ rest in
    ap (global_at before whole) (append_assoc (string g.0) (string g.1) rest)
    ∙ rw (name_again before whole g.0 class h.name h.unlike, name_again [] whole g.1 rest h.class refl) refl

-- This many globals that were read after these.
pub record AllRead (n : ℕ) (before : List Global) (bytes : List ℕ) (x : List Global × List ℕ) : Type 0 where
  pub len : length x.0 ≡ n
  pub taken : Takes bytes (flat_map global_bytes x.0) x.1
  pub fit : AreGlobals before x.0

-- The bytes of globals that are read are their spelling.
pub globals_found :
    (n whole : ℕ) (before : List Global) (bytes : List ℕ) → IsBytes bytes
    → IfOk (globals_at n before whole bytes) (AllRead n before bytes)
unfolding globals_at
globals_found zero whole before bytes fits = record { len = refl; taken = Takes-none bytes fits; fit = tt }
globals_found (suc n) whole before bytes fits =
    let Q = AllRead (suc n) before bytes in
    bind_found (global_at before whole bytes) _ (Reads before bytes) Q (global_found before whole bytes fits) (λ g t.
    let behind = before ++ g.0 ∷ [] in
    bind_found (globals_at n behind whole g.1) _ (AllRead n behind g.1) Q
    (globals_found n whole behind g.1 t.taken.rest_fits) (λ gs c. record {
      len = ap suc c.len;
      taken = rw flat_map-cons (
          Takes-then bytes (global_bytes g.0) g.1 (flat_map global_bytes gs.0) gs.1 t.taken c.taken);
      fit = (t.fits, c.fit);
    }))

-- The spelling of globals is read back.
pub globals_again :
    (whole : ℕ) (gs before : List Global) (rest : List ℕ) → AreGlobals before gs
    → globals_at (length gs) before whole (flat_map global_bytes gs ++ rest) ≡ Ok (gs, rest)
unfolding globals_at
globals_again whole [] before rest h = refl
globals_again whole (g ∷ gs) before rest h =
    let behind = flat_map global_bytes gs ++ rest in
    let regrouped : flat_map global_bytes (g ∷ gs) ++ rest ≡ global_bytes g ++ behind =
    ap (λ (x : List ℕ). x ++ rest) (flat_map-cons global_bytes g gs)
    ∙ append_assoc (global_bytes g) (flat_map global_bytes gs) rest in
    ap (globals_at (suc (length gs)) before whole) regrouped
    ∙ rw (global_again before whole g behind h.0, globals_again whole gs (before ++ g ∷ []) rest h.1) refl
