-- The bytes of instructions that are read are their spelling, and a spelling is read back.
use Rattle.std.proofs.Common.{◌≡◌, ℕ, zero, suc, ◌^◌, ◌&&◌, true, eqb, List, [], ◌∷◌, ◌++◌, length, Ok, refl, sym, ap, subst, ◌∙◌, append_assoc}
use Rattle.std.specs.Prelude.{IfOk}
use Rattle.std.specs.List.{flat_map, AllByRecursion}
use Rattle.std.specs.Int.{w16, w32, w64, cast_signed, cast_unsigned}
use Rattle.std.proofs.lemmas.Bool.{eqb-true}
use Rattle.std.proofs.lemmas.Int.{to_z-of_z, of_z-to_z}
use Rattle.std.proofs.Math.Facts.{Fits-of_z, sfits_to_z, Fits-of_lt}
use Rattle.std.proofs.lemmas.List.Concat.{flat_map-cons}
use Rattle.vsi_image.specs.declared.instr.Instr.{Instr}
use Rattle.vsi_image.specs.declared.instr.Instr.TheVariants.{Push, Load, Store, Add, Sub, Mul, Eq, Lt, Jz, Jmp, Halt}
use Rattle.vsi_image.specs.Fields.{HasOpcode, instr_bytes}
use Rattle.vsi_image.specs.Reading.{place, byte_at, number_at, operand_at, instr_at, code_at}
use Rattle.vsi_image.proofs.Numbers.{IsBytes, bind_found, test_found, Takes, Takes-then, Takes-behind, Takes-none, both_true, wide16, wide32, wide64, number_found, byte_found, number_again}

-- An instruction that was read.
abbrev pub Read : ℕ → List ℕ → Instr × List ℕ → Type 0
Read version bytes x = Takes bytes (instr_bytes x.0) x.1 × HasOpcode version x.0

-- The bytes of an operand that is read, after its opcode, are its spelling.
operand_found :
    (version op at whole : ℕ) (bytes : List ℕ) → IsBytes bytes
    → IfOk (operand_at version op at whole bytes) (Read version (op ∷ bytes))
unfolding operand_at
operand_found version op at whole bytes fits =
    let Q = Read version (op ∷ bytes) in
    let at16 = number_found w16 (2 ^ 16) wide16 whole bytes fits in
    let at32 = number_found w32 (2 ^ 32) wide32 whole bytes fits in
    let at64 = number_found w64 (2 ^ 64) wide64 whole bytes fits in
    let plain : (k : ℕ) → eqb op k ≡ true → Takes (op ∷ bytes) (k ∷ []) bytes =
    λ k e. Takes-behind op k bytes [] bytes (eqb-true _ _ e) (Takes-none bytes fits) in
    test_found (eqb op 1) _ _ Q (λ e. bind_found (number_at w64 whole bytes) _ _ Q at64 (λ n t.
    let back : cast_unsigned w64 (cast_signed w64 n.0) ≡ n.0 = of_z-to_z w64 n.0 t.1 in
    (rw back (Takes-behind op 1 bytes _ _ (eqb-true _ _ e) t.0), sfits_to_z (Fits-of_lt t.1)))) (λ _.
    test_found (eqb op 2) _ _ Q (λ e. bind_found (number_at w16 whole bytes) _ _ Q at16 (λ n t.
    (Takes-behind op 2 bytes _ _ (eqb-true _ _ e) t.0, t.1))) (λ _.
    test_found (eqb op 3) _ _ Q (λ e. bind_found (number_at w16 whole bytes) _ _ Q at16 (λ n t.
    (Takes-behind op 3 bytes _ _ (eqb-true _ _ e) t.0, t.1))) (λ _.
    test_found (eqb op 4) _ _ Q (λ e. (plain 4 e, tt)) (λ _.
    test_found (eqb op 5) _ _ Q (λ e. (plain 5 e, tt)) (λ _.
    test_found (eqb op 6) _ _ Q (λ e. (plain 6 e, tt)) (λ _.
    test_found (eqb op 7) _ _ Q (λ e. (plain 7 e, tt)) (λ _.
    test_found (eqb op 8) _ _ Q (λ e. bind_found (number_at w32 whole bytes) _ _ Q at32 (λ n t.
    (Takes-behind op 8 bytes _ _ (eqb-true _ _ e) t.0, t.1))) (λ _.
    test_found (eqb op 9) _ _ Q (λ e. bind_found (number_at w32 whole bytes) _ _ Q at32 (λ n t.
    (Takes-behind op 9 bytes _ _ (eqb-true _ _ e) t.0, t.1))) (λ _.
    test_found (eqb op 10) _ _ Q (λ e. (plain 10 e, tt)) (λ _.
    test_found (eqb op 11 && eqb version 2) _ _ Q (λ e.
    let p = both_true _ _ e in
    (plain 11 p.0, eqb-true _ _ p.1)) (λ _. tt)))))))))))

-- The bytes of an instruction that is read are its spelling.
pub instr_found :
    (version whole : ℕ) (bytes : List ℕ) → IsBytes bytes
    → IfOk (instr_at version whole bytes) (Read version bytes)
unfolding instr_at
instr_found version whole bytes fits =
    bind_found (byte_at whole bytes) _ _ (Read version bytes) (byte_found whole bytes fits) (λ op t.
    let at = place whole bytes in
    subst (λ (b : List ℕ). IfOk (operand_at version op.0 at whole op.1) (Read version b)) (sym t.0)
    (operand_found version op.0 at whole op.1 t.1))

-- The spelling of an instruction is read back.
pub instr_again :
    (version whole : ℕ) (i : Instr) (rest : List ℕ) → HasOpcode version i
    → instr_at version whole (instr_bytes i ++ rest) ≡ Ok (i, rest)
unfolding instr_at operand_at
instr_again version whole (Push n) rest h =
    let f = Fits-of_z h in
    rw (number_again w64 (2 ^ 64) wide64 whole (cast_unsigned w64 n) rest f.fits, to_z-of_z w64 n h) refl
instr_again version whole (Load s) rest h = rw (number_again w16 (2 ^ 16) wide16 whole s rest h) refl
instr_again version whole (Store s) rest h = rw (number_again w16 (2 ^ 16) wide16 whole s rest h) refl
instr_again version whole Add rest h = refl
instr_again version whole Sub rest h = refl
instr_again version whole Mul rest h = rw h refl
instr_again version whole Eq rest h = refl
instr_again version whole Lt rest h = refl
instr_again version whole (Jz t) rest h = rw (number_again w32 (2 ^ 32) wide32 whole t rest h) refl
instr_again version whole (Jmp t) rest h = rw (number_again w32 (2 ^ 32) wide32 whole t rest h) refl
instr_again version whole Halt rest h = refl

-- This many instructions that were read.
pub record Codes (version n : ℕ) (bytes : List ℕ) (x : List Instr × List ℕ) : Type 0 where
  pub len : length x.0 ≡ n
  pub taken : Takes bytes (flat_map instr_bytes x.0) x.1
  pub fit : AllByRecursion (HasOpcode version) x.0

-- The bytes of instructions that are read are their spelling.
pub code_found :
    (n version whole : ℕ) (bytes : List ℕ) → IsBytes bytes
    → IfOk (code_at n version whole bytes) (Codes version n bytes)
unfolding code_at
code_found zero version whole bytes fits = record { len = refl; taken = Takes-none bytes fits; fit = tt }
code_found (suc n) version whole bytes fits =
    let Q = Codes version (suc n) bytes in
    bind_found (instr_at version whole bytes) _ (Read version bytes) Q (instr_found version whole bytes fits) (λ i t.
    bind_found (code_at n version whole i.1) _ (Codes version n i.1) Q
    (code_found n version whole i.1 t.0.rest_fits) (λ is c. record {
      len = ap suc c.len;
      taken = rw flat_map-cons (
          Takes-then bytes (instr_bytes i.0) i.1 (flat_map instr_bytes is.0) is.1 t.0 c.taken);
      fit = (t.1, c.fit);
    }))

-- The spelling of instructions is read back.
pub code_again :
    (version whole : ℕ) (is : List Instr) (rest : List ℕ) → AllByRecursion (HasOpcode version) is
    → code_at (length is) version whole (flat_map instr_bytes is ++ rest) ≡ Ok (is, rest)
unfolding code_at
code_again version whole [] rest h = refl
code_again version whole (i ∷ is) rest h =
    let behind = flat_map instr_bytes is ++ rest in
    let regrouped : flat_map instr_bytes (i ∷ is) ++ rest ≡ instr_bytes i ++ behind =
    ap (λ (x : List ℕ). x ++ rest) (flat_map-cons instr_bytes i is)
    ∙ append_assoc (instr_bytes i) (flat_map instr_bytes is) rest in
    ap (code_at (suc (length is)) version whole) regrouped
    ∙ rw (instr_again version whole i behind h.0, code_again version whole is rest h.1) refl
