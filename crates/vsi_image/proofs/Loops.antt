-- Reading one element after another, as a loop does.
use Rattle.std.proofs.Common.{◌≡◌, ℕ, suc, ◌-◌, ◌+◌, ◌≤◌, ◌<◌, List, [], ◌∷◌, ◌++◌, Ok, Err, refl, ap, sym, append_assoc, arith}
use Rattle.std.proofs.lemmas.List.{append-nil}
use Rattle.vsi_image.specs.declared.instr.Instr.{Instr}
use Rattle.vsi_image.specs.declared.decoder.DecodeError.{DecodeError}
use Rattle.vsi_image.specs.Fields.{Global}
use Rattle.vsi_image.specs.Reading.{◌>>=◌, Field, instr_at, code_at, global_at, globals_at}

-- The elements read before, followed by those read now.
abbrev pub behind : {A : Type 0} → List A → Field (List A) → Field (List A)
behind before read = read >>= λ x. Ok (before ++ x.0, x.1)

-- With no elements before, the result is unchanged.
pub behind-none : {A : Type 0} (read : Field (List A)) → behind [] read ≡ read
behind-none (Ok x) = refl
behind-none (Err e) = refl

-- The first element that is read joins those read before.
pub behind-joins :
    {A : Type 0} (before : List A) (x : A) (read : Field (List A))
    → behind before (read >>= λ xs. Ok (x ∷ xs.0, xs.1)) ≡ behind (before ++ x ∷ []) read
behind-joins before x (Ok xs) = ap (λ l. Ok (l, xs.1)) (sym (append_assoc before (x ∷ []) xs.0))
behind-joins before x (Err e) = refl

-- An instruction that is read joins those before.
pub code-goes_on :
    (count i version whole : ℕ) (before : List Instr) (bytes : List ℕ) (x : Instr) (after : List ℕ) → i < count
    → instr_at version whole bytes ≡ Ok (x, after)
    → behind before (code_at (count - i) version whole bytes)
    ≡ behind (before ++ x ∷ []) (code_at (count - (i + 1)) version whole after)
unfolding code_at
code-goes_on count i version whole before bytes x after lt h =
    let k : count - i ≡ suc (count - (i + 1)) = omega arith in
    rw (k, h) (behind-joins before x (code_at (count - (i + 1)) version whole after))

-- An instruction that is refused ends the code.
pub code-fails :
    (count i version whole : ℕ) (before : List Instr) (bytes : List ℕ) (e : DecodeError) → i < count
    → instr_at version whole bytes ≡ Err e
    → behind before (code_at (count - i) version whole bytes) ≡ Err e
unfolding code_at
code-fails count i version whole before bytes e lt h =
    let k : count - i ≡ suc (count - (i + 1)) = omega arith in
    rw (k, h) refl

-- When all instructions are read, they are the code.
pub code-ends :
    (count i version whole : ℕ) (before : List Instr) (bytes : List ℕ) → count ≤ i
    → behind before (code_at (count - i) version whole bytes) ≡ Ok (before, bytes)
unfolding code_at
code-ends count i version whole before bytes le =
    let k : count - i ≡ 0 = omega arith in
    rw k (ap (λ l. Ok (l, bytes)) (append-nil before))

-- A global that is read joins those before.
pub globals-go_on :
    (count i whole : ℕ) (before : List Global) (bytes : List ℕ) (x : Global) (after : List ℕ) → i < count
    → global_at before whole bytes ≡ Ok (x, after)
    → behind before (globals_at (count - i) before whole bytes)
    ≡ behind (before ++ x ∷ []) (globals_at (count - (i + 1)) (before ++ x ∷ []) whole after)
unfolding globals_at
globals-go_on count i whole before bytes x after lt h =
    let k : count - i ≡ suc (count - (i + 1)) = omega arith in
    rw (k, h) (behind-joins before x (globals_at (count - (i + 1)) (before ++ x ∷ []) whole after))

-- A global that is refused ends the globals.
pub globals-fail :
    (count i whole : ℕ) (before : List Global) (bytes : List ℕ) (e : DecodeError) → i < count
    → global_at before whole bytes ≡ Err e
    → behind before (globals_at (count - i) before whole bytes) ≡ Err e
unfolding globals_at
globals-fail count i whole before bytes e lt h =
    let k : count - i ≡ suc (count - (i + 1)) = omega arith in
    rw (k, h) refl

-- When all globals are read, they are all the globals.
pub globals-end :
    (count i whole : ℕ) (before : List Global) (bytes : List ℕ) → count ≤ i
    → behind before (globals_at (count - i) before whole bytes) ≡ Ok (before, bytes)
unfolding globals_at
globals-end count i whole before bytes le =
    let k : count - i ≡ 0 = omega arith in
    rw k (ap (λ l. Ok (l, bytes)) (append-nil before))
