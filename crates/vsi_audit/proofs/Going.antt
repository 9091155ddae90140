-- The code after an expression, case by case.
use Rattle.std.proofs.Common.{◌≡◌, ℕ, ◌+◌, ◌-◌, ◌<◌, ◌≤◌, List, Option, Some, None, slice_get, refl, sym, ap, subst, ◌∙◌, arith, ◌⊎◌, inl, inr}
use Rattle.vsi_image.specs.declared.instr.Instr.{Instr}
use Rattle.vsi_image.specs.declared.instr.Instr.TheVariants.{Store, Jz, Jmp}
use Rattle.vsi_audit.specs.Reading.{Readable, nothing, more, Goes, assign, letvar, choice, loop, Leaves}
use Rattle.vsi_audit.proofs.Found.{one_at}

-- A store to a slot in scope is an assignment.
pub goes_assign : (code : List Instr) (limit from stop to scope blocks n slot : ℕ) →
    Goes code limit from stop to scope blocks n → slice_get code stop ≡ Some (Store slot) → slot < scope →
    Leaves code limit (stop + 1) to scope blocks n 0
goes_assign code limit from stop to scope blocks n slot (assign l m at lt rest le) here low =
    record { m = m; rest = rest; few = omega (arith, le) }
goes_assign code limit from stop to scope blocks n slot (letvar m at lt rest le) here low =
    let e : Store scope ≡ Store slot = one_at code stop stop (Store scope) (Store slot) at here refl in
    let same : scope ≡ slot = cc in
    absurd (omega (arith, same, low))
goes_assign code limit from stop to scope blocks n slot (choice jump join a b m at there on room branch other rest le) here low =
    let e : Jz (jump + 1) ≡ Store slot = one_at code stop stop (Jz (jump + 1)) (Store slot) at here refl in
    absurd cc
goes_assign code limit from stop to scope blocks n slot (loop jump a m at there room body rest le) here low =
    let e : Jz (jump + 1) ≡ Store slot = one_at code stop stop (Jz (jump + 1)) (Store slot) at here refl in
    absurd cc

-- After a store to the next slot the commands can be read back with that slot in scope.
pub goes_letvar : (code : List Instr) (limit from stop to scope blocks n : ℕ) →
    Goes code limit from stop to scope blocks n → slice_get code stop ≡ Some (Store scope) →
    (m : ℕ) × Readable code limit (stop + 1) to (scope + 1) blocks m × (m < n)
goes_letvar code limit from stop to scope blocks n (assign l m at lt rest le) here =
    let e : Store l ≡ Store scope = one_at code stop stop (Store l) (Store scope) at here refl in
    let same : l ≡ scope = cc in
    absurd (omega (arith, same, lt))
goes_letvar code limit from stop to scope blocks n (letvar m at lt rest le) here = (m, rest, le)
goes_letvar code limit from stop to scope blocks n (choice jump join a b m at there on room branch other rest le) here =
    let e : Jz (jump + 1) ≡ Store scope = one_at code stop stop (Jz (jump + 1)) (Store scope) at here refl in
    absurd cc
goes_letvar code limit from stop to scope blocks n (loop jump a m at there room body rest le) here =
    let e : Jz (jump + 1) ≡ Store scope = one_at code stop stop (Jz (jump + 1)) (Store scope) at here refl in
    absurd cc

-- A store is to a slot in scope, or to the next one, which is below the limit.
pub goes_store : (code : List Instr) (limit from stop to scope blocks n slot : ℕ) →
    Goes code limit from stop to scope blocks n → slice_get code stop ≡ Some (Store slot) →
    (slot < scope → ⊥) → (slot ≡ scope → scope < limit → ⊥) → ⊥
goes_store code limit from stop to scope blocks n slot (assign l m at lt rest le) here low next =
    let e : Store l ≡ Store slot = one_at code stop stop (Store l) (Store slot) at here refl in
    let same : l ≡ slot = cc in
    low (omega (arith, same, lt))
goes_store code limit from stop to scope blocks n slot (letvar m at lt rest le) here low next =
    let e : Store scope ≡ Store slot = one_at code stop stop (Store scope) (Store slot) at here refl in
    let same : slot ≡ scope = cc in
    next same lt
goes_store code limit from stop to scope blocks n slot (choice jump join a b m at there on room branch other rest le) here low next =
    let e : Jz (jump + 1) ≡ Store slot = one_at code stop stop (Jz (jump + 1)) (Store slot) at here refl in
    absurd cc
goes_store code limit from stop to scope blocks n slot (loop jump a m at there room body rest le) here low next =
    let e : Jz (jump + 1) ≡ Store slot = one_at code stop stop (Jz (jump + 1)) (Store slot) at here refl in
    absurd cc

-- A jump on 0 leads to the place after a jump.
pub goes_jump : (code : List Instr) (limit from stop to scope blocks n target : ℕ) →
    Goes code limit from stop to scope blocks n → slice_get code stop ≡ Some (Jz target) →
    ((jump join : ℕ) → target ≡ jump + 1 → slice_get code jump ≡ Some (Jmp join) → 0 < blocks → ⊥) → ⊥
goes_jump code limit from stop to scope blocks n target (assign l m at lt rest le) here never =
    let e : Store l ≡ Jz target = one_at code stop stop (Store l) (Jz target) at here refl in
    absurd cc
goes_jump code limit from stop to scope blocks n target (letvar m at lt rest le) here never =
    let e : Store scope ≡ Jz target = one_at code stop stop (Store scope) (Jz target) at here refl in
    absurd cc
goes_jump code limit from stop to scope blocks n target (choice jump join a b m at there on room branch other rest le) here never =
    let e : Jz target ≡ Jz (jump + 1) = one_at code stop stop (Jz target) (Jz (jump + 1)) here at refl in
    let same : target ≡ jump + 1 = cc in
    never jump join same there room
goes_jump code limit from stop to scope blocks n target (loop jump a m at there room body rest le) here never =
    let e : Jz target ≡ Jz (jump + 1) = one_at code stop stop (Jz target) (Jz (jump + 1)) here at refl in
    let same : target ≡ jump + 1 = cc in
    never jump from same there room

-- After an expression comes a store or a jump on 0.
pub goes_end : (code : List Instr) (limit from stop to scope blocks n : ℕ) (x : Option Instr) →
    Goes code limit from stop to scope blocks n → slice_get code stop ≡ x → ((l : ℕ) → x ≡ Some (Store l) → ⊥) →
    ((t : ℕ) → x ≡ Some (Jz t) → ⊥) → ⊥
goes_end code limit from stop to scope blocks n x (assign l m at lt rest le) here store jz = store l (sym here ∙ at)
goes_end code limit from stop to scope blocks n x (letvar m at lt rest le) here store jz = store scope (sym here ∙ at)
goes_end code limit from stop to scope blocks n x (choice jump join a b m at there on room branch other rest le) here store jz =
    jz (jump + 1) (sym here ∙ at)
goes_end code limit from stop to scope blocks n x (loop jump a m at there room body rest le) here store jz =
    jz (jump + 1) (sym here ∙ at)

-- The second branch of a choice and what follows it.
pub record Second (code : List Instr) (limit jump join to scope blocks n a : ℕ) : Type 0 where
  pub b : ℕ
  pub m : ℕ
  pub branch : Readable code limit (jump + 1) join scope (blocks - 1) b
  pub rest : Readable code limit join to scope blocks m
  pub few : a + b + m ≤ n

-- A part can be read back, and so can what follows it.
pub record Part (code : List Instr) (limit from stop jump join to scope blocks n : ℕ) : Type 0 where
  pub a : ℕ
  pub first : Readable code limit (stop + 1) jump scope (blocks - 1) a
  pub again : join ≡ from → Leaves code limit (jump + 1) to scope blocks n a
  pub second : (join ≡ from → ⊥) → Second code limit jump join to scope blocks n a

-- A jump on 0 and the jump before its target begin and end a part.
pub goes_part : (code : List Instr) (limit from stop to scope blocks n jump join : ℕ) →
    Goes code limit from stop to scope blocks n → slice_get code stop ≡ Some (Jz (jump + 1)) →
    slice_get code jump ≡ Some (Jmp join) → Part code limit from stop jump join to scope blocks n
goes_part code limit from stop to scope blocks n jump join (assign l m at lt rest le) here there =
    let e : Store l ≡ Jz (jump + 1) = one_at code stop stop (Store l) (Jz (jump + 1)) at here refl in
    absurd cc
goes_part code limit from stop to scope blocks n jump join (letvar m at lt rest le) here there =
    let e : Store scope ≡ Jz (jump + 1) = one_at code stop stop (Store scope) (Jz (jump + 1)) at here refl in
    absurd cc
goes_part code limit from stop to scope blocks n jump join (choice j k a b m at on ahead room branch other rest le) here there =
    let e : Jz (j + 1) ≡ Jz (jump + 1) = one_at code stop stop (Jz (j + 1)) (Jz (jump + 1)) at here refl in
    let next : j + 1 ≡ jump + 1 = cc in
    let same : j ≡ jump = omega (arith, next) in
    let f : Jmp k ≡ Jmp join = one_at code j jump (Jmp k) (Jmp join) on there same in
    let end : k ≡ join = cc in
    record {
      a = a;
      first = subst (λ p. Readable code limit (stop + 1) p scope (blocks - 1) a) same branch;
      again = λ back. absurd (omega (arith, back, end, ahead));
      second = λ differ. record {
        b = b;
        m = m;
        branch = subst (λ p. Readable code limit (p + 1) join scope (blocks - 1) b) same
            (subst (λ p. Readable code limit (j + 1) p scope (blocks - 1) b) end other);
        rest = subst (λ p. Readable code limit p to scope blocks m) end rest;
        few = le;
      };
    }
goes_part code limit from stop to scope blocks n jump join (loop j a m at on room body rest le) here there =
    let e : Jz (j + 1) ≡ Jz (jump + 1) = one_at code stop stop (Jz (j + 1)) (Jz (jump + 1)) at here refl in
    let next : j + 1 ≡ jump + 1 = cc in
    let same : j ≡ jump = omega (arith, next) in
    let f : Jmp from ≡ Jmp join = one_at code j jump (Jmp from) (Jmp join) on there same in
    let end : join ≡ from = cc in
    record {
      a = a;
      first = subst (λ p. Readable code limit (stop + 1) p scope (blocks - 1) a) same body;
      again = λ back. record {
        m = m;
        rest = subst (λ p. Readable code limit (p + 1) to scope blocks m) same rest;
        few = le;
      };
      second = λ differ. absurd (differ end);
    }
