-- The code of commands can be read back.
use Rattle.std.proofs.Common.{◌≡◌, ℕ, zero, suc, ◌+◌, ◌-◌, ◌<◌, ◌≤◌, max, List, [], ◌∷◌, ◌++◌, length, Option, Some, None, Bool, true, false, true≢false, slice_get, refl, sym, ap, subst, ◌∙◌, arith, ◌⊎◌, inl, inr}
use Rattle.std.proofs.lemmas.Bool.{cases_lt, cases_order}
use Rattle.vsi_image.specs.declared.instr.Instr.{Instr}
use Rattle.vsi_image.specs.declared.instr.Instr.TheVariants.{Push, Load, Store, Jz, Jmp, Halt}
use Rattle.vsi_syntax.specs.declared.tree.Op.{Op}
use Rattle.vsi_syntax.specs.declared.tree.Op.TheVariants as o
use Rattle.vsi_scope.specs.Language.{Expression, Number, Location, Operator, Command, Skip, Assign, Sequence, If, While, Letvar, HasLocations, HasPlaces, expression_size, expression_depth, size, depth, letvars}
use Rattle.vsi_code.specs.Layout.{op_code, expression_code, code_at}
use Rattle.vsi_code.proofs.Placed.{HasAt, has_front, has_back, expression_long, command_long}
use Rattle.vsi_audit.specs.Reading.{is_operand, IsValue, number, location, operator, IsStop, Readable, nothing, more, Begins, begins, Goes, assign, letvar, choice, loop}

-- An expression's code can be read back.
pub value_readable : (e : Expression) (code : List Instr) (k scope start room : ℕ) →
    HasAt code start (expression_code e) → HasLocations k e → k ≤ scope → expression_depth e ≤ room →
    IsValue code scope start (start + expression_size e) room
value_readable (Number n) code k scope start room at places le deep = number n at.0 refl
value_readable (Location l s) code k scope start room at places le deep =
    location l at.0 (omega (arith, places, le)) refl
value_readable (Operator op a b) code k scope start room at places le deep =
    let middle = start + expression_size a in
    let last = middle + expression_size b in
    let back = has_back code start (expression_code a) (expression_code b ++ op_code op ∷ []) (expression_size a)
    (expression_long a) at in
    let tail = has_back code middle (expression_code b) (op_code op ∷ []) (expression_size b) (expression_long b) back in
    operator op middle last (room - 1)
    (value_readable a code k scope start (room - 1) (has_front code start (expression_code a) _ at) places.0 le
    (omega (arith, deep)))
    (value_readable b code k scope middle (room - 1) (has_front code middle (expression_code b) _ back) places.1 le
    (omega (arith, deep)))
    tail.0 (omega arith) (omega (arith, deep))

-- An expression has at least one instruction.
pub value_starts : (code : List Instr) (scope start end room : ℕ) → IsValue code scope start end room → start < end
value_starts code scope start end room (number n at is) = omega (arith, is)
value_starts code scope start end room (location l at lt is) = omega (arith, is)
value_starts code scope start end room (operator op middle last below a b at is up) =
    omega (arith, value_starts code scope start middle below a, value_starts code scope middle last below b, is)

-- The instruction of an operator makes an operand.
operator_operand : (op : Op) → is_operand (Some (op_code op)) ≡ true
operator_operand o.Add = refl
operator_operand o.Sub = refl
operator_operand o.Mul = refl
operator_operand o.Eq = refl
operator_operand o.Lt = refl

-- Where the code has this instruction, it makes an operand.
operand_at : (code : List Instr) (j k : ℕ) (x : Instr) → slice_get code j ≡ Some x → is_operand (Some x) ≡ true →
    j ≡ k → is_operand (slice_get code k) ≡ true
operand_at code j k x at is same = ap (λ n. is_operand (slice_get code n)) (sym same) ∙ ap is_operand at ∙ is

-- Each instruction of an expression makes an operand.
pub value_operands : (code : List Instr) (scope start end room : ℕ) → IsValue code scope start end room → (k : ℕ) →
    start ≤ k → k < end → is_operand (slice_get code k) ≡ true
value_operands code scope start end room (number n at is) k from to =
    operand_at code start k (Push n) at refl (omega (arith, is, from, to))
value_operands code scope start end room (location l at lt is) k from to =
    operand_at code start k (Load l) at refl (omega (arith, is, from, to))
value_operands code scope start end room (operator op middle last below a b at is up) k from to =
    elim (cases_lt k middle) [
      | inl lt ↦ value_operands code scope start middle below a k from lt
      | inr ge ↦ elim (cases_lt k last) [
        | inl lt ↦ value_operands code scope middle last below b k ge lt
        | inr past ↦ operand_at code last k (op_code op) at (operator_operand op) (omega (arith, is, to, past))
      ]
    ]

-- An expression stops where it ends, if no operand is made there.
pub value_stops : (code : List Instr) (scope start end room : ℕ) → IsValue code scope start end room →
    is_operand (slice_get code end) ≡ false → IsStop code start end
value_stops code scope start end room v ends =
    let lt = value_starts code scope start end room v in
    record {
      from = omega (arith, lt);
      before = value_operands code scope start end room v;
      here = ends;
    }

-- Two places at which the same expression stops are the same.
pub same_stop : (code : List Instr) (place a b : ℕ) → IsStop code place a → IsStop code place b → a ≡ b
same_stop code place a b p q = elim (cases_order a b) [
  | inl e ↦ e
  | inr differ ↦ elim differ [
    | inl lt ↦ absurd (true≢false (sym (q.before a p.from lt) ∙ p.here))
    | inr gt ↦ absurd (true≢false (sym (p.before b q.from gt) ∙ q.here))
  ]
]

-- An expression with the rest of a command and further commands can be read back.
first_of : (code : List Instr) (limit scope from stop to blocks n : ℕ) → IsValue code scope from stop 200 →
    Goes code limit from stop to scope blocks n → Readable code limit from to scope blocks n
first_of code limit scope from stop to blocks n value goes = more (begins stop value goes)

-- A store of a value is read back as an assignment, or as a letvar if its slot is the next one.
store_readable : (code : List Instr) (limit k scope from stop to blocks n : ℕ) → IsValue code scope from stop 200 →
    slice_get code stop ≡ Some (Store k) → k ≤ scope → k < limit →
    ((s : ℕ) → k + 1 ≤ s → Readable code limit (stop + 1) to s blocks n) →
    Readable code limit from to scope blocks (n + 1)
store_readable code limit k scope from stop to blocks n value at le below rest = elim (cases_lt k scope) [
  | inl lt ↦ first_of code limit scope from stop to blocks (n + 1) value (assign k n at lt (rest scope (omega (arith, lt))) (omega arith))
  | inr ge ↦
      let same : k ≡ scope = omega (arith, le, ge) in
      first_of code limit scope from stop to blocks (n + 1) value
      (letvar n (at ∙ ap (λ l. Some (Store l)) same) (omega (arith, same, below)) (rest (scope + 1) (omega (arith, same)))
      (omega arith))
]

-- The code of a command can be read back with at least as many slots in scope, if what follows it can.
pub readable : (c : Command) (code : List Instr) (limit k scope from to blocks n : ℕ) →
    HasAt code from (code_at from k c) → HasPlaces k c → k ≤ scope → depth c ≤ blocks → blocks ≤ 200 →
    k + depth c ≤ limit → ((s : ℕ) → k ≤ s → Readable code limit (from + size c) to s blocks n) →
    Readable code limit from to scope blocks (letvars c + n)
readable Skip code limit k scope from to blocks n at places le deep low wide rest =
    let here : from + 0 ≡ from = omega arith in
    let same : n ≡ 0 + n = omega arith in
    subst (λ m. Readable code limit from to scope blocks m) same
    (subst (λ p. Readable code limit p to scope blocks n) here (rest scope le))
readable (Assign l s e) code limit k scope from to blocks n at places le deep low wide rest =
    let stop = from + expression_size e in
    let tail = has_back code from (expression_code e) (Store l ∷ []) (expression_size e) (expression_long e) at in
    let next : from + (expression_size e + 1) ≡ stop + 1 = omega arith in
    first_of code limit scope from stop to blocks _
    (value_readable e code k scope from 200 (has_front code from (expression_code e) _ at) places.1 le
    (omega (arith, deep, low)))
    (assign l n tail.0 (omega (arith, places.0, le))
    (subst (λ p. Readable code limit p to scope blocks n) next (rest scope le)) (omega arith))
readable (Sequence a b) code limit k scope from to blocks n at places le deep low wide rest =
    let tail = has_back code from (code_at from k a) (code_at (from + size a) k b) (size a) (command_long a from k) at in
    let same : letvars a + (letvars b + n) ≡ letvars a + letvars b + n = omega arith in
    let next : from + (size a + size b) ≡ from + size a + size b = omega arith in
    subst (λ m. Readable code limit from to scope blocks m) same
    (readable a code limit k scope from to blocks (letvars b + n) (has_front code from (code_at from k a) _ at) places.0
    le (omega (arith, deep)) low (omega (arith, wide)) (λ s more_s.
    readable b code limit k s (from + size a) to blocks n tail places.1 more_s (omega (arith, deep)) low
    (omega (arith, wide)) (λ t more_t. subst (λ p. Readable code limit p to t blocks n) next (rest t more_t))))
readable (If e a b) code limit k scope from to blocks n at places le deep low wide rest =
    let stop = from + expression_size e in
    let first = stop + 1 in
    let jump = first + size a in
    let second = jump + 1 in
    let join = second + size b in
    let branch = code_at first k a in
    let other = code_at second k b in
    let tail = has_back code from (expression_code e) (Jz second ∷ (branch ++ (Jmp join ∷ other))) (expression_size e)
    (expression_long e) at in
    let back = has_back code first branch (Jmp join ∷ other) (size a) (command_long a first k) tail.1 in
    let next : from + (expression_size e + size a + size b + 2) ≡ join = omega arith in
    first_of code limit scope from stop to blocks _
    (value_readable e code k scope from 200 (has_front code from (expression_code e) _ at) places.0 le
    (omega (arith, deep, low)))
    (choice jump join (letvars a + 0) (letvars b + 0) n tail.0 back.0 (omega arith) (omega (arith, deep))
    (readable a code limit k scope first jump (blocks - 1) 0 (has_front code first branch _ tail.1) places.1 le
    (omega (arith, deep)) (omega (arith, low)) (omega (arith, wide)) (λ s more_s. nothing refl))
    (readable b code limit k scope second join (blocks - 1) 0 back.1 places.2 le
    (omega (arith, deep)) (omega (arith, low)) (omega (arith, wide)) (λ s more_s. nothing refl))
    (subst (λ p. Readable code limit p to scope blocks n) next (rest scope le)) (omega arith))
readable (While e c) code limit k scope from to blocks n at places le deep low wide rest =
    let stop = from + expression_size e in
    let first = stop + 1 in
    let jump = first + size c in
    let body = code_at first k c in
    let tail = has_back code from (expression_code e) (Jz (jump + 1) ∷ (body ++ Jmp from ∷ [])) (expression_size e)
    (expression_long e) at in
    let back = has_back code first body (Jmp from ∷ []) (size c) (command_long c first k) tail.1 in
    let next : from + (expression_size e + size c + 2) ≡ jump + 1 = omega arith in
    first_of code limit scope from stop to blocks _
    (value_readable e code k scope from 200 (has_front code from (expression_code e) _ at) places.0 le
    (omega (arith, deep, low)))
    (loop jump (letvars c + 0) n tail.0 back.0 (omega (arith, deep))
    (readable c code limit k scope first jump (blocks - 1) 0 (has_front code first body _ tail.1) places.1 le
    (omega (arith, deep)) (omega (arith, low)) (omega (arith, wide)) (λ s more_s. nothing refl))
    (subst (λ p. Readable code limit p to scope blocks n) next (rest scope le)) (omega arith))
readable (Letvar e c) code limit k scope from to blocks n at places le deep low wide rest =
    let stop = from + expression_size e in
    let tail = has_back code from (expression_code e) (Store k ∷ code_at (stop + 1) (k + 1) c) (expression_size e)
    (expression_long e) at in
    let next : from + (expression_size e + size c + 1) ≡ stop + 1 + size c = omega arith in
    let same : letvars c + n + 1 ≡ letvars c + 1 + n = omega arith in
    subst (λ m. Readable code limit from to scope blocks m) same
    (store_readable code limit k scope from stop to blocks (letvars c + n)
    (value_readable e code k scope from 200 (has_front code from (expression_code e) _ at) places.0 le
    (omega (arith, deep, low)))
    tail.0 le (omega (arith, wide)) (λ s more_s.
    readable c code limit (k + 1) s (stop + 1) to blocks n tail.1 places.1 more_s (omega (arith, deep)) low
    (omega (arith, wide)) (λ t more_t.
    subst (λ p. Readable code limit p to t blocks n) next (rest t (omega (arith, more_t))))))
