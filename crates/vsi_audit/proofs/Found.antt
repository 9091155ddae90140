-- Expressions and first commands of code that can be read back.
use Rattle.std.proofs.Common.{◌≡◌, ℕ, zero, suc, ◌+◌, ◌-◌, ◌<◌, ◌≤◌, max, List, [], ◌∷◌, ◌++◌, length, get_or, take, drop, Option, Some, None, Bool, true, false, true≢false, slice_get, ℤ, Result, Ok, Err, IsErrAnd, IfErr, refl, sym, ap, subst, ◌∙◌, arith, ◌⊎◌, inl, inr}
use Rattle.std.proofs.lemmas.Bool.{cases_lt, cases_order}
use Rattle.std.proofs.lemmas.Option.{slice_get_within, get_or_from_slice_get}
use Rattle.vsi_image.specs.declared.instr.Instr.{Instr}
use Rattle.vsi_image.specs.declared.instr.Instr.TheVariants.{Push, Load, Store, Jz, Jmp, Halt}
use Rattle.vsi_syntax.specs.declared.tree.Op.{Op}
use Rattle.vsi_syntax.specs.declared.tree.Op.TheVariants as o
use Rattle.vsi_syntax.specs.declared.token.Span.{Span}
use Rattle.vsi_scope.specs.Language.{Expression, Number, Location, Operator, Command, Skip, Assign, Sequence, If, While, Letvar, HasLocations, HasPlaces, expression_size, expression_depth, expressions_depth, nesting, size, depth, letvars}
use Rattle.vsi_code.specs.Layout.{op_code, expression_code, code_at}
use Rattle.vsi_audit.specs.Coding.{StandsAt}
use Rattle.vsi_audit.specs.declared.flow.Unread.{Unread}
use Rattle.vsi_audit.specs.declared.flow.Unread.TheVariants.{Memory}
use Rattle.vsi_audit.specs.Fitting.{FitsExpression}
use Rattle.vsi_audit.proofs.CodeParts.{one_stands, operator_stands, assign_stands, choice_stands, loop_stands, letvar_stands}
use Rattle.vsi_audit.specs.Reading.{is_operand, IsValue, number, location, operator, IsStop, Readable, nothing, more, Begins, begins, Goes, assign, letvar, choice, loop, IsRead, Leaves}
use Rattle.vsi_audit.proofs.Readable.{value_stops, value_starts, same_stop}

-- The code has an instruction alone at its place.
pub at_stands : (code : List Instr) (place : ℕ) (x : Instr) → slice_get code place ≡ Some x →
    StandsAt code (x ∷ []) place 1 (place + 1)
at_stands code place x at =
    one_stands code place x x (slice_get_within code place x at) (get_or_from_slice_get code place x x at)

-- ---- what the code has.

-- No operator's instruction pushes a number.
op_not_push : (op : Op) (n : ℤ) → op_code op ≡ Push n → ⊥
op_not_push o.Add n e = absurd cc
op_not_push o.Sub n e = absurd cc
op_not_push o.Mul n e = absurd cc
op_not_push o.Eq n e = absurd cc
op_not_push o.Lt n e = absurd cc

-- No operator's instruction loads a slot.
op_not_load : (op : Op) (l : ℕ) → op_code op ≡ Load l → ⊥
op_not_load o.Add l e = absurd cc
op_not_load o.Sub l e = absurd cc
op_not_load o.Mul l e = absurd cc
op_not_load o.Eq l e = absurd cc
op_not_load o.Lt l e = absurd cc

-- One place has one instruction.
pub one_at : (code : List Instr) (j k : ℕ) (x y : Instr) → slice_get code j ≡ Some x → slice_get code k ≡ Some y →
    j ≡ k → x ≡ y
one_at code j k x y p q same =
    let e : Some x ≡ Some y = sym p ∙ ap (slice_get code) same ∙ q in
    cc

-- If a number is pushed last, the expression is that number.
pub value_number : (code : List Instr) (scope start end room last : ℕ) (m : ℤ) →
    IsValue code scope start end room → last + 1 ≡ end → slice_get code last ≡ Some (Push m) → last ≡ start
value_number code scope start end room last m (number n at is) next here = omega (arith, is, next)
value_number code scope start end room last m (location l at lt is) next here = omega (arith, is, next)
value_number code scope start end room last m (operator op middle final below a b at is up) next here =
    absurd (op_not_push op m (one_at code final last (op_code op) (Push m) at here (omega (arith, is, next))))

-- If a slot is loaded last, the expression is that slot, which is in scope.
pub value_location : (code : List Instr) (scope start end room last s : ℕ) →
    IsValue code scope start end room → last + 1 ≡ end → slice_get code last ≡ Some (Load s) →
    (last ≡ start) × (s < scope)
value_location code scope start end room last s (number n at is) next here =
    let e : Push n ≡ Load s = one_at code start last (Push n) (Load s) at here (omega (arith, is, next)) in
    absurd cc
value_location code scope start end room last s (location l at lt is) next here =
    let e : Load l ≡ Load s = one_at code start last (Load l) (Load s) at here (omega (arith, is, next)) in
    let same : l ≡ s = cc in
    (omega (arith, is, next), omega (arith, same, lt))
value_location code scope start end room last s (operator op middle final below a b at is up) next here =
    absurd (op_not_load op s (one_at code final last (op_code op) (Load s) at here (omega (arith, is, next))))

-- The two operands of the operator that comes last.
pub record Operands (code : List Instr) (scope start last room : ℕ) (x : Instr) : Type 0 where
  pub op : Op
  pub is : op_code op ≡ x
  pub deep : 0 < room
  pub middle : ℕ
  pub left : IsValue code scope start middle (room - 1)
  pub right : IsValue code scope middle last (room - 1)

-- If neither a number nor a slot comes last, an operator does.
pub value_operator : (code : List Instr) (scope start end room last : ℕ) (x : Instr) →
    IsValue code scope start end room → last + 1 ≡ end → slice_get code last ≡ Some x →
    ((n : ℤ) → x ≡ Push n → ⊥) → ((l : ℕ) → x ≡ Load l → ⊥) → Operands code scope start last room x
value_operator code scope start end room last x (number n at is) next here push load =
    absurd (push n (one_at code last start x (Push n) here at (omega (arith, is, next))))
value_operator code scope start end room last x (location l at lt is) next here push load =
    absurd (load l (one_at code last start x (Load l) here at (omega (arith, is, next))))
value_operator code scope start end room last x (operator op middle final below a b at is up) next here push load =
    let less : below ≡ room - 1 = omega (arith, up) in
    let same : final ≡ last = omega (arith, is, next) in
    record {
      op = op;
      is = one_at code final last (op_code op) x at here same;
      deep = omega (arith, up);
      middle = middle;
      left = subst (λ r. IsValue code scope start middle r) less a;
      right = subst (λ r. IsValue code scope middle last r) less (subst (λ p. IsValue code scope middle p below) same b);
    }

-- An expression doesn't end at 0.
pub value_positive : (code : List Instr) (scope start end room : ℕ) → IsValue code scope start end room → 0 < end
value_positive code scope start end room v = omega (arith, value_starts code scope start end room v)

-- An expression ends in an instruction.
pub value_last : (code : List Instr) (scope start end room last : ℕ) → IsValue code scope start end room →
    last + 1 ≡ end → slice_get code last ≡ None → ⊥
value_last code scope start end room last (number n at is) next none =
    let e : Some (Push n) ≡ None = sym at ∙ ap (slice_get code) (omega (arith, is, next)) ∙ none in
    absurd cc
value_last code scope start end room last (location l at lt is) next none =
    let e : Some (Load l) ≡ None = sym at ∙ ap (slice_get code) (omega (arith, is, next)) ∙ none in
    absurd cc
value_last code scope start end room last (operator op middle final below a b at is up) next none =
    let e : Some (op_code op) ≡ None = sym at ∙ ap (slice_get code) (omega (arith, is, next)) ∙ none in
    absurd cc

-- After an expression comes no operand.
goes_stop : (code : List Instr) (limit from stop to scope blocks n : ℕ) →
    Goes code limit from stop to scope blocks n → is_operand (slice_get code stop) ≡ false
goes_stop code limit from stop to scope blocks n (assign l m at lt rest le) = ap is_operand at
goes_stop code limit from stop to scope blocks n (letvar m at lt rest le) = ap is_operand at
goes_stop code limit from stop to scope blocks n (choice jump join a b m at there on room branch other rest le) =
    ap is_operand at
goes_stop code limit from stop to scope blocks n (loop jump a m at there room body rest le) = ap is_operand at

-- The expression and what follows it, where the expression stops.
pub begun : (code : List Instr) (limit from to scope blocks n stop : ℕ) →
    Begins code limit from to scope blocks n → ((s : ℕ) → IsStop code from s → stop ≡ s) →
    IsValue code scope from stop 200 × Goes code limit from stop to scope blocks n
begun code limit from to scope blocks n stop (begins s value goes) found =
    let same : s ≡ stop =
    sym (found s (value_stops code scope from s 200 value (goes_stop code limit from s to scope blocks n goes))) in (
      subst (λ p. IsValue code scope from p 200) same value,
      subst (λ p. Goes code limit from p to scope blocks n) same goes,
    )

-- Where there is something to read, it begins.
pub readable_begins : (code : List Instr) (limit from to scope blocks n : ℕ) → from < to →
    Readable code limit from to scope blocks n → Begins code limit from to scope blocks n
readable_begins code limit from to scope blocks n lt (nothing is) = absurd (omega (arith, lt, is))
readable_begins code limit from to scope blocks n lt (more b) = b

-- Commands that can be read back end where they begin, or after that place.
pub readable_ordered : (code : List Instr) (limit from to scope blocks n : ℕ) →
    Readable code limit from to scope blocks n → from ≤ to
readable_ordered code limit from to scope blocks n (nothing is) = omega (arith, is)
readable_ordered code limit from to scope blocks n (more (begins stop value (assign l m at lt rest le))) =
    omega (arith, value_starts code scope from stop 200 value, readable_ordered code limit (stop + 1) to scope blocks m rest)
readable_ordered code limit from to scope blocks n (more (begins stop value (letvar m at lt rest le))) =
    omega (
      arith,
      value_starts code scope from stop 200 value,
      readable_ordered code limit (stop + 1) to (scope + 1) blocks m rest,
    )
readable_ordered code limit from to scope blocks n
    (more (begins stop value (choice jump join a b m at there on room branch other rest le))) =
    omega (arith, on, readable_ordered code limit join to scope blocks m rest)
readable_ordered code limit from to scope blocks n
    (more (begins stop value (loop jump a m at there room body rest le))) =
    omega (
      arith,
      value_starts code scope from stop 200 value,
      readable_ordered code limit (stop + 1) jump scope (blocks - 1) a body,
      readable_ordered code limit (jump + 1) to scope blocks m rest,
    )

-- An operator's instruction comes last.
pub value_operator_of : (code : List Instr) (scope start end room last : ℕ) (op : Op) →
    IsValue code scope start end room → last + 1 ≡ end → slice_get code last ≡ Some (op_code op) →
    Operands code scope start last room (op_code op)
value_operator_of code scope start end room last op v next here =
    value_operator code scope start end room last (op_code op) v next here (λ n e. op_not_push op n e)
    (λ l e. op_not_load op l e)

-- The left operand ends where the right one begins.
pub left_operand : (code : List Instr) (scope start last room middle : ℕ) (x : Instr)
    (o : Operands code scope start last room x) → middle ≡ o.middle → IsValue code scope start middle (room - 1)
left_operand code scope start last room middle x o same =
    subst (λ p. IsValue code scope start p (room - 1)) (sym same) o.left

-- An error that is passed on is still the lack of memory.
pub passed_on : {X : Type 0} (r : Result X Unread) (e : Unread) → IsErrAnd r (λ y. y ≡ e) → e ≡ Memory →
    IfErr r (λ u. u ≡ Memory)
passed_on (Ok x) e h m = tt
passed_on (Err y) e h m = h ∙ m

-- An instruction alone is at its place, before the end.
pub last_stands : (code : List Instr) (place end : ℕ) (x : Instr) → slice_get code place ≡ Some x → place + 1 ≡ end →
    StandsAt code (x ∷ []) place 1 end
last_stands code place end x at next = subst (StandsAt code (x ∷ []) place 1) next (at_stands code place x at)

-- An operator with its operands was read.
pub operator_read : (code : List Instr) (scope room start middle last end : ℕ) (op : Op) (a b x y : Expression) →
    x ≡ a → y ≡ b → StandsAt code (expression_code a) start (expression_size a) middle →
    StandsAt code (expression_code b) middle (expression_size b) last → slice_get code last ≡ Some (op_code op) →
    last + 1 ≡ end → FitsExpression scope (room - 1) a → FitsExpression scope (room - 1) b → 0 < room →
    StandsAt code (expression_code (Operator op x y)) start (expression_size (Operator op x y)) end
    × FitsExpression scope room (Operator op x y)
operator_read code scope room start middle last end op a b x y p q first second at next fit_a fit_b deep =
    subst (λ v. StandsAt code (expression_code (Operator op v y)) start (expression_size (Operator op v y)) end
    × FitsExpression scope room (Operator op v y)) (sym p)
    (subst (λ w. StandsAt code (expression_code (Operator op a w)) start (expression_size (Operator op a w)) end
    × FitsExpression scope room (Operator op a w)) (sym q) (
      operator_stands code start middle last end op a b first second (last_stands code last end (op_code op) at next),
      record {
        places = (fit_a.places, fit_b.places);
        shallow = omega (arith, fit_a.shallow, fit_b.shallow, deep);
      },
    ))
