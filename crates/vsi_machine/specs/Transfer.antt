-- The facts that the search has in an expression: abstract interpretation, instruction by instruction.
use Rattle.std.specs.Prelude.{◌≡◌, ℕ, zero, suc, ◌+◌, pos, negsuc, ◌-ℤ◌, List, [], ◌∷◌, Option, Some, None, if◌then◌else◌, option_and_then, reverse, slice_get}
use Rattle.std.specs.Option.{option_map}
use Rattle.std.specs.Ordering.{int_eq}
use Rattle.vsi_syntax.specs.declared.tree.Op.{Op}
use Rattle.vsi_syntax.specs.declared.tree.Op.TheVariants as op
use Rattle.vsi_image.specs.declared.instr.Instr.{Instr}
use Rattle.vsi_image.specs.declared.instr.Instr.TheVariants.{Push, Load, Add, Sub, Mul, Eq, Lt}
use Rattle.vsi_machine.specs.declared.loops.Known.{Known}
use Rattle.vsi_machine.specs.declared.loops.Known.TheVariants.{Number, Same, Moved, Below, Above, Any}

-- The fact about a sum: a slot's word and a number make a moved word.
abbrev pub sum_fact : Known → Known → Known
sum_fact (Same slot) (Number n) = Moved slot n
sum_fact (Number n) (Same slot) = Moved slot n
sum_fact left right = Any

-- The fact about a difference; the least word has no opposite.
abbrev pub difference_fact : Known → Known → Known
difference_fact (Same slot) (Number n) =
    if int_eq n (negsuc 9223372036854775807) then Any else Moved slot (pos 0 -ℤ n)
difference_fact left right = Any

-- The fact about a comparison of a slot's word with a number.
abbrev pub less_fact : Known → Known → Known
less_fact (Same slot) (Number n) = Below slot n
less_fact (Number n) (Same slot) = Above slot n
less_fact left right = Any

-- The fact about the result of an operator.
abbrev pub fact_of : Op → Known → Known → Known
fact_of op.Add left right = sum_fact left right
fact_of op.Sub left right = difference_fact left right
fact_of op.Mul left right = Any
fact_of op.Eq left right = Any
fact_of op.Lt left right = less_fact left right

-- An operator takes the facts about two operands, of which the right one is on top.
abbrev pub on_two : Op → List Known → Option (List Known)
on_two o [] = None
on_two o (b ∷ []) = None
on_two o (b ∷ a ∷ s) = Some (fact_of o a b ∷ s)

-- The facts about the operands after an instruction, with the top first; none if it doesn't belong to an expression.
abbrev pub put : List Known → List Known → Instr → Option (List Known)
put facts s (Push n) = Some (Number n ∷ s)
put facts s (Load slot) = option_map (λ f. f ∷ s) (slice_get facts slot)
put facts s Add = on_two op.Add s
put facts s Sub = on_two op.Sub s
put facts s Mul = on_two op.Mul s
put facts s Eq = on_two op.Eq s
put facts s Lt = on_two op.Lt s
put facts s other = None

-- The instruction leads from facts about the operands to others, each with the last one about the top.
abbrev pub Puts : List Known → List Known → Instr → List Known → Type 0
Puts facts held i left = put facts (reverse held) i ≡ Some (reverse left)

-- The facts about the operands after this many instructions from a position.
abbrev pub operands : List Instr → List Known → ℕ → ℕ → Option (List Known)
operands code facts start zero = Some []
operands code facts start (suc n) =
    option_and_then (λ s. option_and_then (put facts s) (slice_get code (start + n))) (operands code facts start n)

-- Between two positions the code has an expression with this fact about its value.
pub record IsValue (code : List Instr) (facts : List Known) (start place : ℕ) (value : Known) : Type 0 where
  pub count : ℕ
  pub place_is : start + count ≡ place
  pub only : operands code facts start count ≡ Some (value ∷ [])
