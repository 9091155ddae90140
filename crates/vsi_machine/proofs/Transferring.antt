-- The facts of an expression, as the search computes them.
use Rattle.std.proofs.Common.{◌≡◌, ℕ, suc, ◌+◌, ℤ, List, [], ◌∷◌, ◌++◌, reverse, Some, option_and_then, sym, ap, ◌∙◌, arith}
use Rattle.std.specs.Prelude.{slice_get}
use Rattle.std.specs.Option.{option_map}
use Rattle.vsi_syntax.specs.declared.tree.Op.{Op}
use Rattle.vsi_image.specs.declared.instr.Instr.{Instr}
use Rattle.vsi_image.specs.declared.instr.Instr.TheVariants.{Push, Load}
use Rattle.vsi_machine.specs.declared.loops.Known.{Known}
use Rattle.vsi_machine.specs.declared.loops.Known.TheVariants.{Number}
use Rattle.vsi_machine.specs.Transfer.{fact_of, on_two, put, Puts, operands, IsValue}
use Rattle.vsi_machine.proofs.Operands.{last_first}

-- A number on top.
pub puts_push : (n given : ℤ) (facts held left : List Known) → left ≡ held ++ Number given ∷ [] → given ≡ n
    → Puts facts held (Push n) left
puts_push n given facts held left e g =
    ap Some (sym (ap reverse e ∙ last_first held (Number given) ∙ ap (λ (x : ℤ). Number x ∷ reverse held) g))

-- A slot's fact on top.
pub puts_load : (slot : ℕ) (f : Known) (facts held left : List Known) → left ≡ held ++ f ∷ []
    → slice_get facts slot ≡ Some f → Puts facts held (Load slot) left
puts_load slot f facts held left e known =
    ap (option_map (λ (x : Known). x ∷ reverse held)) known ∙ ap Some (sym (ap reverse e ∙ last_first held f))

-- An operator takes two facts, and that about its result takes their position.
pub taken : (o : Op) (l r k : Known) (held middle bottom left : List Known) → held ≡ middle ++ r ∷ []
    → middle ≡ bottom ++ l ∷ [] → left ≡ bottom ++ k ∷ [] → k ≡ fact_of o l r
    → on_two o (reverse held) ≡ Some (reverse left)
taken o l r k held middle bottom left p q e is =
    ap (on_two o) (ap reverse p ∙ last_first middle r ∙ ap (λ (fs : List Known). r ∷ reverse fs) q
    ∙ ap (λ (fs : List Known). r ∷ fs) (last_first bottom l))
    ∙ ap Some (ap (λ (x : Known). x ∷ reverse bottom) (sym is) ∙ sym (ap reverse e ∙ last_first bottom k))

-- From a position the code leads to another with these facts about the operands, the last one about the top.
pub record Held (code : List Instr) (facts : List Known) (start place : ℕ) (held : List Known) : Type 0 where
  pub count : ℕ
  pub place_is : start + count ≡ place
  pub is : operands code facts start count ≡ Some (reverse held)

-- At the start there are no operands.
pub held_none : (code : List Instr) (facts : List Known) (start : ℕ) (held : List Known) → held ≡ []
    → Held code facts start start held
held_none code facts start held e = record {
  count = 0;
  place_is = omega arith;
  is = ap (λ (fs : List Known). Some (reverse fs)) (sym e);
}

-- One more instruction.
pub held_more : (code : List Instr) (facts : List Known) (start place : ℕ) (held left : List Known) (i : Instr)
    → Held code facts start place held → Puts facts held i left → slice_get code place ≡ Some i
    → Held code facts start (place + 1) left
held_more code facts start place held left i h p at = record {
  count = suc h.count;
  place_is = omega (arith, h.place_is);
  is = ap (option_and_then (λ (s : List Known). option_and_then (put facts s) (slice_get code (start + h.count)))) h.is
      ∙ ap (option_and_then (put facts (reverse held))) (ap (slice_get code) h.place_is ∙ at) ∙ p;
}

-- One operand at the end.
pub held_end : (code : List Instr) (facts : List Known) (start place : ℕ) (held : List Known) (value : Known)
    → Held code facts start place held → held ≡ value ∷ [] → IsValue code facts start place value
held_end code facts start place held value h e = record {
  count = h.count;
  place_is = h.place_is;
  only = h.is ∙ ap (λ (fs : List Known). Some (reverse fs)) e;
}
