-- Facts about the operands of an expression.
use Rattle.std.proofs.Common.{◌≡◌, ℕ, ◌+◌, ◌<◌, ℤ, pos, List, [], ◌∷◌, ◌++◌, length, reverse, Some, refl, sym, ap, ◌∙◌, subst, arith}
use Rattle.std.specs.Prelude.{slice_get}
use Rattle.std.specs.Option.{option_map}
use Rattle.std.proofs.lemmas.List.{reverse-append}
use Rattle.std.proofs.lemmas.Option.{slice_get-get_or}
use Rattle.vsi_syntax.specs.declared.tree.Op.{Op}
use Rattle.vsi_syntax.specs.Operators.{apply}
use Rattle.vsi_image.specs.declared.instr.Instr.{Instr}
use Rattle.vsi_image.specs.declared.instr.Instr.TheVariants.{Push, Load}
use Rattle.vsi_image.specs.Meaning.{acted, after, going}
use Rattle.vsi_machine.specs.declared.loops.Known.{Known}
use Rattle.vsi_machine.specs.declared.loops.Known.TheVariants.{Number}
use Rattle.vsi_machine.specs.Known.{Means, AllMean, Hold, word}
use Rattle.vsi_machine.specs.Stretch.{Evaluates, Gives}
use Rattle.vsi_machine.specs.Values.{IsOperator, Operated, Operates, Acts}
use Rattle.vsi_machine.proofs.Running.{next_run, one_run}

-- The last item comes first in reverse order.
pub last_first : {X : Type 0} (xs : List X) (x : X) → reverse (xs ++ x ∷ []) ≡ x ∷ reverse xs
last_first xs x = reverse-append xs (x ∷ [])

-- An operator takes two operands, and its result takes their position.
pub operated : (op : Op) (l r k : Known) (held middle bottom left : List Known) → held ≡ middle ++ r ∷ []
    → middle ≡ bottom ++ l ∷ [] → left ≡ bottom ++ k ∷ []
    → ((m : List ℤ) (a b : ℤ) → Means m l a → Means m r b → Means m k (apply op a b)) → Operates op held left
operated op l r k held middle bottom left p q e means m s h =
    by s (subst (λ fs. AllMean m fs s) turned h)
  where
    turned : reverse held ≡ r ∷ l ∷ reverse bottom
    turned = ap reverse p ∙ last_first middle r ∙ ap (λ fs. r ∷ reverse fs) q ∙ ap (λ fs. r ∷ fs) (last_first bottom l)

    by : (s : List ℤ) → AllMean m (r ∷ l ∷ reverse bottom) s → Operated m op s left
    by [] h = absurd h
    by (b ∷ []) h = absurd h.1
    by (b ∷ a ∷ rest) h = record {
      a = a;
      b = b;
      rest = rest;
      same = refl;
      mean = subst (λ fs. AllMean m fs (apply op a b ∷ rest)) (sym (ap reverse e ∙ last_first bottom k))
          (means m a b h.1.0 h.0, h.1.1);
    }

-- An operator's instruction.
pub acts_operator : (i : Instr) (op : Op) (facts held left : List Known) → IsOperator i op → Operates op held left
    → Acts i facts held left
acts_operator i op facts held left is does m now s pc h mean =
    let d = does m s mean in
    record {
      operands = apply op d.a d.b ∷ d.rest;
      acts = ap (λ (t : List ℤ). acted i pc t now) d.same ∙ is pc d.a d.b d.rest now;
      mean = d.mean;
    }

-- A number.
pub acts_push : (n given : ℤ) (facts held left : List Known) → left ≡ held ++ Number given ∷ [] → given ≡ n
    → Acts (Push n) facts held left
acts_push n given facts held left e g m now s pc h mean = record {
  operands = n ∷ s;
  acts = refl;
  mean = subst (λ fs. AllMean m fs (n ∷ s)) (sym (ap reverse e ∙ last_first held (Number given))) (sym g, mean);
}

-- A word from a slot.
pub acts_load : (k : ℕ) (f : Known) (facts held left : List Known) → left ≡ held ++ f ∷ [] → slice_get facts k ≡ Some f
    → k < length facts → Acts (Load k) facts held left
acts_load k f facts held left e known lt m now s pc h mean =
    let within : k < length now = omega (arith, lt, h.count) in
    record {
      operands = word now k ∷ s;
      acts = ap (option_map (λ v. going (pc + 1) (v ∷ s) now)) (slice_get-get_or now k (pos 0) within);
      mean = subst (λ fs. AllMean m fs (word now k ∷ s)) (sym (ap reverse e ∙ last_first held f))
          (h.each k f known, mean);
    }

-- From these slots the code reaches a position with operands for which these facts hold.
pub record Computed (code : List Instr) (m now : List ℤ) (from to : ℕ) (held : List Known) : Type 0 where
  pub steps : ℕ
  pub count : from + steps ≡ to
  pub operands : List ℤ
  pub reached : after code steps (going from [] now) ≡ Some (going to operands now)
  pub mean : AllMean m (reverse held) operands

-- The code reaches the position from all slots for which these facts hold.
abbrev pub Computes : List Instr → List Known → ℕ → ℕ → List Known → Type 0
Computes code facts from to held = (m now : List ℤ) → Hold m facts now → Computed code m now from to held

-- At the start there are no operands.
pub computes_start : (code : List Instr) (facts : List Known) (from : ℕ) (held : List Known) → held ≡ []
    → Computes code facts from from held
computes_start code facts from held e m now h = record {
  steps = 0;
  count = omega arith;
  operands = [];
  reached = refl;
  mean = subst (λ (fs : List Known). AllMean m (reverse fs) []) (sym e) tt;
}

-- One more instruction.
pub computes_more : (code : List Instr) (facts : List Known) (from to : ℕ) (held left : List Known) (i : Instr)
    → Computes code facts from to held → Acts i facts held left → slice_get code to ≡ Some i
    → Computes code facts from (to + 1) left
computes_more code facts from to held left i c acts is m now h =
    let d = c m now h in
    let a = acts m now d.operands to h d.mean in
    record {
      steps = d.steps + 1;
      count = omega (arith, d.count);
      operands = a.operands;
      reached = next_run code d.steps 1 _ _ _ d.reached (one_run code to d.operands now i _ is a.acts);
      mean = a.mean;
    }

-- One operand at the end.
pub computes_end : (code : List Instr) (facts : List Known) (from to : ℕ) (held : List Known) (value : Known)
    → Computes code facts from to held → held ≡ value ∷ [] → Evaluates code facts from to value
computes_end code facts from to held value c e m now h = by d.operands d.reached
    (subst (λ (fs : List Known). AllMean m (reverse fs) d.operands) e d.mean)
  where
    d : Computed code m now from to held
    d = c m now h

    by : (s : List ℤ) → after code d.steps (going from [] now) ≡ Some (going to s now) → AllMean m (value ∷ []) s
        → Gives code m now from to value
    by [] r h = absurd h
    by (v ∷ []) r h = record { steps = d.steps; count = d.count; operand = v; reached = r; means = h.0 }
    by (v ∷ w ∷ rest) r h = absurd h.1
