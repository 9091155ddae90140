-- Runs of the machine, one after another, and tests.
use Rattle.std.proofs.Common.{◌≡◌, ◌≢◌, ℕ, ◌+◌, ℤ, pos, List, [], ◌∷◌, Some, Bool, true, false, if◌then◌else◌, refl, sym, ap, ◌∙◌, arith, option_and_then}
use Rattle.std.specs.Prelude.{slice_get}
use Rattle.std.specs.Ordering.{int_eq}
use Rattle.std.proofs.lemmas.Bool.Decides.{Decides-int_eq}
use Rattle.vsi_image.specs.declared.instr.Instr.{Instr}
use Rattle.vsi_image.specs.declared.instr.Instr.TheVariants.{Jz, Jmp}
use Rattle.vsi_image.specs.Meaning.{State, acted, after, going}
use Rattle.vsi_machine.proofs.Counts.{go_on}
use Rattle.vsi_machine.specs.declared.bound.Cost.{Cost}
use Rattle.vsi_machine.specs.declared.loops.Known.{Known}
use Rattle.vsi_machine.specs.Stretch.{Comes, Leads, Gives, Evaluates}

-- The machine's test finds a word other than 0 unequal to 0.
not_zero : (z : ℤ) → z ≢ pos 0 → int_eq z (pos 0) ≡ false
not_zero z h = by_test (int_eq z (pos 0)) refl
  where
    by_test : (b : Bool) → int_eq z (pos 0) ≡ b → b ≡ false
    by_test true e = absurd (h ((Decides-int_eq z (pos 0)).0 e))
    by_test false e = refl

-- A run continues from the end of another.
pub next_run : (code : List Instr) (a b : ℕ) (s t u : State) → after code a s ≡ Some t → after code b t ≡ Some u
    → after code (a + b) s ≡ Some u
next_run code a b s t u e f = go_on code a b s t e ∙ f

-- One instruction.
pub one_run : (code : List Instr) (pc : ℕ) (s m : List ℤ) (i : Instr) (t : State) → slice_get code pc ≡ Some i
    → acted i pc s m ≡ Some t → after code 1 (going pc s m) ≡ Some t
one_run code pc s m i t e a = ap (option_and_then (after code 0)) (ap (option_and_then (λ i. acted i pc s m)) e ∙ a)

-- A stretch with a run before it.
pub run_before : (code : List Instr) (m now middle : List ℤ) (start from to n : ℕ) (cost whole : Cost)
    (facts : List Known) → after code n (going start [] now) ≡ Some (going from [] middle)
    → Comes code m middle from to cost facts → whole.least ≡ n + cost.least → whole.most ≡ n + cost.most
    → Comes code m now start to whole facts
run_before code m now middle start from to n cost whole facts e c p q = record {
  steps = n + c.steps;
  enough = omega (arith, p, c.enough);
  few = omega (arith, q, c.few);
  last = c.last;
  reached = next_run code n c.steps _ _ _ e c.reached;
  hold = c.hold;
}

-- Two stretches, one after the other.
pub leads_both : (code : List Instr) (facts middle left : List Known) (from over to : ℕ) (first second whole : Cost)
    → Leads code facts from over first middle → Leads code middle over to second left
    → whole.least ≡ first.least + second.least → whole.most ≡ first.most + second.most
    → Leads code facts from to whole left
leads_both code facts middle left from over to first second whole a b p q m now h =
    let c = a m now h in
    let d = b m c.last c.hold in
    record {
      steps = c.steps + d.steps;
      enough = omega (arith, p, c.enough, d.enough);
      few = omega (arith, q, c.few, d.few);
      last = d.last;
      reached = next_run code c.steps d.steps _ _ _ c.reached d.reached;
      hold = d.hold;
    }

-- No steps lead from a position to itself.
pub leads_nowhere : (code : List Instr) (facts : List Known) (from to : ℕ) (cost : Cost) → from ≡ to → cost.least ≡ 0
    → cost.most ≡ 0 → Leads code facts from to cost facts
leads_nowhere code facts from to cost e p q m now h = record {
  steps = 0;
  enough = omega (arith, p);
  few = omega (arith, q);
  last = now;
  reached = ap (λ (n : ℕ). Some (going n [] now)) e;
  hold = h;
}

-- A jump after a stretch.
pub leads_jump : (code : List Instr) (facts left : List Known) (from jump to : ℕ) (cost whole : Cost)
    → Leads code facts from jump cost left → slice_get code jump ≡ Some (Jmp to) → whole.least ≡ cost.least + 1
    → whole.most ≡ cost.most + 1 → Leads code facts from to whole left
leads_jump code facts left from jump to cost whole a j p q m now h =
    let c = a m now h in
    record {
      steps = c.steps + 1;
      enough = omega (arith, p, c.enough);
      few = omega (arith, q, c.few);
      last = c.last;
      reached = next_run code c.steps 1 _ _ _ c.reached
          (one_run code jump [] c.last (Jmp to) (going to [] c.last) j refl);
      hold = c.hold;
    }

module _ (code : List Instr) (m now : List ℤ) (start place target : ℕ) (value : Known)
    (g : Gives code m now start place value) (jz : slice_get code place ≡ Some (Jz target)) where
  -- The result of a test is that of its comparison with 0.
  tested : (b : Bool) → int_eq g.operand (pos 0) ≡ b
      → after code (g.steps + 1) (going start [] now) ≡ Some (going (if b then target else place + 1) [] now)
  tested b e =
      let acts = ap (λ x. Some (going (if x then target else place + 1) [] now)) e in
      next_run code g.steps 1 _ _ _ g.reached (one_run code place (g.operand ∷ []) now (Jz target) _ jz acts)

  -- A test of 0 leads to the target.
  pub test_zero : g.operand ≡ pos 0 → after code (g.steps + 1) (going start [] now) ≡ Some (going target [] now)
  test_zero z = tested true (ap (λ x. int_eq x (pos 0)) z)

  -- A test of another word goes on.
  pub test_other : g.operand ≢ pos 0
      → after code (g.steps + 1) (going start [] now) ≡ Some (going (place + 1) [] now)
  test_other z = tested false (not_zero g.operand z)

-- A conditional.
pub choice_leads : (code : List Instr) (facts left : List Known) (start place target end n : ℕ) (value : Known)
    (cost whole : Cost) → Evaluates code facts start place value → slice_get code place ≡ Some (Jz target)
    → start + n ≡ place + 1 → Leads code facts (place + 1) end cost left → Leads code facts target end cost left
    → whole.least ≡ n + cost.least → whole.most ≡ n + cost.most → Leads code facts start end whole left
choice_leads code facts left start place target end n value cost whole ev jz count first second p q m now h =
    by (int_eq g.operand (pos 0)) refl
  where
    g : Gives code m now start place value
    g = ev m now h

    long : g.steps + 1 ≡ n
    long = omega (arith, g.count, count)

    by : (b : Bool) → int_eq g.operand (pos 0) ≡ b → Comes code m now start end whole left
    by true e =
        run_before code m now now start target end n cost whole left
        (ap (λ k. after code k (going start [] now)) (sym long) ∙ tested code m now start place target value g jz true e)
        (second m now h) p q
    by false e =
        run_before code m now now start (place + 1) end n cost whole left
        (ap (λ k. after code k (going start [] now)) (sym long) ∙ tested code m now start place target value g jz false e)
        (first m now h) p q
