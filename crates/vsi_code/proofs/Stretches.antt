-- Stretches of a run, which lead from one state to another.
use Rattle.std.proofs.Common.{◌≡◌, ℕ, suc, ◌<◌, ◌≤◌, List, [], ◌++◌, length, Option, Some, None, false, refl, sym, ap, ◌∙◌, subst, arith, ℤ, option_and_then}
use Rattle.std.specs.Prelude.{slice_get}
use Rattle.vsi_image.specs.declared.instr.Instr.{Instr}
use Rattle.vsi_image.specs.declared.instr.Instr.TheVariants.{Jmp}
use Rattle.vsi_image.specs.Meaning.{State, going, acted, after}
use Rattle.vsi_scope.specs.Meaning.{Store as Words, and_then}

-- The machine goes from one state to another in one step or more.
pub record Leads (code : List Instr) (s t : State) : Type 0 where
  pub by : (k : ℕ) → (j : ℕ) × (k < j) × (after code j s ≡ after code k t)

-- The machine goes from one state to another in any number of steps.
pub record Comes (code : List Instr) (s t : State) : Type 0 where
  pub by : (k : ℕ) → (j : ℕ) × (k ≤ j) × (after code j s ≡ after code k t)

-- The machine runs on for at least this many steps.
pub record GoesOn (code : List Instr) (n : ℕ) (s : State) : Type 0 where
  pub steps : ℕ
  pub many : n ≤ steps
  pub state : State
  pub reached : after code steps s ≡ Some state
  pub running : state.halted ≡ false

-- The machine reaches a position with this store and this many words after it.
pub record StretchEnds (code : List Instr) (s : State) (pc r : ℕ) (m : Words) : Type 0 where
  pub rest : List ℤ
  pub long : length rest ≡ r
  pub comes : Comes code s (going pc [] (m ++ rest))

-- A command's code ends with the command's store if it has one, and otherwise runs on for n steps.
abbrev pub Runs : List Instr → ℕ → State → ℕ → ℕ → Option Words → Type 0
Runs code n s pc r None = GoesOn code n s
Runs code n s pc r (Some m) = StretchEnds code s pc r m

module _ (code : List Instr) where
  -- One instruction leads on.
  pub step : (pc : ℕ) (s m : List ℤ) (i : Instr) (t : State) →
      slice_get code pc ≡ Some i → acted i pc s m ≡ Some t → Leads code (going pc s m) t
  step pc s m i t e a = record {
    by = λ k.
        let acts = ap (option_and_then (λ i. acted i pc s m)) e ∙ a in
        (suc k, omega arith, ap (option_and_then (after code k)) acts);
  }

  -- Two stretches of a step or more join into one.
  pub leads_on : (s t u : State) → Leads code s t → Leads code t u → Leads code s u
  leads_on s t u a b = record {
    by = λ k. let y = b.by k in let x = a.by y.0 in (x.0, omega (arith, x.1, y.1), x.2 ∙ y.2);
  }

  -- Two stretches join into one.
  pub comes_on : (s t u : State) → Comes code s t → Comes code t u → Comes code s u
  comes_on s t u a b = record {
    by = λ k. let y = b.by k in let x = a.by y.0 in (x.0, omega (arith, x.1, y.1), x.2 ∙ y.2);
  }

  -- A stretch of a step or more is a stretch.
  pub as_comes : (s t : State) → Leads code s t → Comes code s t
  as_comes s t a = record { by = λ k. let x = a.by k in (x.0, omega (arith, x.1), x.2) }

  -- Every state reaches itself.
  pub here : (s t : State) → s ≡ t → Comes code s t
  here s t e = record { by = λ k. (k, omega arith, ap (after code k) e) }

  -- A run that begins earlier runs at least as long.
  pub before : (n : ℕ) (s t : State) (pc r : ℕ) (o : Option Words) →
      Comes code s t → Runs code n t pc r o → Runs code n s pc r o
  before n s t pc r None a g =
      let x = a.by g.steps in
      record {
        steps = x.0;
        many = omega (arith, x.1, g.many);
        state = g.state;
        reached = x.2 ∙ g.reached;
        running = g.running;
      }
  before n s t pc r (Some m) a g = record { rest = g.rest; long = g.long; comes = comes_on s t _ a g.comes }

  -- A run that begins a step earlier runs a step longer.
  pub before_more : (n : ℕ) (s t : State) (pc r : ℕ) (o : Option Words) →
      Leads code s t → Runs code n t pc r o → Runs code (suc n) s pc r o
  before_more n s t pc r None a g =
      let x = a.by g.steps in
      record {
        steps = x.0;
        many = omega (arith, x.1, g.many);
        state = g.state;
        reached = x.2 ∙ g.reached;
        running = g.running;
      }
  before_more n s t pc r (Some m) a g =
      record { rest = g.rest; long = g.long; comes = comes_on s t _ (as_comes s t a) g.comes }

  -- A run goes on for fewer steps too.
  pub fewer : (k n : ℕ) (s : State) (pc r : ℕ) (o : Option Words) →
      k ≤ n → Runs code n s pc r o → Runs code k s pc r o
  fewer k n s pc r None le g = record {
    steps = g.steps;
    many = omega (arith, g.many);
    state = g.state;
    reached = g.reached;
    running = g.running;
  }
  fewer k n s pc r (Some m) le g = g

  -- The code after a command continues from the command's store.
  pub and_runs : (n : ℕ) (s : State) (pc1 pc r : ℕ) (o : Option Words) (go : Words → Option Words) →
      Runs code n s pc1 r o →
      ((m : Words) (rest : List ℤ) → length rest ≡ r → o ≡ Some m →
      Runs code n (going pc1 [] (m ++ rest)) pc r (go m)) →
      Runs code n s pc r (and_then o go)
  and_runs n s pc1 pc r None go g h = g
  and_runs n s pc1 pc r (Some m) go g h = before n s _ pc r (go m) g.comes (h m g.rest g.long refl)

  -- A jump after a command leads to its target.
  pub jump_behind : (n : ℕ) (s : State) (pc1 pc r : ℕ) (o : Option Words) →
      Runs code n s pc1 r o → slice_get code pc1 ≡ Some (Jmp pc) → Runs code n s pc r o
  jump_behind n s pc1 pc r None g e = g
  jump_behind n s pc1 pc r (Some m) g e =
      let jump = step pc1 [] (m ++ g.rest) (Jmp pc) _ e refl in
      record { rest = g.rest; long = g.long; comes = comes_on s _ _ g.comes (as_comes _ _ jump) }

  -- A position may be given by an equal number.
  pub moved_to : (n : ℕ) (s : State) (pc pc' r : ℕ) (o : Option Words) →
      pc ≡ pc' → Runs code n s pc r o → Runs code n s pc' r o
  moved_to n s pc pc' r o e g = subst (λ p. Runs code n s p r o) e g

  -- A run has every answer that equals its own.
  pub answered : (n : ℕ) (s : State) (pc r : ℕ) (o o' : Option Words) →
      o' ≡ o → Runs code n s pc r o → Runs code n s pc r o'
  answered n s pc r o o' e g = subst (Runs code n s pc r) (sym e) g
