-- The number of instructions that a run takes.
use Rattle.std.proofs.Common.{◌≡◌, ℕ, ◌+◌, ◌-◌, ◌<◌, ◌≤◌, Bool, true, false, Option, Some, ap, subst, sym, ◌∙◌, refl, arith, if◌then◌else◌}
use Rattle.std.specs.Prelude.{IsSomeAnd, IsTrue}
use Rattle.std.proofs.lemmas.Bool.{both_ways}
use Rattle.std.proofs.lemmas.Option.{same_Some}
use Rattle.vsi_image.specs.declared.instr.Image.{Image}
use Rattle.vsi_image.specs.Meaning.{State, start}
use Rattle.vsi_machine.specs.declared.interpreter.Outcome.{Outcome}
use Rattle.vsi_machine.specs.declared.interpreter.Outcome.TheVariants.{Halted, OutOfBudget}
use Rattle.vsi_machine.specs.Runs.{run_of, globals_of, outcome_of, HaltsWith}
use Rattle.vsi_machine.proofs.Budgets.{halting_lasts, one_ending}
use Rattle.vsi_scope.specs.Meaning.{Store}
use Rattle.vsi_compiler.specs.Observation.{Ends}
use Rattle.vsi_leak.specs.Leaks.{GoesOn, HasHalted, Takes, TakesSome}

-- The outcome shows that the machine has not halted.
outcome_tells : (b : Bool) → ◌≡◌ {A = Outcome} (if b then Halted else OutOfBudget) OutOfBudget → b ≡ false
outcome_tells true h = cc
outcome_tells false h = refl

-- The outcome shows that the machine has halted.
outcome_halted : (b : Bool) → ◌≡◌ {A = Outcome} (if b then Halted else OutOfBudget) Halted → b ≡ true
outcome_halted true h = refl
outcome_halted false h = cc

-- A run that is out of budget goes on.
pub going : (image : Image) (m : Store) (budget : ℕ) (s : State) → run_of image m budget ≡ Some s →
    outcome_of s ≡ OutOfBudget → GoesOn image m budget
going image m budget s reached out = record { state = s; reached = reached; going = outcome_tells s.halted out }

-- A halted run ends in the machine's words.
halts_with : (image : Image) (m : Store) (n : ℕ) (m' : Store) → Ends image m n m' → HaltsWith image m n m'
halts_with image m n m' h =
    subst (λ (o : Option State). IsSomeAnd o (λ s. IsTrue s.halted × (globals_of image s ≡ m'))) (sym h.reached)
    (h.halted, h.words)

-- A run that is reported as halted ends with its globals' words.
pub ends : (image : Image) (m : Store) (budget : ℕ) (s : State) (words : Store) → run_of image m budget ≡ Some s →
    outcome_of s ≡ Halted → globals_of image s ≡ words → Ends image m budget words
ends image m budget s words reached out is =
    record { state = s; reached = reached; halted = outcome_halted s.halted out; words = is }

-- A run that is reported as halted has halted.
pub halted : (image : Image) (m : Store) (budget : ℕ) (s : State) → run_of image m budget ≡ Some s →
    outcome_of s ≡ Halted → HasHalted image m budget
halted image m budget s reached out = (globals_of image s, ends image m budget s (globals_of image s) reached out refl)

-- Every run goes on within a budget of 0.
pub starts : (image : Image) (m : Store) → GoesOn image m 0
starts image m = record { state = start image m; reached = refl; going = refl }

-- A run that has halted within a budget has also halted within any greater one.
pub lasts : (image : Image) (m : Store) (n k : ℕ) → HasHalted image m n → n ≤ k → ¬ (GoesOn image m k)
lasts image m n k h le g =
    let code = image.code.items in
    let more : k ≡ n + (k - n) = omega (arith, le) in
    let there : run_of image m k ≡ Some h.1.state =
    ap (run_of image m) more ∙ halting_lasts code n (k - n) (start image m) h.1.state h.1.reached h.1.halted in
    let same : h.1.state ≡ g.state = same_Some _ _ (sym there ∙ g.reached) in
    both_ways h.1.state.halted (ap (λ (s : State). s.halted) same ∙ g.going) h.1.halted

-- If a run goes on within one budget and has halted within another, the first is smaller.
pub ordered : (image : Image) (m : Store) (n k : ℕ) → GoesOn image m n → HasHalted image m k → n < k
ordered image m n k g h = let later : ¬ (k ≤ n) = λ le. lasts image m k n h le g in omega (arith, later)

-- A run that has halted within a number of instructions, and not within one fewer, takes that number.
pub takes : (image : Image) (m : Store) (n k : ℕ) → GoesOn image m n → HasHalted image m k → k ≤ n + 1 →
    TakesSome image m k
takes image m n k g h le =
    let lt = ordered image m n k g h in
    let less : n ≡ k - 1 = omega (arith, lt, le) in
    (h.0, record { ends = h.1; before = subst (GoesOn image m) less g })

-- A run takes one number of instructions.
pub one_count : (image : Image) (m m₁ m₂ : Store) (n k : ℕ) → Takes image m n m₁ → Takes image m k m₂ → n ≡ k
one_count image m m₁ m₂ n k h h' =
    let below : k - 1 < n = ordered image m (k - 1) n h'.before (m₁, h.ends) in
    let above : n - 1 < k = ordered image m (n - 1) k h.before (m₂, h'.ends) in
    omega (arith, below, above)

-- Two halted runs from one store end in the same words.
pub one_end : (image : Image) (m m₁ m₂ : Store) (n k : ℕ) → Ends image m n m₁ → Ends image m k m₂ → m₁ ≡ m₂
one_end image m m₁ m₂ n k h h' =
    one_ending image m m₁ m₂ n k (halts_with image m n m₁ h) (halts_with image m k m₂ h')

-- The ending reported for a run that takes this many instructions, and halts with these words within a budget, is true.
pub ends_so : (image : Image) (m words : Store) (n budget : ℕ) → TakesSome image m n → Ends image m budget words →
    Takes image m n words
ends_so image m words n budget h e =
    subst (Takes image m n) (one_end image m h.0 words n budget h.1.ends e) h.1
