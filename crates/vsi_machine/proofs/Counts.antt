-- Counts of instructions.
use Rattle.std.proofs.Common.{◌≡◌, ◌-◌, Bool, ℕ, ◌+◌, ◌<◌, ◌≤◌, ◌⊎◌, ℤ, List, Option, Some, None, true, false, ap, ◌∙◌, refl, sym, subst, arith, option_and_then, inl, inr}
use Rattle.std.specs.Prelude.{IsTrue, not, if◌then◌else◌}
use Rattle.std.proofs.lemmas.Bool.{cases_lt}
use Rattle.vsi_image.specs.declared.instr.Instr.{Instr}
use Rattle.vsi_image.specs.declared.instr.Image.{Image}
use Rattle.vsi_image.specs.Meaning.{State, after, start, stepped}
use Rattle.vsi_machine.specs.Runs.{run_of, outcome_of}
use Rattle.vsi_machine.specs.declared.interpreter.Outcome.TheVariants.{Halted, OutOfBudget}
use Rattle.vsi_machine.proofs.Budgets.{budgets_add, halting_lasts}
use Rattle.vsi_machine.specs.Counting.{Halts, GoesOn, HaltsIn}
use Rattle.vsi_machine.specs.Laws.{OneCount, CountDecides}

-- None is not a value.
none_is : {X : Type 0} {x : X} → None ≡ Some x → ⊥
none_is e = cc

-- A run that reached a halted state doesn't go on.
pub never_both : (o : Option State) → Halts o → GoesOn o → ⊥
never_both None h g = absurd h
never_both (Some s) h g = by s.halted h g
  where
    by : (b : Bool) → IsTrue b → b ≡ false → ⊥
    by true h g = absurd (let no : true ≡ false = g in cc)
    by false h g = absurd (let no : false ≡ true = h in cc)

-- A run that reached a state that has not halted goes on.
pub goes_on : (o : Option State) (s : State) → o ≡ Some s → s.halted ≡ false → GoesOn o
goes_on o s e g = subst GoesOn (sym e) g

-- A run that reached a halted state halts.
pub halts : (o : Option State) (s : State) → o ≡ Some s → s.halted ≡ true → Halts o
halts o s e h = subst Halts (sym e) (subst IsTrue (sym h) refl)

-- A run that halts is in the same state after every larger budget.
pub longer_same : (code : List Instr) (b budget : ℕ) (s : State) → Halts (after code b s) → b ≤ budget
    → after code budget s ≡ after code b s
longer_same code b budget s h le = by (after code b s) refl h
  where
    by : (o : Option State) → after code b s ≡ o → Halts o → after code budget s ≡ after code b s
    by None e h = absurd h
    by (Some s') e h =
        let sum : budget ≡ b + (budget - b) = omega (arith, le) in
        ap (λ n. after code n s) sum ∙ halting_lasts code b (budget - b) s s' e h ∙ sym e

-- A run that halts also halts within every larger budget.
pub halts_longer : (code : List Instr) (b budget : ℕ) (s : State) → Halts (after code b s) → b ≤ budget
    → Halts (after code budget s)
halts_longer code b budget s h le = subst Halts (sym (longer_same code b budget s h le)) h

-- A run can be continued from the state that another one reached.
pub go_on : (code : List Instr) (a b : ℕ) (s s' : State) → after code a s ≡ Some s'
    → after code (a + b) s ≡ after code b s'
go_on code a b s s' e = budgets_add code a b s ∙ ap (option_and_then (after code b)) e

-- The same if the second run is of an image equal to the first one.
pub goes_from : (image held : Image) (a b : ℕ) (s s' s'' : State) → held ≡ image → after image.code.items a s ≡ Some s'
    → after held.code.items b s' ≡ Some s'' → after image.code.items (a + b) s ≡ Some s''
goes_from image held a b s s' s'' same e more =
    go_on image.code.items a b s s' e
    ∙ subst (λ (im : Image). after im.code.items b s' ≡ Some s'') same more

-- A run that halts within a number of instructions, and within no smaller number, has that count.
pub count_is : (image : Image) (words : List ℤ) (n : ℕ) → Halts (run_of image words n)
    → ((m : ℕ) → m < n → GoesOn (run_of image words m)) → HaltsIn image words n
count_is image words n h each = record {
  halts = h;
  least = λ b k. elim (cases_lt b n) [ inl l ↦ absurd (never_both _ k (each b l)) | inr ge ↦ ge ];
}

-- A run that goes on also went on before.
pub went_on : (code : List Instr) (n m : ℕ) (s : State) (t : State) → m < n → after code n s ≡ Some t
    → t.halted ≡ false → GoesOn (after code m s)
went_on code n m s t lt e g = by (after code m s) refl
  where
    rest : ℕ
    rest = n - m

    whole : after code n s ≡ option_and_then (after code rest) (after code m s)
    whole = let sum : n ≡ m + rest = omega (arith, lt) in
        ap (λ k. after code k s) sum ∙ budgets_add code m rest s

    of_state : (u : State) → after code m s ≡ Some u → (b : Bool) → u.halted ≡ b → u.halted ≡ false
    of_state u q false r = r
    of_state u q true r =
        let le : m ≤ n = omega (arith, lt) in
        absurd (never_both (after code n s) (halts_longer code m n s (halts (after code m s) u q r) le)
        (goes_on (after code n s) t e g))

    by : (o : Option State) → after code m s ≡ o → GoesOn (after code m s)
    by None q = absurd (none_is (sym (sym e ∙ whole ∙ ap (option_and_then (after code rest)) q)))
    by (Some u) q = goes_on (after code m s) u q (of_state u q u.halted refl)

-- Executing the next instruction is one more instruction of the run.
pub one_more : (code : List Instr) (n : ℕ) (s u v : State) → after code n s ≡ Some u → stepped code u ≡ Some v
    → after code (n + 1) s ≡ Some v
one_more code n s u v e f = go_on code n 1 s u e ∙ ap (option_and_then (after code 0)) f

-- If a run goes on within every smaller budget and within this one, it goes on within every budget below the next.
pub each_more : (code : List Instr) (n : ℕ) (s : State) → ((m : ℕ) → m < n → GoesOn (after code m s))
    → GoesOn (after code n s) → (m : ℕ) → m < n + 1 → GoesOn (after code m s)
each_more code n s each g m lt = elim (cases_lt m n) [
  | inl l ↦ each m l
  | inr ge ↦ let e : n ≡ m = omega (arith, lt, ge) in subst (λ (k : ℕ). GoesOn (after code k s)) e g
]

-- A machine that executes an instruction hasn't halted.
pub did_one : (h r : Bool) → r ≡ not h → r ≡ true → h ≡ false
did_one false r e f = refl
did_one true r e f = absurd (let bad : true ≡ false = sym f ∙ e in cc)

-- The outcome of a run says whether it has halted.
pub halted_of : (s : State) → outcome_of s ≡ Halted → s.halted ≡ true
halted_of s e = by s.halted refl
  where
    by : (b : Bool) → s.halted ≡ b → s.halted ≡ true
    by true h = h
    by false h = absurd (let bad : OutOfBudget ≡ Halted = sym (ap (λ b. if b then Halted else OutOfBudget) h) ∙ e in cc)

-- A run that is out of budget hasn't halted.
pub going_of : (s : State) → outcome_of s ≡ OutOfBudget → s.halted ≡ false
going_of s e = by s.halted refl
  where
    by : (b : Bool) → s.halted ≡ b → s.halted ≡ false
    by false h = h
    by true h = absurd (let bad : Halted ≡ OutOfBudget = sym (ap (λ b. if b then Halted else OutOfBudget) h) ∙ e in cc)

-- A property of a run of a machine at its start is one of the image's run.
from_start : (P : Option State → Type 0) (im image : Image) (s : State) (words : List ℤ) (b : ℕ) → im ≡ image
    → s ≡ start image words → P (after im.code.items b s) → P (run_of image words b)
from_start P im image s words b e f h =
    subst (λ (x : State). P (after image.code.items b x)) f (subst (λ (i : Image). P (after i.code.items b s)) e h)

-- A run whose first part was executed in one go, and the rest one by one.
module _ (image : Image) (words : List ℤ) (budget done more : ℕ) (le : done ≤ budget) (t u : State)
    (first : run_of image words done ≡ Some t) (going : GoesOn (run_of image words done))
    (enough : Halts (run_of image words budget)) (rest : after image.code.items more t ≡ Some u)
    (each : (n : ℕ) → n < more → GoesOn (after image.code.items n t))
    (ends : (u.halted ≡ true) ⊎ (more ≡ budget - done)) where
  -- A run of both numbers of instructions reaches the state.
  both : run_of image words (done + more) ≡ Some u
  both = go_on image.code.items done more (start image words) t first ∙ rest

  -- A run that halts is in a halted state.
  some_halted : (o : Option State) → o ≡ Some u → Halts o → u.halted ≡ true
  some_halted o e h = let k : Halts (Some u) = subst Halts e h in k

  -- The state has halted.
  has_halted : u.halted ≡ true
  has_halted = elim ends [
    | inl h ↦ h
    | inr e ↦ let sum : budget ≡ done + more = omega (arith, le, e) in
        some_halted (run_of image words (done + more)) both (subst (λ (n : ℕ). Halts (run_of image words n)) sum enough)
  ]

  -- With fewer instructions the run goes on.
  before : (n : ℕ) → n < done + more → GoesOn (run_of image words n)
  before n lt = elim (cases_lt n done) [
    | inl l ↦ by (run_of image words done) refl going l
    | inr ge ↦ let sum : n ≡ done + (n - done) = omega (arith, ge) in
        let small : n - done < more = omega (arith, ge, lt) in
        subst GoesOn (sym (ap (run_of image words) sum ∙ go_on image.code.items done (n - done) (start image words) t first))
        (each (n - done) small)
  ]
    where
      by : (o : Option State) → run_of image words done ≡ o → GoesOn o → n < done → GoesOn (run_of image words n)
      by None e h l = absurd h
      by (Some s) e h l = went_on image.code.items done n (start image words) s l e h

  -- The run halts after exactly this many instructions.
  counted_exact : HaltsIn image words (done + more)
  counted_exact = count_is image words (done + more) (halts (run_of image words (done + more)) u both has_halted) before

  -- The run within the budget reaches the state.
  counted_state : run_of image words budget ≡ Some u
  counted_state =
      longer_same image.code.items (done + more) budget (start image words) counted_exact.halts
      (counted_exact.least budget enough) ∙ both

-- The facts about a run that halts within a budget: the state, and the number of instructions after which it halts.
pub record IsCounted (image : Image) (words : List ℤ) (budget n : ℕ) (u : State) : Type 0 where
  pub state : run_of image words budget ≡ Some u
  pub halted : u.halted ≡ true
  pub exact : HaltsIn image words n

-- A machine from the start halts within the budget; a mark has the state after a part of the run, and executes the rest
-- one by one.
pub is_counted : (image : Image) (words : List ℤ) (budget done more : ℕ) → done ≤ budget → (one two rest : Image)
    → (first t u : State) → one ≡ image → first ≡ start image words → two ≡ image → rest ≡ two
    → after one.code.items done first ≡ Some t → GoesOn (after one.code.items done first)
    → Halts (after one.code.items budget first) → after rest.code.items more t ≡ Some u
    → ((n : ℕ) → n < more → GoesOn (after rest.code.items n t)) → (u.halted ≡ true) ⊎ (more ≡ budget - done)
    → IsCounted image words budget (done + more) u
is_counted image words budget done more le one two rest first t u i f i' r part going enough last each ends =
    let same = r ∙ i' in
    let reached = from_start (λ o. o ≡ Some t) one image first words done i f part in
    let goes = from_start GoesOn one image first words done i f going in
    let halts_then = from_start Halts one image first words budget i f enough in
    let state = subst (λ (im : Image). after im.code.items more t ≡ Some u) same last in
    let all = subst (λ (im : Image). (n : ℕ) → n < more → GoesOn (after im.code.items n t)) same each in
    record {
      state = counted_state image words budget done more le t u reached goes halts_then state all ends;
      halted = has_halted image words budget done more le t u reached goes halts_then state all ends;
      exact = counted_exact image words budget done more le t u reached goes halts_then state all ends;
    }

-- There is at most one count.
pub one_count : OneCount
one_count image words n m h k = omega (arith, h.least m k.halts, k.least n h.halts)

-- The count decides which budgets are sufficient.
pub count_decides : CountDecides
count_decides image words n budget h =
    (h.least budget, λ le. halts_longer image.code.items n budget (start image words) h.halts le)
