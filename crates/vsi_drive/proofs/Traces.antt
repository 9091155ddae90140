-- How a trace grows, and when it stops growing.
use Rattle.std.proofs.Common.{◌≡◌, ℕ, zero, suc, ◌+◌, ◌-◌, ◌≤◌, ◌<◌, List, [], ◌∷◌, ◌++◌, true, refl, sym, ap, subst, ◌∙◌, Option, Some, None, append-nil, append_assoc, length, take, drop, arith, option_and_then, unwrap_or, take-append-drop}
use Rattle.std.specs.Option.{option_map}
use Rattle.std.specs.Io.KnownBytes.{Appends}
use Rattle.std.proofs.KnownBytes.{Appends-trans}
use Rattle.std.proofs.Math.Seq.{take-append_seam}
use Rattle.vsi_image.specs.declared.instr.Instr.{Instr}
use Rattle.vsi_image.specs.Meaning.{State, stepped, after}
use Rattle.vsi_machine.specs.Trace.{trace_line}
use Rattle.vsi_machine.proofs.Budgets.{budgets_add, halting_lasts}
use Rattle.vsi_drive.specs.Running.{ended, line_at, trace_text}

-- One more step.
pub after_more : (code : List Instr) (i : ℕ) (s t u : State) → after code i s ≡ Some t → stepped code t ≡ Some u →
    after code (i + 1) s ≡ Some u
after_more code i s t u reached step =
    budgets_add code i 1 s ∙ ap (λ o. option_and_then (after code 1) o) reached
    ∙ ap (λ o. option_and_then (after code 0) o) step

-- A halted machine stays halted.
pub after_halt : (code : List Instr) (i n : ℕ) (s t : State) → i ≤ n → after code i s ≡ Some t → t.halted ≡ true →
    after code n s ≡ Some t
after_halt code i n s t le reached halted =
    subst (λ k. after code k s ≡ Some t) (omega (arith, le)) (halting_lasts code i (n - i) s t reached halted)

-- A trace has the line of the state before its last step.
pub trace_more : (code : List Instr) (i : ℕ) (s t : State) → after code i s ≡ Some t →
    trace_text code (i + 1) s ≡ trace_text code i s ++ line_at code (Some t)
trace_more code i s t reached =
    ap (λ n. trace_text code n s) (let same : i + 1 ≡ suc i = omega arith in same)
    ∙ ap (λ o. trace_text code i s ++ line_at code o) reached

-- A machine that has halted has no line.
no_line : (code : List Instr) (t : State) → t.halted ≡ true → line_at code (Some t) ≡ []
no_line code t halted = rw halted refl

-- After a halt the trace doesn't grow.
pub trace_halt : (code : List Instr) (i k : ℕ) (s t : State) → after code i s ≡ Some t → t.halted ≡ true →
    trace_text code (i + k) s ≡ trace_text code i s
trace_halt code i zero s t reached halted =
    ap (λ n. trace_text code n s) (let same : i + 0 ≡ i = omega arith in same)
trace_halt code i (suc k) s t reached halted =
    let at = after_halt code i (i + k) s t (omega arith) reached halted in
    ap (λ n. trace_text code n s) (let same : i + suc k ≡ (i + k) + 1 = omega arith in same)
    ∙ trace_more code (i + k) s t at
    ∙ ap (λ l. trace_text code (i + k) s ++ l) (no_line code t halted)
    ∙ append-nil (trace_text code (i + k) s)
    ∙ trace_halt code i k s t reached halted

-- The part of a longer trace after a shorter one.
pub trace_rest : (code : List Instr) (i k : ℕ) (s : State) →
    (rest : List ℕ) × (trace_text code (i + k) s ≡ trace_text code i s ++ rest)
trace_rest code i zero s = (
  [],
  ap (λ n. trace_text code n s) (let same : i + 0 ≡ i = omega arith in same)
      ∙ sym (append-nil (trace_text code i s)),
)
trace_rest code i (suc k) s =
    let p = trace_rest code i k s in
    let line = line_at code (after code (i + k) s) in (
      p.0 ++ line,
      ap (λ n. trace_text code n s) (let same : i + suc k ≡ suc (i + k) = omega arith in same)
          ∙ ap (λ l. l ++ line) p.1 ∙ append_assoc (trace_text code i s) p.0 line,
    )

-- The line that a machine returns is the line of its state.
pub line_is : (o : Option (List ℕ)) (x : List ℕ) → Some x ≡ option_map (λ (text : List ℕ). text ++ 10 ∷ []) o →
    x ≡ ended o
line_is None x h = absurd cc
line_is (Some line) x h = ap (λ (p : Option (List ℕ)). unwrap_or p x) h

-- A write that is cut off within the line of a step leaves a prefix of the trace.
pub cut_within : (a b c : Option (List ℕ)) (code : List Instr) (i budget n : ℕ) (s t : State) (text : List ℕ) →
    i < budget → after code i s ≡ Some t → text ≡ line_at code (Some t) →
    Appends a b (trace_text code i s) → Appends b c (take n text) →
    (m : ℕ) × Appends a c (take m (trace_text code budget s))
cut_within a b c code i budget n s t text lt reached is before now =
    let done = trace_text code i s ++ take n text in
    let rest = trace_rest code (i + 1) (budget - (i + 1)) s in
    let split : trace_text code budget s ≡ done ++ (drop n text ++ rest.0) =
    ap (λ k. trace_text code k s) (let same : budget ≡ (i + 1) + (budget - (i + 1)) = omega (arith, lt) in same)
    ∙ rest.1
    ∙ ap (λ l. l ++ rest.0)
    (trace_more code i s t reached ∙ ap (λ l. trace_text code i s ++ l) (sym is ∙ sym (take-append-drop n text)))
    ∙ ap (λ l. l ++ rest.0) (sym (append_assoc (trace_text code i s) (take n text) (drop n text)))
    ∙ append_assoc done (drop n text) rest.0 in
    let cut : take (length done) (trace_text code budget s) ≡ done =
    ap (take (length done)) split ∙ take-append_seam done _ in
    (length done, subst (Appends a c) (sym cut) (Appends-trans a b c _ _ before now))

-- The same if the machine returns the line.
pub cut_line : (a b c : Option (List ℕ)) (code : List Instr) (i budget n : ℕ) (s t : State) (text : List ℕ) →
    i < budget → after code i s ≡ Some t → Some text ≡ option_map (λ (x : List ℕ). x ++ 10 ∷ []) (trace_line code t) →
    Appends a b (trace_text code i s) → Appends b c (take n text) →
    (m : ℕ) × Appends a c (take m (trace_text code budget s))
cut_line a b c code i budget n s t text lt reached is before now =
    cut_within a b c code i budget n s t text lt reached (line_is (trace_line code t) text is) before now

-- One more whole line.
pub line_more : (a b c : Option (List ℕ)) (code : List Instr) (i : ℕ) (s t : State) (text : List ℕ) →
    after code i s ≡ Some t → Some text ≡ option_map (λ (x : List ℕ). x ++ 10 ∷ []) (trace_line code t) →
    Appends a b (trace_text code i s) → Appends b c text → Appends a c (trace_text code (i + 1) s)
line_more a b c code i s t text reached is before now =
    subst (Appends a c)
    (ap (λ (l : List ℕ). trace_text code i s ++ l) (line_is (trace_line code t) text is)
    ∙ sym (trace_more code i s t reached))
    (Appends-trans a b c _ _ before now)

-- Nothing more is written after the machine has halted.
pub halt_written : (a b : Option (List ℕ)) (code : List Instr) (i budget : ℕ) (s t : State) → i < budget →
    after code i s ≡ Some t → t.halted ≡ true → Appends a b (trace_text code i s) →
    Appends a b (trace_text code budget s)
halt_written a b code i budget s t lt reached halted written =
    subst (Appends a b)
    (sym (trace_halt code i (budget - i) s t reached halted)
    ∙ ap (λ n. trace_text code n s) (let same : i + (budget - i) ≡ budget = omega (arith, lt) in same))
    written
