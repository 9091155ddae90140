-- The combined output of a run's parts.
use Rattle.std.proofs.Common.{◌≡◌, ℕ, List, ◌++◌, Bool, true, false, length, take, drop, min, refl, sym, ap, subst, ◌∙◌, append_assoc, append-nil, [], Option, Some, None, arith, take-append-drop, Result, Ok, Err, ◌⊎◌, inr}
use Rattle.std.specs.Prelude.{ℤ, IfOk, if◌then◌else◌}
use Rattle.std.specs.Io.KnownBytes.{Appends, Keeps}
use Rattle.std.proofs.KnownBytes.{Appends-trans}
use Rattle.std.proofs.lemmas.Option.{same_Some}
use Rattle.std.proofs.Math.Seq.{take-append_seam}
use Rattle.std.proofs.lemmas.List.{take_min, take-append-le}
use Rattle.vsi_image.specs.declared.instr.Image.{Image}
use Rattle.vsi_image.specs.Meaning.{State, after, start}
use Rattle.vsi_image.specs.Valid.{IsValid}
use Rattle.vsi_machine.specs.declared.interpreter.Outcome.{Outcome}
use Rattle.vsi_image.specs.Fields.{globals}
use Rattle.vsi_machine.specs.declared.interpreter.Outcome.TheVariants.{Halted, OutOfBudget}
use Rattle.vsi_machine.specs.Runs.{globals_of, outcome_of, run_of}
use Rattle.vsi_store.specs.Text.{store_text_of}
use Rattle.vsi_machine.proofs.Progress.{never_stuck}
use Rattle.vsi_drive.specs.declared.engine.EngineError.{EngineError}
use Rattle.vsi_drive.specs.Running.{RunsAndWrites, RunsApart, Runs, Started, Traces, WrittenApart, WrittenPartly, WrittenSome, WrittenSteps, WrittenWhole, ending_of, text_at, trace_of}

-- A run that leaves a text has halted, and the text is that of its store.
text_halted : (image : Image) (t : State) (text : List ℕ) → Some text ≡ text_at image t →
    (Halted ≡ outcome_of t) × (text ≡ ending_of image t)
text_halted image t text h =
    let told = store_text_of (globals image.globals.items) (globals_of image t) in
    elim t.halted as (λ v. ◌≡◌ {A = Option (List ℕ)} (Some text) (if v then Some told else None) →
    (◌≡◌ {A = Outcome} Halted (if v then Halted else OutOfBudget)) × (text ≡ (if v then told else []))) [
      | true ↦ λ e. (refl, same_Some text told e)
      | false ↦ λ e. absurd (cc)
    ] h

-- A run that leaves no text is out of budget, and no text is written after its trace.
text_spent : (image : Image) (t : State) → None ≡ text_at image t →
    (OutOfBudget ≡ outcome_of t) × ([] ≡ ending_of image t)
text_spent image t h =
    let told = store_text_of (globals image.globals.items) (globals_of image t) in
    elim t.halted as (λ v. ◌≡◌ {A = Option (List ℕ)} None (if v then Some told else None) →
    (◌≡◌ {A = Outcome} OutOfBudget (if v then Halted else OutOfBudget)) × ([] ≡ (if v then told else []))) [
      | true ↦ λ e. absurd (cc)
      | false ↦ λ e. (refl, refl)
    ] h

-- If the outcome says that a run has halted, its text is the text of its store.
pub halted_text : (image : Image) (t : State) → outcome_of t ≡ Halted →
    Some (store_text_of (globals image.globals.items) (globals_of image t)) ≡ text_at image t
halted_text image t h =
    let told = Some (store_text_of (globals image.globals.items) (globals_of image t)) in
    elim t.halted as (λ v. ◌≡◌ {A = Outcome} (if v then Halted else OutOfBudget) Halted →
    ◌≡◌ {A = Option (List ℕ)} told (if v then told else None)) [
      | true ↦ λ e. refl
      | false ↦ λ e. absurd (cc)
    ] h

-- If it says that a run is out of budget, there is no text.
pub spent_text : (image : Image) (t : State) → outcome_of t ≡ OutOfBudget → None ≡ text_at image t
spent_text image t h =
    let told = Some (store_text_of (globals image.globals.items) (globals_of image t)) in
    elim t.halted as (λ v. ◌≡◌ {A = Outcome} (if v then Halted else OutOfBudget) OutOfBudget →
    ◌≡◌ {A = Option (List ℕ)} None (if v then told else None)) [
      | true ↦ λ e. absurd (cc)
      | false ↦ λ e. refl
    ] h

-- A prefix of a text is a prefix of every longer text.
pub longer_text : (a b : Option (List ℕ)) (text rest : List ℕ) → ((n : ℕ) × Appends a b (take n text)) →
    (m : ℕ) × Appends a b (take m (text ++ rest))
longer_text a b text rest p =
    let n = min p.0 (length text) in
    let same : take p.0 text ≡ take n (text ++ rest) =
    sym (take_min p.0 text) ∙ sym (take-append-le n text rest (omega arith)) in
    (n, subst (Appends a b) same p.1)

-- A text and then a prefix of another are a prefix of both.
pub text_then : (a b c : Option (List ℕ)) (text rest : List ℕ) → Appends a b text →
    ((n : ℕ) × Appends b c (take n rest)) → (m : ℕ) × Appends a c (take m (text ++ rest))
text_then a b c text rest written p =
    let done = text ++ take p.0 rest in
    let split : text ++ rest ≡ done ++ drop p.0 rest =
    ap (λ l. text ++ l) (sym (take-append-drop p.0 rest)) ∙ sym (append_assoc text (take p.0 rest) (drop p.0 rest)) in
    let cut : take (length done) (text ++ rest) ≡ done = ap (take (length done)) split ∙ take-append_seam done _ in
    (length done, subst (Appends a c) (sym cut) (Appends-trans a b c _ _ written p.1))

module _ (traced : Bool) (image : Image) (words : List ℤ) (budget : ℕ) where
  -- The trace of a machine that began at the start of the image.
  abbrev begun : Image → State → List ℕ
  begun held s = trace_of traced held.code.items budget s

  -- The trace is that of the image from its start.
  begun_is : (held : Image) (s : State) → held ≡ image → s ≡ start image words →
      begun held s ≡ begun image (start image words)
  begun_is held s same from = ap (λ i. begun i s) same ∙ ap (begun image) from

  -- The run is that of the image from its start.
  run_is : (held : Image) (s t : State) → held ≡ image → s ≡ start image words →
      after held.code.items budget s ≡ Some t → run_of image words budget ≡ Some t
  run_is held s t same from reached =
      subst (λ u. after image.code.items budget u ≡ Some t) from
      (subst (λ i. after i.code.items budget s ≡ Some t) same reached)

  -- A run with a whole trace, and with its text returned separately.
  pub all_apart : (a b : Option (List ℕ)) (held : Image) (s t : State) (text : Option (List ℕ)) → held ≡ image →
      s ≡ start image words → after held.code.items budget s ≡ Some t → text ≡ text_at image t →
      Appends a b (begun held s) → WrittenApart (RunsApart traced image words budget) a b text
  all_apart a b held s t text same from reached told trace = (
    begun image (start image words),
    record {
      last = t;
      reached = run_is held s t same from reached;
      told = told;
      written = refl;
    },
    subst (Appends a b) (begun_is held s same from) trace,
  )

  -- The run whose text is written after its trace.
  ends_halted : (text output : List ℕ) (p : RunsApart traced image words budget (Some text) output) →
      RunsAndWrites traced image words budget Halted (output ++ text)
  ends_halted text output p =
      let h = text_halted image p.last text p.told in
      record {
        last = p.last;
        reached = p.reached;
        ends = h.0;
        written = ap (λ o. o ++ text) p.written ∙ ap (λ e. begun image (start image words) ++ e) h.1;
      }

  -- A run whose text is written after its trace has written its whole output.
  pub text_whole : (a b c : Option (List ℕ)) (text : List ℕ) →
      WrittenApart (RunsApart traced image words budget) a b (Some text) → Appends b c text →
      WrittenWhole (RunsAndWrites traced image words budget) a c Halted
  text_whole a b c text p ending = (p.0 ++ text, ends_halted text p.0 p.1, Appends-trans a b c _ _ p.2 ending)

  -- A run that is out of budget has written its whole output with its trace.
  pub spent_whole : (a b : Option (List ℕ)) → WrittenApart (RunsApart traced image words budget) a b None →
      WrittenWhole (RunsAndWrites traced image words budget) a b OutOfBudget
  spent_whole a b p =
      let h = text_spent image p.1.last p.1.told in
      let trace = begun image (start image words) in (
        p.0,
        record {
          last = p.1.last;
          reached = p.1.reached;
          ends = h.0;
          written = p.1.written ∙ sym (append-nil trace) ∙ ap (λ e. trace ++ e) h.1;
        },
        p.2,
      )

  -- A run whose last lines are cut off.
  pub text_cut : (a b c : Option (List ℕ)) (text : List ℕ) →
      WrittenApart (RunsApart traced image words budget) a b (Some text) → ((n : ℕ) × Appends b c (take n text)) →
      WrittenPartly (RunsAndWrites traced image words budget) a c
  text_cut a b c text p cut =
      (Halted, p.0 ++ text, ends_halted text p.0 p.1, text_then a b c p.0 text p.2 cut)

  -- A run whose trace is cut off.
  pub trace_cut : (a b : Option (List ℕ)) → IsValid image → length words ≡ length image.globals.items →
      ((n : ℕ) × Appends a b (take n (begun image (start image words)))) →
      WrittenPartly (RunsAndWrites traced image words budget) a b
  trace_cut a b valid full cut =
      let last = never_stuck image words budget valid full in (
        outcome_of last.0,
        begun image (start image words) ++ ending_of image last.0,
        record {
          last = last.0;
          reached = last.1.reached;
          ends = refl;
          written = refl;
        },
        longer_text a b _ _ cut,
      )

module _ (traced : Bool) (remaining : Option (List ℕ)) (store : List ℕ) (budget : ℕ) (image : Image)
    (words told : List ℤ) (same : told ≡ words) (started : Started remaining store image words) where
  -- The requested run.
  asked : (outcome : Outcome) (output : List ℕ) → RunsAndWrites traced image told budget outcome output →
      Runs traced remaining store budget outcome output
  asked outcome output ends =
      record {
        image = image;
        words = words;
        started = started;
        ends = subst (λ ws. RunsAndWrites traced image ws budget outcome output) same ends;
      }

  -- A whole output is the output of the requested run.
  pub asked_whole : (a b : Option (List ℕ)) (r : Result Outcome EngineError) →
      IfOk r (WrittenWhole (RunsAndWrites traced image told budget) a b) →
      IfOk r (WrittenWhole (Runs traced remaining store budget) a b)
  asked_whole a b (Ok outcome) p = (p.0, asked outcome p.0 p.1, p.2)
  asked_whole a b (Err e) p = tt

  -- A cut output is a prefix of the requested run's output.
  pub asked_partly : (a b : Option (List ℕ)) → WrittenPartly (RunsAndWrites traced image told budget) a b →
      WrittenPartly (Runs traced remaining store budget) a b
  asked_partly a b p = (p.0, p.1, asked p.0 p.1 p.2, p.3)

  -- A trace is the trace of the requested run.
  pub asked_trace : (a b : Option (List ℕ)) →
      WrittenSteps (λ k. trace_of traced image.code.items k (start image told)) budget a b →
      Keeps a b ⊎ WrittenSome (Traces traced remaining store budget) a b
  asked_trace a b p =
      inr (
        _,
        record {
          image = image;
          words = words;
          started = started;
          steps = p.0;
          within = p.1;
          is = refl;
        },
        subst (λ ws. Appends a b (trace_of traced image.code.items p.0 (start image ws))) same p.2,
      )
