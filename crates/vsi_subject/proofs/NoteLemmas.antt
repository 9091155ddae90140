-- The lines on standard error after a request that has been performed.
use Rattle.std.proofs.Common.{◌≡◌, ◌++◌, ◌∙◌, ℕ, ℤ, ◌+◌, ◌-◌, ◌%◌, ◌^◌, ◌<◌, ◌==◌, ◌&&◌, Bool, true, false, List, [], ◌∷◌, Option, Some, None, Result, Ok, Err, inl, inr, refl, sym, ap, subst, codes, arith}
use Rattle.std.specs.Prelude.{IfErr, IsErrAnd, IsTrue, OnOk, String, decimal, if◌then◌else◌}
use Rattle.std.specs.declared.alloc.Global.{Global}
use Rattle.std.proofs.lemmas.Bool.{and_from, and_parts}
use Rattle.std.proofs.lemmas.Fmt.{decimal_by_steps}
use Rattle.std.proofs.lemmas.List.Folds.{list_all-append}
use Rattle.vsi_telling.specs.Safe.{all_plain, is_plain}
use Rattle.vsi_image.specs.declared.instr.Image.{Image}
use Rattle.vsi_machine.specs.Counting.{Halts}
use Rattle.vsi_machine.specs.CountTexts.{count_line}
use Rattle.vsi_machine.specs.Runs.{run_of}
use Rattle.vsi_drive.specs.Running.{RunsApart}
use Rattle.vsi_drive.specs.declared.engine.Counted.{Counted}
use Rattle.vsi_subject.specs.Holding.{Holding}
use Rattle.vsi_subject.specs.Noted.{CompareBudget, Count, Counts, DriveBudget, IsNote, IsNoteBefore, Nothing, Notes, NotesOf, Noting, Sentences, TellsNote, ViewBudget, Warning}
use Rattle.vsi_subject.specs.Screen.{colour_length, is_tame, is_tame_after, tamed}
use Rattle.vsi_subject.specs.Failures.{Gets, status_of}
use Rattle.vsi_subject.specs.declared.failure.Failure.{Failure}
use Rattle.vsi_subject.proofs.ScreenLemmas.{tamed_tame}
use Rattle.vsi_subject.proofs.Failed.{done_at_zero}

-- A text that begins with a plain byte begins with no sequence for colours.
plain_begins : (b : ℕ) (rest : List ℕ) → is_plain b ≡ true → colour_length (b ∷ rest) ≡ 0
plain_begins b rest plain = grind arith

-- A plain text is tame.
plain_tame : (bytes : List ℕ) → all_plain bytes ≡ true → is_tame bytes ≡ true
plain_tame [] all = refl
plain_tame (b ∷ rest) all =
    let p = and_parts (is_plain b) (all_plain rest) all in
    ap (λ k. if k == 0 then is_plain b && is_tame_after 0 rest else is_tame_after (k - 1) rest)
    (plain_begins b rest p.0)
    ∙ and_from _ _ p.0 (plain_tame rest p.1)

-- A decimal digit is plain.
digit_plain : (d : ℕ) → d < 10 → is_plain (48 + d) ≡ true
digit_plain d small = grind arith

-- The text of a number is plain.
decimal_plain : (n : ℕ) → n < 2 ^ 64 → all_plain (decimal n) ≡ true
decimal_plain =
    decimal_by_steps (λ n ds. all_plain ds ≡ true)
    (λ n small. and_from _ _ (digit_plain n small) refl)
    (λ n ds large plain.
    list_all-append is_plain ds ((48 + n % 10) ∷ [])
    ∙ and_from _ _ plain (and_from _ _ (digit_plain (n % 10) (omega arith)) refl))

-- The line of a count is tame.
count_tame : (n : ℕ) → n < 2 ^ 64 → is_tame (count_line n) ≡ true
count_tame n fits =
    plain_tame (count_line n)
    (list_all-append is_plain (codes "instructions: ") (decimal n ++ codes "\n")
    ∙ list_all-append is_plain (decimal n) (codes "\n") ∙ ap (λ b. b && true) (decimal_plain n fits))

-- The line of a count stays as it is.
count_kept : (n : ℕ) → n < 2 ^ 64 → tamed (count_line n) ≡ count_line n
count_kept n fits = ap (λ b. if b then count_line n else []) (count_tame n fits)

-- A run that has left the text of a store has halted.
pub left_halts : (traced : Bool) (image : Image) (words : List ℤ) (budget : ℕ) (text output : List ℕ) →
    RunsApart traced image words budget (Some text) output → Halts (run_of image words budget)
left_halts traced image words budget text output ran = subst Halts (sym ran.reached) (by ran.last.halted _ ran.told)
  where
    by : (b : Bool) (whole : Option (List ℕ)) → Some text ≡ (if b then whole else None) → IsTrue b
    by true whole e = refl
    by false whole e = absurd (cc)

-- The lines about a count stay as they are.
counts_kept : (has_count : Bool) (image : Image) (words : List ℤ) (note : List ℕ) → Counts has_count image words note →
    Counts has_count image words (tamed note)
counts_kept false image words note is = ap tamed is
counts_kept true image words note is = (is.0, is.1, is.2, ap tamed is.3 ∙ count_kept is.0 is.2)

-- A fact is a fact after every answer.
pub each_done : {T : Type 0} (A : Type 0) (answer : Result T Failure) → A → OnOk answer A
each_done A (Ok x) fact = fact
each_done A (Err failure) fact = tt

-- The lines after an answer without a failure are those of their kind, once untamed ones are left out.
pub noted_ok : {T : Type 0} (holds : Holding) (n : Noting) (x : T) (note : List ℕ) → Notes holds n (Ok x) note →
    IsNote holds n (tamed note)
noted_ok holds (Count e o has_count) x note is = record {
  image = is.image;
  words = is.words;
  begins = is.begins;
  counts = counts_kept has_count is.image is.words note is.counts;
}
noted_ok holds (DriveBudget d) x note is = (note, is.0, refl)
noted_ok holds (ViewBudget v) x note is = (note, is.0, refl)
noted_ok holds (CompareBudget c) x note is = (note, is.0, refl)
noted_ok holds Sentences x note is = tt
noted_ok holds Warning x note (inl none) = inl (ap tamed none)
noted_ok holds Warning x note (inr warning) = inr (ap tamed warning)
noted_ok holds Nothing x note is = ap tamed is

-- The lines after a failure are those of their kind before it.
pub noted_err : (T : Type 0) (holds : Holding) (n : Noting) (failure : Failure) (note : List ℕ) →
    Notes {T = T} holds n (Err failure) note → IsNoteBefore holds n failure note
noted_err T holds (Count e o has_count) failure note is = tt
noted_err T holds (DriveBudget d) failure note is = is.1
noted_err T holds (ViewBudget v) failure note is = is.1
noted_err T holds (CompareBudget c) failure note is = is.1
noted_err T holds Sentences failure note is = tt
noted_err T holds Warning failure note is = is
noted_err T holds Nothing failure note is = is

-- A fact about a failure is one about an answer that passes it on.
both_failed : {U : Type 0} (A : Type 0) (P : Failure → Type 0) (later : Result U Failure) (failure : Failure) →
    IsErrAnd later (λ s. s ≡ failure) → P failure → OnOk later A × IfErr later P
both_failed A P (Ok x) failure is so = absurd is
both_failed A P (Err f) failure is so = (tt, subst P (sym is) so)

-- The lines after a request are written at status 0.
pub tells_note : {T E : Type 0} (holds : Holding) (words : List (String Global)) (contents : E → Option (List ℕ))
    (old new : Counted E) (lines : List ℕ) (answer : Result T Failure) (status : ℕ) →
    OnOk answer (NotesOf holds words (tamed lines)) → OnOk answer (Gets contents old new (tamed lines)) →
    IfErr answer (λ failure. status ≡ status_of failure) → status ≡ 0 → TellsNote holds words contents old new
tells_note holds words contents old new lines answer status noted gets is zero = record {
  note = tamed lines;
  tame = tamed_tame lines;
  is = done_at_zero answer status noted is zero;
  told = done_at_zero answer status gets is zero;
}
