-- Answers, and what becomes of them.
use Rattle.std.proofs.Common.{◌≡◌, ◌<◌, ◌⊎◌, ◌∙◌, ℕ, Bool, true, false, List, Option, Result, Ok, Err, inl, inr, refl, sym, ap, subst, arith}
use Rattle.std.specs.Prelude.{◌≢◌, IfErr, IfOk, IsErrAnd, MatchResult, OnOk}
use Rattle.std.specs.Global.{Vec}
use Rattle.std.specs.Io.KnownBytes.{Appends}
use Rattle.std.proofs.lemmas.Result.{IfErr-weaker, on_ok_weaker}
use Rattle.vsi_arguments.specs.declared.request.Request.{Request}
use Rattle.vsi_subject.specs.declared.failure.Failure.{Failure}
use Rattle.vsi_subject.specs.declared.failure.Failure.TheVariants.{Differs}
use Rattle.vsi_subject.specs.declared.subject.Place.{Place}
use Rattle.vsi_subject.specs.declared.subject.Place.TheVariants.{Image, Out}
use Rattle.vsi_documents.specs.declared.answer.Reply.{Reply}
use Rattle.vsi_subject.specs.Failures.{status_of}
use Rattle.vsi_subject.specs.Holding.{Holding}
use Rattle.vsi_subject.specs.Noted.{CompareBudget, Count, DriveBudget, IsNoteBefore, Notes, NotesAnswer, NotesStop, Nothing, Noting, Sentences, ViewBudget, Warning}
use Rattle.vsi_subject.specs.Partly.{Leaves, WritesPart}
use Rattle.vsi_subject.specs.Performed.{PutsAnswer, Tells, Well}
use Rattle.vsi_subject.specs.Reasons.{WhyAnswer}
use Rattle.vsi_subject.specs.Works.{Puts, Stays, cut_of, end_of, good_reply, place_of, spends}
use Rattle.vsi_subject.proofs.CarriedOut.{each_failure}
use Rattle.vsi_subject.proofs.KeepingLemmas.{beside_same}
use Rattle.vsi_subject.proofs.Partly.{on_ok_of}

-- ---- good texts.

-- A text of a kind is a good answer of that kind.
pub good_told : (Kind : Vec ℕ → Type 0) (answer : Result (Vec ℕ) Failure) (result : Result Reply Failure) →
    MatchResult answer (λ text. result ≡ Ok (good_reply text)) (λ failure. result ≡ Err failure) → IfOk answer Kind →
    IfOk result (λ reply. Well Kind reply.is_good reply.text)
good_told Kind (Ok text) result is told =
    subst (λ r. IfOk r (λ reply. Well Kind reply.is_good reply.text)) (sym is) told
good_told Kind (Err failure) result is told =
    subst (λ r. IfOk r (λ reply. Well Kind reply.is_good reply.text)) (sym is) tt

-- Where there is no text, there is no answer for the same reason.
pub good_failed : (So : Failure → Type 0) (answer : Result (Vec ℕ) Failure) (result : Result Reply Failure) →
    MatchResult answer (λ text. result ≡ Ok (good_reply text)) (λ failure. result ≡ Err failure) → IfErr answer So →
    IfErr result So
good_failed So (Ok text) result is told = subst (λ r. IfErr r So) (sym is) tt
good_failed So (Err failure) result is told = subst (λ r. IfErr r So) (sym is) told

-- A fact that holds where there is a text holds where there is an answer.
pub good_done : (A : Type 0) (answer : Result (Vec ℕ) Failure) (result : Result Reply Failure) →
    MatchResult answer (λ text. result ≡ Ok (good_reply text)) (λ failure. result ≡ Err failure) → OnOk answer A →
    OnOk result A
good_done A (Ok text) result is told = subst (λ r. OnOk r A) (sym is) told
good_done A (Err failure) result is told = subst (λ r. OnOk r A) (sym is) tt

-- ---- the end of an answer.

-- A bad answer that is no difference is the whole of what may be written below its status.
bad_silent : (spent : Bool) (failure : Failure) → failure ≡ end_of spent → failure ≢ Differs →
    status_of failure < cut_of spent → ⊥
bad_silent true failure is other below =
    let three : status_of failure ≡ 3 = ap status_of is in omega (arith, three, below)
bad_silent false failure is other below = other is

-- A late failure is no earlier.
late_cut : (spent : Bool) (failure : Failure) → 3 < status_of failure → status_of failure < cut_of spent → ⊥
late_cut true failure late below = omega (arith, late, below)
late_cut false failure late below = omega (arith, late, below)

-- An answer that has failed leaves a part of it.
pub ended_leaves : {T : Type 0} (Kind : List ℕ → Type 0) (spent : Bool) (otherwise : Failure) (Bad Told : Type 0)
    (old new : Option (List ℕ)) (text : List ℕ) (result : Result T Failure) → otherwise ≡ end_of spent → Kind text →
    IfErr result (λ failure. ((failure ≡ otherwise) × Bad × Told) ⊎ (3 < status_of failure)) →
    WritesPart text old new → IfErr result (Leaves Kind (cut_of spent) old new)
ended_leaves Kind spent otherwise Bad Told old new text (Ok x) is kind failed part = tt
ended_leaves Kind spent otherwise Bad Told old new text (Err failure) is kind (inl bad) part = record {
  partly = inr (text, kind, part);
  silent = λ other below. absurd (bad_silent spent failure (bad.0 ∙ is) other below);
}
ended_leaves Kind spent otherwise Bad Told old new text (Err failure) is kind (inr late) part = record {
  partly = inr (text, kind, part);
  silent = λ other below. absurd (late_cut spent failure late below);
}

-- A good answer has been put into its place.
pub ended_puts : {T : Type 0} (holds left : Holding) (asked : Request) (place : Place) (good : Bool) (text : Vec ℕ)
    (old new : Option (List ℕ)) (result : Result T Failure) → place ≡ place_of asked →
    Tells holds asked good text → OnOk result ((good ≡ true) × Puts place text.items holds left old new) →
    OnOk result (PutsAnswer holds asked left old new)
ended_puts holds left asked place good text old new result is told put =
    on_ok_weaker result
    (λ done. record {
      text = text;
      is = subst (λ g. Tells holds asked g text) done.0 told;
      put = subst (λ p. Puts p text.items holds left old new) is done.1;
    })
    put

-- A bad answer, or a late failure, is why a request has failed.
pub ended_why : {T : Type 0} (holds : Holding) (asked : Request) (otherwise : Failure) (good : Bool) (text : Vec ℕ)
    (old new : Option (List ℕ)) (result : Result T Failure) → otherwise ≡ end_of (spends asked) →
    Tells holds asked good text →
    IfErr result (λ failure. ((failure ≡ otherwise) × (good ≡ false) × Appends old new text.items)
    ⊎ (3 < status_of failure)) →
    IfErr result (WhyAnswer holds asked old new)
ended_why holds asked otherwise good text old new result is told failed =
    IfErr-weaker result
    (λ failure. ((failure ≡ otherwise) × (good ≡ false) × Appends old new text.items) ⊎ (3 < status_of failure))
    (WhyAnswer holds asked old new)
    (λ failure so. elim so [
      | inl bad ↦ inr (inl (record {
        is = bad.0 ∙ is;
        written = record {
          text = text;
          is = subst (λ g. Tells holds asked g text) bad.1 told;
          written = bad.2;
        };
      }))
      | inr late ↦ inr (inr late)
    ])
    failed

-- Where no file has changed, an answer stays out of its place.
pub stays_same : (place : Place) (holds : Holding) → Stays place holds holds
stays_same (Image path) holds = λ other apart. refl
stays_same (Out out) holds = beside_same out holds

-- An answer that has been kept out of its place.
pub ended_stays : {T : Type 0} (holds left : Holding) (place same : Place) (result : Result T Failure) →
    place ≡ same → IfErr result (λ _. Stays place holds left) → IfErr result (λ _. Stays same holds left)
ended_stays holds left place same result is stays = subst (λ p. IfErr result (λ _. Stays p holds left)) is stays

-- ---- the lines about it.

-- The lines about an answer are those about what becomes of it.
pub notes_after : {T : Type 0} (holds : Holding) (n : Noting) (result : Result T Failure) (note : List ℕ) →
    NotesAnswer holds n note → Notes holds n result note
notes_after holds (Count e o has_count) result note so = absurd so
notes_after holds (DriveBudget d) result note so = absurd so
notes_after holds (ViewBudget v) result note so = (on_ok_of result so, each_failure _ result (λ failure. inr so))
notes_after holds (CompareBudget c) result note so = (on_ok_of result so, each_failure _ result (λ failure. inr so))
notes_after holds Sentences result note so = tt
notes_after holds Warning result note so = so
notes_after holds Nothing result note so = so

-- The lines before a failure are those of the failure that is passed on.
pub notes_before : {T : Type 0} (holds : Holding) (n : Noting) (failure : Failure) (result : Result T Failure)
    (note : List ℕ) → IsErrAnd result (λ e. e ≡ failure) → IsNoteBefore holds n failure note → Notes holds n result note
notes_before holds n failure (Ok x) note is so = absurd is
notes_before holds (Count e o has_count) failure (Err f) note is so = tt
notes_before holds (DriveBudget d) failure (Err f) note is so = (tt, subst (λ s. NotesStop holds d s note) (sym is) so)
notes_before holds (ViewBudget v) failure (Err f) note is so = (tt, so)
notes_before holds (CompareBudget c) failure (Err f) note is so = (tt, so)
notes_before holds Sentences failure (Err f) note is so = tt
notes_before holds Warning failure (Err f) note is so = so
notes_before holds Nothing failure (Err f) note is so = so
