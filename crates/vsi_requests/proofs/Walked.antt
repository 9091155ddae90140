-- Tables with walks whose lines are written part by part.
use Rattle.std.proofs.Common.{◌≡◌, ◌<◌, ◌≤◌, ◌+◌, ◌∙◌, ◌^◌, ◌++◌, ℕ, List, [], Option, Result, Ok, Err, true, length, take, inr, refl, sym, ap, subst, arith}
use Rattle.std.specs.Global.{Vec}
use Rattle.std.specs.Prelude.{IfErr, OnOk}
use Rattle.std.specs.Io.KnownBytes.{Appends}
use Rattle.std.proofs.KnownBytes.{Appends-nil, Appends-trans}
use Rattle.std.proofs.lemmas.List.{append-nil, length-append, take_all}
use Rattle.std.proofs.lemmas.Result.{IfErr-weaker, on_ok_weaker}
use Rattle.vsi_drive.proofs.Outputs.{longer_text, text_then}
use Rattle.vsi_lattice.specs.declared.lattice.Lattice.{Lattice}
use Rattle.vsi_types.specs.declared.rules.Profile.{Profile}
use Rattle.vsi_types.specs.Security.{program, steps_of}
use Rattle.vsi_flows.specs.declared.table.Pair.{Pair}
use Rattle.vsi_flows.specs.declared.text.Walks.{Walks}
use Rattle.vsi_flows.specs.Text.{AddsLines, IsWalksText}
use Rattle.vsi_flows.specs.Walking.{AreWalks}
use Rattle.vsi_flows.specs.Walks.{AreWalkLines}
use Rattle.vsi_flows.proofs.WalkLemmas.{lines_begin, lines_next, lines_none, walks_text}
use Rattle.vsi_answers.specs.Requests.{WalksTo}
use Rattle.vsi_arguments.specs.declared.request.Compilation.{Compilation}
use Rattle.vsi_subject.specs.declared.failure.Failure.{Failure}
use Rattle.vsi_subject.specs.Failures.{status_of}
use Rattle.vsi_subject.specs.Files.{AreFiles, OfFiles, Writes}
use Rattle.vsi_subject.specs.Holding.{Holding}
use Rattle.vsi_subject.specs.Partly.{AnswersFlows, Leaves, WritesPart}
use Rattle.vsi_subject.specs.Performed.{ToldFlows, profile_of}
use Rattle.vsi_subject.specs.Refusals.{AsksFlows, FailsBy, NoOther, RefusesFiles}
use Rattle.vsi_subject.specs.Walked.{IsTextOf}
use Rattle.vsi_subject.proofs.Partly.{Partly-weaker, late_leaf}
use Rattle.vsi_subject.proofs.Reasons.{fails_by}

-- The lines of these pairs, each with a walk.
abbrev pub Makes : Walks → List Pair → List ℕ → Type 0
Makes w pairs text =
    let s = w.table.now.source.now in
    AreWalkLines s.lattice (steps_of w.table.now.profile (program s.resolved)) s.text s.resolved pairs text

-- The lines of the first pairs have been made, and all but the last lines have been written.
pub record HasMade (w : Walks) (number total : ℕ) (lines : List ℕ) (old new : Option (List ℕ)) : Type 0 where
  pub before : List ℕ
  pub written : Appends old new before
  pub count : length before ≡ total
  pub few : total ≤ 2 ^ 62
  pub made : Makes w (take number w.table.now.pairs.items) (before ++ lines)

module _ (w : Walks) (is : AreWalks w) (old : Option (List ℕ)) where
  -- No line has been made yet.
  pub none_made : (lines : List ℕ) → lines ≡ [] → HasMade w 0 0 lines old old
  none_made lines none =
      let s = w.table.now.source.now in
      record {
        before = [];
        written = Appends-nil old;
        count = refl;
        few = omega arith;
        made = lines_none s.lattice (steps_of w.table.now.profile (program s.resolved)) s.text s.resolved lines none;
      }

  -- The lines of one more pair have been made.
  pub made_more : (number total : ℕ) (lines more : List ℕ) (new : Option (List ℕ)) →
      HasMade w number total lines old new →
      AddsLines w.table.now.source.now.lattice
      (steps_of w.table.now.profile (program w.table.now.source.now.resolved)) w.table.now.source.now.text
      w.table.now.source.now.resolved w.table.now.pairs.items number lines more →
      HasMade w (number + 1) total more old new
  made_more number total lines more new h adds =
      let s = w.table.now.source.now in
      record {
        before = h.before;
        written = h.written;
        count = h.count;
        few = h.few;
        made = lines_next s.lattice (steps_of w.table.now.profile (program s.resolved)) s.text s.resolved
            w.table.now.pairs.items number h.before lines more h.made adds;
      }

  -- The last lines have been written too.
  pub made_written : (number total sum : ℕ) (lines none : List ℕ) (mid new : Option (List ℕ)) →
      HasMade w number total lines old mid → Appends mid new lines → none ≡ [] → sum ≡ total + length lines →
      sum ≤ 2 ^ 62 → HasMade w number sum none old new
  made_written number total sum lines none mid new h written empty count few = record {
    before = h.before ++ lines;
    written = Appends-trans old mid new h.before lines h.written written;
    count = omega (arith, length-append h.before lines, h.count, count);
    few = few;
    made = subst (Makes w (take number w.table.now.pairs.items))
        (sym (ap (λ t. (h.before ++ lines) ++ t) empty ∙ append-nil (h.before ++ lines))) h.made;
  }

  -- Where a part of the last lines has been written, a part of the whole text has been.
  pub cut_text : (number total : ℕ) (lines : List ℕ) (mid new : Option (List ℕ)) →
      HasMade w number total lines old mid → WritesPart lines mid new →
      (bytes : List ℕ) × IsTextOf w bytes × WritesPart bytes old new
  cut_text number total lines mid new h part =
      let t = w.table.now in
      let s = t.source.now in
      let rest = lines_begin s.lattice t.profile s.text s.resolved is.table.source t.pairs.items is.table.table
      is.table.verdict number
      (h.before ++ lines) h.made in (
        (h.before ++ lines) ++ rest.0,
        rest.1,
        longer_text old new (h.before ++ lines) rest.0 (text_then old mid new h.before lines h.written part),
      )

  -- Where the lines of all pairs have been written, the whole text has been.
  pub whole_text : (number total : ℕ) (none : List ℕ) (new : Option (List ℕ)) →
      HasMade w number total none old new → length w.table.now.pairs.items ≤ number → none ≡ [] →
      (bytes : List ℕ) × IsTextOf w bytes × (length bytes < 2 ^ 63) × Appends old new bytes
  whole_text number total none new h all empty =
      let t = w.table.now in
      let s = t.source.now in
      let made : Makes w t.pairs.items h.before =
      subst (λ ps. Makes w ps h.before) (take_all number t.pairs.items all)
      (subst (Makes w (take number t.pairs.items)) (ap (λ x. h.before ++ x) empty ∙ append-nil h.before) h.made) in (
        h.before,
        walks_text s.lattice t.profile s.text s.resolved is.table.source t.pairs.items is.table.table is.table.verdict
            h.before made,
        omega (arith, h.count, h.few),
        h.written,
      )

  -- The same, where the last lines are written by a call.
  pub last_written : {T : Type 0} (number total sum : ℕ) (lines none : List ℕ) (mid new : Option (List ℕ))
      (result : Result T Failure) → HasMade w number total lines old mid → length w.table.now.pairs.items ≤ number →
      OnOk result (Appends mid new lines) → OnOk result (none ≡ []) → OnOk result (sum ≡ total + length lines) →
      OnOk result (sum ≤ 2 ^ 62) →
      OnOk result ((bytes : List ℕ) × IsTextOf w bytes × (length bytes < 2 ^ 63) × Appends old new bytes)
  last_written number total sum lines none mid new (Ok x) h all written empty count few =
      whole_text number sum none new (made_written number total sum lines none mid new h written empty count few) all
      empty
  last_written number total sum lines none mid new (Err failure) h all written empty count few = tt

  -- And a part of the whole text, where the call has failed.
  pub last_cut : {T : Type 0} (number total : ℕ) (lines : List ℕ) (mid new : Option (List ℕ))
      (result : Result T Failure) → HasMade w number total lines old mid →
      IfErr result (λ _. WritesPart lines mid new) →
      IfErr result (λ _. (bytes : List ℕ) × IsTextOf w bytes × WritesPart bytes old new)
  last_cut number total lines mid new (Ok x) h part = tt
  last_cut number total lines mid new (Err failure) h part = cut_text number total lines mid new h part

-- The text of a table's walks is that of the lattice, the profile and the source text of the table.
pub text_under : (w : Walks) (l : Lattice) (P : Profile) (text bytes : List ℕ) → w.table.now.source.now.lattice ≡ l →
    w.table.now.profile ≡ P → w.table.now.source.now.text ≡ text → IsTextOf w bytes → IsWalksText l P text bytes
text_under w l P text bytes of_lattice of_profile of_text is =
    subst (λ x. IsWalksText x P text bytes) of_lattice
    (subst (λ x. IsWalksText w.table.now.source.now.lattice x text bytes) of_profile
    (subst (λ x. IsWalksText w.table.now.source.now.lattice w.table.now.profile x bytes) of_text is))

-- A vector with these bytes.
pub vector_of : Vec ℕ → (bytes : List ℕ) → length bytes < 2 ^ 63 → Vec ℕ
vector_of v bytes small = record {
  ptr = v.ptr;
  len = length bytes;
  cap = length bytes;
  alloc = v.alloc;
  items = bytes;
  ok = (refl, omega arith);
  small = small;
}

-- ---- the text of a table, under its lattice.

module _ (w : Walks) (l : Lattice) (P : Profile) (text : List ℕ) (of_lattice : w.table.now.source.now.lattice ≡ l)
    (of_profile : w.table.now.profile ≡ P) (of_text : w.table.now.source.now.text ≡ text) where
  -- A fault, or lack of memory, leaves a part of the text.
  pub walks_cut : {T : Type 0} (old new : Option (List ℕ)) (result : Result T Failure) →
      IfErr result (λ failure. 3 < status_of failure) →
      IfErr result (λ _. (bytes : List ℕ) × IsTextOf w bytes × WritesPart bytes old new) →
      IfErr result (Leaves (IsWalksText l P text) 4 old new)
  walks_cut old new (Ok x) late cut = tt
  walks_cut old new (Err failure) late cut =
      late_leaf (IsWalksText l P text) old new failure late
      (inr (cut.0, text_under w l P text cut.0 of_lattice of_profile of_text cut.1, cut.2))

  -- The whole text has been written.
  pub walks_whole : {T : Type 0} (old new : Option (List ℕ)) (result : Result T Failure) →
      OnOk result ((bytes : List ℕ) × IsTextOf w bytes × (length bytes < 2 ^ 63) × Appends old new bytes) →
      OnOk result ((bytes : List ℕ) × IsWalksText l P text bytes × (length bytes < 2 ^ 63) × Appends old new bytes)
  walks_whole old new result whole =
      on_ok_weaker result
      (λ so. (so.0, text_under w l P text so.0 of_lattice of_profile of_text so.1, so.2, so.3)) whole

-- ---- the answer about the files.

module _ (holds : Holding) (c : Compilation) (l : Lattice) (P : Profile) (text source : List ℕ)
    (files : AreFiles holds c l text) (of_source : source ≡ text) (of_profile : P ≡ profile_of c.is_strict) where
  -- The text is that of the files.
  filed : (bytes : List ℕ) → IsWalksText l P source bytes → IsWalksText l (profile_of c.is_strict) text bytes
  filed bytes is =
      subst (λ Q. IsWalksText l Q text bytes) of_profile (subst (λ s. IsWalksText l P s bytes) of_source is)

  -- A beginning of the text is a beginning of the answer.
  pub walks_left : {T : Type 0} (old new : Option (List ℕ)) (result : Result T Failure) →
      IfErr result (Leaves (IsWalksText l P source) 4 old new) →
      IfErr result (Leaves (AnswersFlows true holds c) 4 old new)
  walks_left old new result left =
      IfErr-weaker result (Leaves (IsWalksText l P source) 4 old new) (Leaves (AnswersFlows true holds c) 4 old new)
      (λ failure so. record {
        partly = Partly-weaker (IsWalksText l P source) (AnswersFlows true holds c) old new
            (λ bytes is. record { lattice = l; source = text; files = files; is = filed bytes is }) so.partly;
        silent = so.silent;
      }) left

  -- The answer has been written.
  pub walks_performed : {T : Type 0} (v : Vec ℕ) (old new : Option (List ℕ)) (result : Result T Failure) →
      OnOk result ((bytes : List ℕ) × IsWalksText l P source bytes × (length bytes < 2 ^ 63) × Appends old new bytes) →
      OnOk result (Writes (OfFiles holds c (ToldFlows true c.is_strict)) old new)
  unfolding vector_of
  walks_performed v old new result written =
      on_ok_weaker result (λ so. record {
        text = vector_of v so.0 so.2;
        is = record { lattice = l; source = text; files = files; is = filed so.0 so.1 };
        written = so.3;
      }) written

  -- Why the text has no program is why the files have no answer.
  pub walks_fail : (failure : Failure) → FailsBy (λ reason. WalksTo l P source (Err reason)) NoOther failure →
      FailsBy (RefusesFiles holds c (AsksFlows true c.is_strict)) NoOther failure
  walks_fail =
      fails_by (λ reason. WalksTo l P source (Err reason)) (RefusesFiles holds c (AsksFlows true c.is_strict)) NoOther
      (λ reason why. inr (record {
        lattice = l;
        source = text;
        files = files;
        is = subst (λ Q. WalksTo l Q text (Err reason)) of_profile
            (subst (λ s. WalksTo l P s (Err reason)) of_source why);
      }))
