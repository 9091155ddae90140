-- Drives of stores that agree are alike.
use Rattle.std.proofs.Common.{◌≡◌, ◌≢◌, ℕ, zero, suc, ◌-◌, List, [], ◌∷◌, ◌++◌, map, length, take, Option, Some, None, Ok, Err, true, false, refl, sym, ap, subst, ◌∙◌, arith, inl, inr}
use Rattle.std.specs.Prelude.{ℤ, pos, Bool, ◌&&◌, ◌||◌, not, Result, codes, slice_get, slice_set, slice_index_or, if◌then◌else◌}
use Rattle.std.specs.Option.{option_map_or}
use Rattle.std.specs.Fmt.{signed_decimal}
use Rattle.std.proofs.lemmas.Bool.{cases_eq}
use Rattle.std.proofs.lemmas.Grind.{get_or-set_at}
use Rattle.std.proofs.lemmas.List.{get_or-set_other, length-map, length-set}
use Rattle.std.proofs.lemmas.Option.{slice_get_within}
use Rattle.vsi_lattice.specs.Order.{Lattice, Below, IsClass}
use Rattle.vsi_image.specs.Fields.{Global, global, globals}
use Rattle.vsi_image.specs.Valid.{IsValid}
use Rattle.vsi_image.specs.Meaning.{State}
use Rattle.vsi_machine.specs.Runs.{globals_of, run_of}
use Rattle.vsi_compiler.specs.Observation.{Ends, IsNoninterfering}
use Rattle.vsi_compiler.proofs.Coded.{coded_valid}
use Rattle.vsi_drive.specs.declared.settings.LineFault.{LineFault}
use Rattle.vsi_drive.specs.declared.controller.CycleEnding.{CycleEnding}
use Rattle.vsi_drive.specs.declared.controller.CycleEnding.TheVariants.{Halted, OutOfBudget, Refused}
use Rattle.vsi_drive.specs.Boundary.{is_among, is_listed}
use Rattle.vsi_drive.specs.Control.{Control, is_released, is_written, sees}
use Rattle.vsi_drive.specs.Settings.{Setting, settings_of, applied}
use Rattle.vsi_drive.specs.Cycles.{Cycle, cycle, cycle_of, run_to, spent, halted, globals_seen, global_seen, line_seen, text_of}
use Rattle.vsi_drive.specs.Laws.{AgreeFor, AllHalt, DriveAlike, DrivesAlike, ReleasedDrivesAlike, ReleasesNothing, SameDrives, SameCompiledDrives, SameReleasedDrives, SameReleasedCompiledDrives, released_at, released_in, released_of, released_words}
use Rattle.vsi_store.proofs.Slots.{words_last}

-- ---- one line.

-- Two words of one global look the same where they are equal if the class sees the global and if it is released.
pub same_word : (out rel seen : Bool) (text : ℤ → List ℕ) (w w' : ℤ) → (seen ≡ true → w ≡ w') →
    (((out && (seen || rel)) && not seen) ≡ true → w ≡ w') →
    (if out && (seen || rel) then text w else []) ≡ (if out && (seen || rel) then text w' else [])
same_word false rel seen text w w' h r = refl
same_word true rel true text w w' h r = ap text (h refl)
same_word true true false text w w' h r = ap text (r refl)
same_word true false false text w w' h r = refl

-- A global whose class the class sees has a known class at or below it.
pub seen_below : (L : Lattice) (a : ℕ) (o : Option ℕ) (w w' : ℤ) → ((k : ℕ) → o ≡ Some k → Below L k a → w ≡ w') →
    option_map_or (λ k. L.leq k a) o false ≡ true → w ≡ w'
seen_below L a None w w' h e = absurd (cc)
seen_below L a (Some k) w w' h e = h k refl e

-- The released words of two stores are equal, and the first global is released: so are its words.
pub first_released : (b : Bool) (w w' : ℤ) (ws ws' : List ℤ) →
    (if b then w ∷ ws else ws) ≡ (if b then w' ∷ ws' else ws') → b ≡ true → w ≡ w'
first_released true w w' ws ws' same is = ap (first_word w) same
  where
    first_word : ℤ → List ℤ → ℤ
    first_word d [] = d
    first_word d (x ∷ xs) = x
first_released false w w' ws ws' same is = absurd (cc)

-- The later released words are equal too.
pub later_released : (b : Bool) (w w' : ℤ) (ws ws' : List ℤ) →
    (if b then w ∷ ws else ws) ≡ (if b then w' ∷ ws' else ws') → ws ≡ ws'
later_released true w w' ws ws' same = ap later_words same
  where
    later_words : List ℤ → List ℤ
    later_words [] = []
    later_words (x ∷ xs) = xs
later_released false w w' ws ws' same = same

-- Words that are equal in each global that the class sees, and in each that is released, look the same to it.
same_globals : (c : Control) (gs : List Global) (m m' : List ℤ) → length m ≡ length m' →
    ((i : ℕ) (g : Global) (k : ℕ) → slice_get gs i ≡ Some g → c.known g.1 ≡ Some k → Below c.order k c.class →
    slice_index_or m i (pos 0) ≡ slice_index_or m' i (pos 0)) → released_words c gs m ≡ released_words c gs m' →
    globals_seen c gs m ≡ globals_seen c gs m'
same_globals c [] m m' same agree released = refl
same_globals c (g ∷ gs) [] [] same agree released = refl
same_globals c (g ∷ gs) [] (w' ∷ ws') same agree released = absurd (omega (arith, same))
same_globals c (g ∷ gs) (w ∷ ws) [] same agree released = absurd (omega (arith, same))
same_globals c (g ∷ gs) (w ∷ ws) (w' ∷ ws') same agree released =
    let rest = same_globals c gs ws ws' (omega (arith, same)) (λ i h k at. agree (suc i) h k at)
    (later_released (is_released c g) w w' _ _ released) in
    let first : global_seen c g w ≡ global_seen c g w' =
    same_word (is_listed c.boundary.outputs g.0) (is_among c.boundary.released g.0) (sees c g.1)
    (λ x. g.0 ++ codes " = " ++ signed_decimal x ++ codes " ") w w'
    (seen_below c.order c.class (c.known g.1) w w' (λ k is below. agree zero g k refl is below))
    (first_released (is_released c g) w w' _ _ released) in
    ap (λ l. global_seen c g w ++ l) rest ∙ ap (λ l. l ++ globals_seen c gs ws') first

-- Stores that agree and release the same give the same line.
pub same_line : (c : Control) (m m' : List ℤ) → AgreeFor c m m' →
    released_words c (globals c.image.globals.items) m ≡ released_words c (globals c.image.globals.items) m' →
    line_seen c m ≡ line_seen c m'
same_line c m m' alike released =
    ap (λ seen. take (length seen - 1) seen ++ codes "\n")
    (same_globals c (globals c.image.globals.items) m m' (alike.full ∙ sym alike.full') alike.agree released)

-- ---- one cycle.

-- Stores that agree still agree after one global is set to one word in both.
agree_set : (c : Control) (m m' : List ℤ) (i : ℕ) (w : ℤ) → AgreeFor c m m' →
    AgreeFor c (slice_set m i w) (slice_set m' i w)
agree_set c m m' i w alike =
    record {
      full = length-set m i w ∙ alike.full;
      full' = length-set m' i w ∙ alike.full';
      agree = λ j g k at is below.
          let count = length-map c.image.globals.items global in
          let within = slice_get_within (globals c.image.globals.items) j g at in
          elim (cases_eq j i) [
            | inl e ↦
                get_or-set_at m i j w (pos 0) e (omega (arith, e, within, count, alike.full))
                ∙ sym (get_or-set_at m' i j w (pos 0) e (omega (arith, e, within, count, alike.full')))
            | inr n ↦
                get_or-set_other m i j w (pos 0) n ∙ alike.agree j g k at is below
                ∙ sym (get_or-set_other m' i j w (pos 0) n)
          ];
    }

-- They still agree after the same settings.
pub agree_applied : (c : Control) (ss : List Setting) (m m' : List ℤ) → AgreeFor c m m' →
    AgreeFor c (applied ss m) (applied ss m')
agree_applied c [] m m' alike = alike
agree_applied c (s ∷ ss) m m' alike = agree_applied c ss _ _ (agree_set c m m' s.0 s.1 alike)

-- Two cycles that write the same line and lead to stores that agree.
pub record CycleAlike (c : Control) (x y : Cycle) : Type 0 where
  pub line : x.line ≡ y.line
  pub stores : AgreeFor c x.store y.store

-- ---- all cycles.

-- If two first lines set the same and release the same and the lines fit, their cycles are alike and the later lines
-- fit.
abbrev pub EachAlike : Control → (List ℤ → List (List ℕ) → Type 0) → Type 0
EachAlike c Fit =
    (m m' : List ℤ) (l l' : List ℕ) (ls ls' : List (List ℕ)) → AgreeFor c m m' → settings_of c l ≡ settings_of c l' →
    released_in c (cycle c m l) ≡ released_in c (cycle c m' l') → Fit m (l ∷ ls) → Fit m' (l' ∷ ls') →
    CycleAlike c (cycle c m l) (cycle c m' l') × Fit (cycle c m l).store ls × Fit (cycle c m' l').store ls'

-- The first of a list, or a default.
first_of : {A : Type 0} → A → List A → A
first_of d [] = d
first_of d (r ∷ rs) = r

-- The others of a list.
others_of : {A : Type 0} → List A → List A
others_of [] = []
others_of (r ∷ rs) = rs

-- Lines that fit, set the same and release the same give drives that are alike.
pub drives_alike : (c : Control) (Fit : List ℤ → List (List ℕ) → Type 0) → EachAlike c Fit →
    (lines lines' : List (List ℕ)) (m m' : List ℤ) → AgreeFor c m m' →
    map (settings_of c) lines ≡ map (settings_of c) lines' → Fit m lines → Fit m' lines' →
    released_of c m lines ≡ released_of c m' lines' → DriveAlike c m m' lines lines'
unfolding first_of others_of
drives_alike c Fit each [] [] m m' alike same h h' released = record { text = refl; stores = alike }
drives_alike c Fit each [] (l' ∷ ls') m m' alike same h h' released = absurd (cc)
drives_alike c Fit each (l ∷ ls) [] m m' alike same h h' released = absurd (cc)
drives_alike c Fit each (l ∷ ls) (l' ∷ ls') m m' alike same h h' released =
    let sets : settings_of c l ≡ settings_of c l' = ap (first_of (settings_of c l)) same in
    let now : released_in c (cycle c m l) ≡ released_in c (cycle c m' l') = ap (first_of []) released in
    let one = each m m' l l' ls ls' alike sets now h h' in
    let rest =
    drives_alike c Fit each ls ls' (cycle c m l).store (cycle c m' l').store one.0.stores (ap others_of same) one.1
    one.2 (ap others_of released) in
    record {
      text = ap (λ t. (cycle c m l).line ++ t) rest.text
          ∙ ap (λ t. t ++ text_of c (cycle c m' l').store ls') one.0.line;
      stores = rest.stores;
    }

-- ---- drives that release nothing.

-- A global is released only if it is named.
not_released : (out rel seen : Bool) → rel ≡ false → ((out && (seen || rel)) && not seen) ≡ false
not_released false rel seen h = refl
not_released true rel true h = refl
not_released true rel false h = ap (λ r. (true && (false || r)) && not false) h

-- Where no global is named as released, no store has released words.
pub no_words : (c : Control) → ReleasesNothing c → (gs : List Global) (m : List ℤ) → released_words c gs m ≡ []
no_words c none [] m = refl
no_words c none (g ∷ gs) [] = refl
no_words c none (g ∷ gs) (w ∷ ws) =
    ap (λ b. if b then w ∷ released_words c gs ws else released_words c gs ws)
    (not_released (is_listed c.boundary.outputs g.0) (is_among c.boundary.released g.0) (sees c g.1)
    (ap (λ ns. is_among ns g.0) none))
    ∙ no_words c none gs ws

-- No cycle releases anything there.
no_release : (c : Control) → ReleasesNothing c → (e : CycleEnding) (m : List ℤ) → released_at c e m ≡ []
no_release c none Halted m = no_words c none (globals c.image.globals.items) m
no_release c none OutOfBudget m = refl
no_release c none (Refused fault) m = refl

-- So drives over equally many lines release the same.
pub none_released : (c : Control) → ReleasesNothing c → (lines lines' : List (List ℕ)) (m m' : List ℤ) →
    map (settings_of c) lines ≡ map (settings_of c) lines' → released_of c m lines ≡ released_of c m' lines'
unfolding others_of
none_released c none [] [] m m' same = refl
none_released c none [] (l' ∷ ls') m m' same = absurd (cc)
none_released c none (l ∷ ls) [] m m' same = absurd (cc)
none_released c none (l ∷ ls) (l' ∷ ls') m m' same =
    ap (λ r. r ∷ released_of c (cycle c m l).store ls)
    (no_release c none _ _ ∙ sym (no_release c none _ _))
    ∙ ap (λ rs. released_in c (cycle c m' l') ∷ rs) (none_released c none ls ls' _ _ (ap others_of same))

-- ---- cycles within their budget.

-- A cycle that isn't out of budget has a state that has halted.
has_halted : (c : Control) (m : List ℤ) (s : State) → (run_to c m (Some s)).ending ≢ OutOfBudget → s.halted ≡ true
has_halted c m s h =
    elim s.halted as (λ v. (if v then halted c (globals_of c.image s) else spent m).ending ≢ OutOfBudget → v ≡ true) [
      | true ↦ λ e. refl
      | false ↦ λ e. absurd (e refl)
    ] h

-- The words of a halted state are the store of its cycle.
pub halts_with : (c : Control) (m : List ℤ) (s : State) → s.halted ≡ true →
    run_to c m (Some s) ≡ halted c (globals_of c.image s)
halts_with c m s h = ap (λ v. if v then halted c (globals_of c.image s) else spent m) h

module _ (c : Control) (class : IsClass c.order c.class) (valid : IsValid c.image)
    (secure : IsNoninterfering c.known c.order c.image) where
  -- Two runs that halt, from stores that agree, are cycles that are alike if they release the same.
  run_alike : (m m' words words' : List ℤ) (o o' : Option State) → run_of c.image words c.budget ≡ o →
      run_of c.image words' c.budget ≡ o' → AgreeFor c words words' → (run_to c m o).ending ≢ OutOfBudget →
      (run_to c m' o').ending ≢ OutOfBudget → released_in c (run_to c m o) ≡ released_in c (run_to c m' o') →
      CycleAlike c (run_to c m o) (run_to c m' o')
  run_alike m m' words words' None o' e e' alike h h' released = absurd (h refl)
  run_alike m m' words words' (Some s) None e e' alike h h' released = absurd (h' refl)
  run_alike m m' words words' (Some s) (Some s') e e' alike h h' released =
      let on = has_halted c m s h in
      let on' = has_halted c m' s' h' in
      let ends : Ends c.image words c.budget (globals_of c.image s) =
      record { state = s; reached = e; halted = on; words = refl } in
      let ends' : Ends c.image words' c.budget (globals_of c.image s') =
      record { state = s'; reached = e'; halted = on'; words = refl } in
      let last : AgreeFor c (globals_of c.image s) (globals_of c.image s') =
      record {
        full = words_last c.image words c.budget s valid alike.full e;
        full' = words_last c.image words' c.budget s' valid alike.full' e';
        agree = secure c.class class words words' _ _ c.budget c.budget alike.full alike.full' alike.agree ends ends';
      } in
      let is = halts_with c m s on in
      let is' = halts_with c m' s' on' in
      let same = sym (ap (released_in c) is) ∙ released ∙ ap (released_in c) is' in
      rw (is, is') (record { line = same_line c _ _ last same; stores = last })

  -- Two cycles with the same settings, or with one fault, are alike if they release the same.
  cycle_alike : (r : Result (List Setting) LineFault) (m m' : List ℤ) → AgreeFor c m m' →
      released_in c (cycle_of c m r) ≡ released_in c (cycle_of c m' r) →
      (cycle_of c m r).ending ≢ OutOfBudget → (cycle_of c m' r).ending ≢ OutOfBudget →
      CycleAlike c (cycle_of c m r) (cycle_of c m' r)
  cycle_alike (Err fault) m m' alike released h h' = record { line = refl; stores = alike }
  cycle_alike (Ok ss) m m' alike released h h' =
      run_alike m m' (applied ss m) (applied ss m') _ _ refl refl (agree_applied c ss m m' alike) h h' released

  -- The first cycles of lines that all halt within budget are alike if they release the same.
  pub each_halts : EachAlike c (AllHalt c)
  each_halts m m' l l' ls ls' alike sets released h h' = (
    subst (λ r. released_in c (cycle c m l) ≡ released_in c (cycle_of c m' r) →
        (cycle_of c m' r).ending ≢ OutOfBudget → CycleAlike c (cycle c m l) (cycle_of c m' r)) sets
        (λ same. cycle_alike (settings_of c l) m m' alike same h.0) released h'.0,
    h.1,
    h'.1,
  )

-- Drives that are alike if they release the same are alike if they release nothing.
nothing_alike : (c : Control) → ReleasesNothing c → ReleasedDrivesAlike c → DrivesAlike c
nothing_alike c none alike lines lines' m m' agree same h h' =
    alike lines lines' m m' agree same h h' (none_released c none lines lines' m m' same)

-- The law of drives that release the same.
pub same_released_drives : SameReleasedDrives
same_released_drives c class valid secure = drives_alike c (AllHalt c) (each_halts c class valid secure)

-- The law of such drives of a compiled image.
pub same_released_compiled_drives : SameReleasedCompiledDrives
same_released_compiled_drives c P text class compiled =
    drives_alike c (AllHalt c) (each_halts c class (coded_valid c.image compiled.coded) compiled.noninterference)

-- The law of drives.
pub same_drives : SameDrives
same_drives c none class valid secure = nothing_alike c none (same_released_drives c class valid secure)

-- The law of drives of a compiled image.
pub same_compiled_drives : SameCompiledDrives
same_compiled_drives c P text none class compiled =
    nothing_alike c none (same_released_compiled_drives c P text class compiled)
