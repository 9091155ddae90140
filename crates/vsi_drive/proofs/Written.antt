-- The settings of fields, three by three.
use Rattle.std.proofs.Common.{◌≡◌, ℕ, ◌+◌, ◌-◌, ◌<◌, ◌≤◌, List, [], ◌∷◌, length, take, drop, get_or, Some, Ok, Err, refl, sym, ap, ◌∙◌, arith}
use Rattle.std.specs.Prelude.{ℤ, Result, slice_get, slice_set}
use Rattle.std.specs.Borrow.{Bor}
use Rattle.std.proofs.lemmas.List.{drop_more, take_all}
use Rattle.std.proofs.lemmas.Option.{get_or_from_slice_get}
use Rattle.vsi_lattice.specs.NamePlaces.{texts}
use Rattle.vsi_drive.specs.declared.settings.LineFault.{LineFault}
use Rattle.vsi_drive.specs.declared.settings.LineFault.TheVariants.{BadSetting}
use Rattle.vsi_drive.specs.Control.{Control}
use Rattle.vsi_drive.specs.Settings as spec
use Rattle.vsi_drive.specs.Cycles as cycles

-- The fields from a position on are the field at it and the later ones.
pub drop_field : (fs : List (List ℕ)) (at : ℕ) (x : List ℕ) → at < length fs → slice_get fs at ≡ Some x →
    drop at fs ≡ x ∷ drop (at + 1) fs
drop_field fs at x within is =
    drop_more fs at [] within ∙ ap (λ f. f ∷ drop (at + 1) fs) (get_or_from_slice_get fs at x [] is)

-- A setting that is made goes before the later ones.
pub made : (i : ℕ) (w : ℤ) (r : Result (List spec.Setting) LineFault) (m : List ℤ) →
    spec.written (spec.in_front (Ok (i, w)) r) m ≡ spec.written r (slice_set m i w)
made i w (Err fault) m = refl
made i w (Ok ss) m = refl

-- Making the setting of the next three fields and then those of the others makes all.
pub set_more : (s : spec.Settable) (n : ℕ) (r : List (Bor (List ℕ))) (x y z : Bor (List ℕ)) (i : ℕ) (w : ℤ)
    (m : List ℤ) (k : ℕ) →
    Ok (i, w) ≡ spec.setting s n (get_or r 0 x).now (get_or r 1 y).now (get_or r 2 z).now → 3 ≤ length r →
    length r - 3 ≡ k →
    spec.written (spec.settings_from s (n + 1) (texts (take k (drop 3 r)))) (slice_set m i w)
    ≡ spec.written (spec.settings_from s n (texts r)) m
set_more s n [] x y z i w m k set some left = absurd (omega (arith, some))
set_more s n (a ∷ []) x y z i w m k set some left = absurd (omega (arith, some))
set_more s n (a ∷ b ∷ []) x y z i w m k set some left = absurd (omega (arith, some))
set_more s n (a ∷ b ∷ c ∷ r) x y z i w m k set some left =
    let rest = spec.settings_from s (n + 1) (texts r) in
    let all : take k r ≡ r = take_all k r (omega (arith, left)) in
    ap (λ l. spec.written (spec.settings_from s (n + 1) (texts l)) (slice_set m i w)) all
    ∙ sym (ap (λ o. spec.written (spec.in_front o rest) m) (sym set) ∙ made i w rest m)

-- If nothing is written, there is a fault.
pub fault_of : (r : Result (List spec.Setting) LineFault) (m : List ℤ) (fault : LineFault) →
    spec.written r m ≡ Err fault → r ≡ Err fault
fault_of (Err e) m fault h = ap (λ x. Err (error_in e x)) h
  where
    error_in : LineFault → Result (List ℤ) LineFault → LineFault
    error_in d (Ok x) = d
    error_in d (Err e) = e
fault_of (Ok ss) m fault h = absurd (cc)

-- An empty list of fields sets nothing.
pub none_left : (c : spec.Settable) (n : ℕ) (fs : List (List ℕ)) → length fs ≡ 0 → spec.settings_from c n fs ≡ Ok []
none_left c n [] none = refl
none_left c n (f ∷ fs) none = absurd (omega (arith, none))

-- One field or two are no setting.
pub few_left : (c : spec.Settable) (n : ℕ) (fs : List (List ℕ)) → 0 < length fs → length fs < 3 →
    spec.settings_from c n fs ≡ Err (BadSetting n)
few_left c n [] some few = absurd (omega arith)
few_left c n (x ∷ []) some few = refl
few_left c n (x ∷ y ∷ []) some few = refl
few_left c n (x ∷ y ∷ z ∷ fs) some few = absurd (omega (arith, few))

-- The cycle of settings that are made begins from the store that they lead to.
pub cycle_written : (c : Control) (m words : List ℤ) (r : Result (List spec.Setting) LineFault) →
    spec.written r m ≡ Ok words → cycles.cycle_of c m r ≡ cycles.cycle_from c m words
cycle_written c m words (Err fault) h = absurd (cc)
cycle_written c m words (Ok ss) h = ap (λ x. cycles.cycle_from c m (words_in m x)) h
  where
    words_in : List ℤ → Result (List ℤ) LineFault → List ℤ
    words_in d (Ok x) = x
    words_in d (Err e) = d

-- A faulty setting is the fault of all settings.
pub faulty : (s : Result spec.Setting LineFault) (r : Result (List spec.Setting) LineFault) {fault : LineFault} →
    Err fault ≡ s → spec.in_front s r ≡ Err fault
faulty s r {fault} h = ap (λ x. spec.in_front x r) (sym h)

-- If there is a fault, nothing is written.
pub written_fault : (r : Result (List spec.Setting) LineFault) (m : List ℤ) (fault : LineFault) →
    r ≡ Err fault → spec.written r m ≡ Err fault
written_fault r m fault h = ap (λ x. spec.written x m) h
