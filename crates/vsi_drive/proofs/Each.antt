-- The settings of texts, one setting each.
use Rattle.std.proofs.Common.{◌≡◌, ◌≢◌, ℕ, ◌+◌, ◌<◌, Bool, List, [], ◌∷◌, length, drop, Some, Ok, Err, true, refl, sym, ap, ◌∙◌, arith}
use Rattle.std.specs.Prelude.{ℤ, Result, slice_get, slice_set}
use Rattle.std.proofs.lemmas.Option.{same_Some}
use Rattle.vsi_drive.specs.declared.settings.LineFault.{LineFault}
use Rattle.vsi_drive.specs.declared.settings.LineFault.TheVariants.{BadSetting}
use Rattle.vsi_drive.specs.Fields.{fields_of}
use Rattle.vsi_drive.specs.Settings.{Setting, Settable, in_front, setting}
use Rattle.vsi_drive.specs.Starts.{Start, start, one_setting, settings_each, set_behind}
use Rattle.vsi_drive.proofs.Written.{drop_field}

-- Three fields are a setting.
pub three_fields : (s : Settable) (n : ℕ) (fs : List (List ℕ)) (x y z : List ℕ) → length fs ≡ 3 →
    slice_get fs 0 ≡ Some x → slice_get fs 1 ≡ Some y → slice_get fs 2 ≡ Some z →
    one_setting s n fs ≡ setting s n x y z
three_fields s n [] x y z count hx hy hz = absurd (omega (arith, count))
three_fields s n (a ∷ []) x y z count hx hy hz = absurd (omega (arith, count))
three_fields s n (a ∷ b ∷ []) x y z count hx hy hz = absurd (omega (arith, count))
three_fields s n (a ∷ b ∷ c ∷ []) x y z count hx hy hz =
    ap (λ f. setting s n f b c) (same_Some a x hx) ∙ ap (λ f. setting s n x f c) (same_Some b y hy)
    ∙ ap (setting s n x y) (same_Some c z hz)
three_fields s n (a ∷ b ∷ c ∷ d ∷ fs) x y z count hx hy hz = absurd (omega (arith, count))

-- A list of fewer or more fields is no setting.
pub other_fields : (s : Settable) (n : ℕ) (fs : List (List ℕ)) → length fs ≢ 3 → one_setting s n fs ≡ Err (BadSetting n)
other_fields s n [] count = refl
other_fields s n (a ∷ []) count = refl
other_fields s n (a ∷ b ∷ []) count = refl
other_fields s n (a ∷ b ∷ c ∷ []) count = absurd (count refl)
other_fields s n (a ∷ b ∷ c ∷ d ∷ fs) count = refl

-- The next text is a setting before the others.
pub next_text : (s : Settable) (n : ℕ) (ts : List (List ℕ)) (t : List ℕ) → n < length ts → slice_get ts n ≡ Some t →
    settings_each s n (drop n ts) ≡ in_front (one_setting s n (fields_of t)) (settings_each s (n + 1) (drop (n + 1) ts))
next_text s n ts t within is = ap (settings_each s n) (drop_field ts n t within is)

-- A setting that is made goes before the later ones.
pub made_behind : (i : ℕ) (w : ℤ) (r : Result (List Setting) LineFault) (words : List ℤ) (named : List Bool) →
    set_behind (in_front (Ok (i, w)) r) (start words named)
    ≡ set_behind r (start (slice_set words i w) (slice_set named i true))
made_behind i w (Err fault) words named = refl
made_behind i w (Ok ss) words named = refl

-- If nothing is set, there is a fault.
pub fault_behind : (r : Result (List Setting) LineFault) (m : Start) (fault : LineFault) →
    set_behind r m ≡ Err fault → r ≡ Err fault
fault_behind (Err e) m fault h = ap (λ x. Err (error_in e x)) h
  where
    error_in : LineFault → Result Start LineFault → LineFault
    error_in d (Ok x) = d
    error_in d (Err e) = e
fault_behind (Ok ss) m fault h = absurd (cc)

-- A text that is a setting sets its global, and the later texts go on.
pub each_more : (s : Settable) (n : ℕ) (ts : List (List ℕ)) (t : List ℕ) (i : ℕ) (w : ℤ) (words : List ℤ)
    (named : List Bool) → Ok (i, w) ≡ one_setting s n (fields_of t) → n < length ts → slice_get ts n ≡ Some t →
    set_behind (settings_each s (n + 1) (drop (n + 1) ts)) (start (slice_set words i w) (slice_set named i true))
    ≡ set_behind (settings_each s n (drop n ts)) (start words named)
each_more s n ts t i w words named made within is =
    let rest = settings_each s (n + 1) (drop (n + 1) ts) in
    sym (ap (λ r. set_behind r (start words named)) (next_text s n ts t within is)
    ∙ ap (λ o. set_behind (in_front o rest) (start words named)) (sym made) ∙ made_behind i w rest words named)

-- A text that is no setting is the fault of the texts from it on.
pub each_fault : (s : Settable) (n : ℕ) (ts : List (List ℕ)) (t : List ℕ) (f : LineFault) (m : Start) →
    Err f ≡ one_setting s n (fields_of t) → n < length ts → slice_get ts n ≡ Some t →
    set_behind (settings_each s n (drop n ts)) m ≡ Err f
each_fault s n ts t f m made within is =
    ap (λ r. set_behind r m) (next_text s n ts t within is)
    ∙ ap (λ o. set_behind (in_front o (settings_each s (n + 1) (drop (n + 1) ts))) m) (sym made)
