-- Steps of the loops over lists of parts and of sorts.
use Rattle.std.proofs.Common.{◌≡◌, ℕ, ◌+◌, ◌-◌, ◌<◌, Bool, true, false, ◌&&◌, ◌||◌, List, [], ◌∷◌, ◌++◌, length, take, reverse, get_or, refl, sym, ap, ◌∙◌, append_assoc, rules, arith}
use Rattle.std.proofs.lemmas.List.{take_more, get_or-reverse, length-reverse}
use denote.Enum.Bare.{same_true}
use Rattle.vsi_recovery.specs.contracts.sort.Sort.{the_type}
use Rattle.vsi_recovery.specs.declared.sort.Sort.{Sort}
use Rattle.vsi_recovery.specs.declared.sort.Sort.TheVariants as s
use Rattle.vsi_recovery.specs.declared.sort.TheConstants.{SORTS}
use Rattle.vsi_recovery.specs.declared.rules.Wanted.{Wanted}
use Rattle.vsi_recovery.specs.declared.rules.Wanted.TheVariants as w
use Rattle.vsi_recovery.specs.Sorts.{same}
use Rattle.vsi_recovery.specs.Told.{told}

-- One more part is put, from the last to the first.
pub put_more : (old items parts : List Wanted) (i : ℕ) → i < length parts → items ≡ old ++ take i (reverse parts) →
    items ++ get_or parts (length parts - 1 - i) w.Globals ∷ [] ≡ old ++ take (i + 1) (reverse parts)
put_more old items parts i lt e =
    let long : i < length (reverse parts) = omega (arith, lt, length-reverse parts) in
    let more = take_more (reverse parts) i w.Globals long in
    rw (e, more, get_or-reverse parts i w.Globals lt)
    (append_assoc old (take i (reverse parts)) (get_or parts (length parts - 1 - i) w.Globals ∷ []))

-- Two sorts that compare as the same are the same.
pub same_is : (a b : Sort) → same a b ≡ true → a ≡ b
same_is a b e = same_true the_type (search rules) a b e

-- Each sort is the same as itself.
pub same_self : (a : Sort) → same a a ≡ true
same_self s.Var = refl
same_self _ = refl

-- The joined list contains a sort exactly if one of the two lists does.
pub told_append : (ts us : List Sort) (a : Sort) → told (ts ++ us) a ≡ (told ts a || told us a)
told_append [] us a = refl
told_append (t ∷ ts) us a = rw (told_append ts us a) (or_assoc (same t a) (told ts a) (told us a))
  where
    or_assoc : (x y z : Bool) → (x || (y || z)) ≡ ((x || y) || z)
    or_assoc true y z = refl
    or_assoc false y z = refl

-- One more test, which adds to the list.
push_case : (a b c o : Bool) → a ≡ (b && o) → (c ≡ true → o ≡ true) → (a || c) ≡ ((b || c) && o)
push_case a true c true e f = rw e refl
push_case a false true true e f = rw e refl
push_case a false false true e f = rw e refl
push_case a b true false e f = absurd (let g = f refl in cc)
push_case a true false false e f = rw e refl
push_case a false false false e f = rw e refl

-- One more test, which does not add to the list.
skip_case : (a b c o : Bool) → a ≡ (b && o) → (c ≡ true → o ≡ false) → a ≡ ((b || c) && o)
skip_case a true c o e f = e
skip_case a false true true e f = absurd (let g = f refl in cc)
skip_case a false true false e f = e
skip_case a false false o e f = e

-- The next sort is listed.
pub told_push : (all ts : List Sort) (stands : Sort → Bool) (i : ℕ) → i < length all →
    ((a : Sort) → told ts a ≡ (told (take i all) a && stands a)) → stands (get_or all i s.Var) ≡ true →
    (a : Sort) → told (ts ++ get_or all i s.Var ∷ []) a ≡ (told (take (i + 1) all) a && stands a)
told_push all ts stands i lt e holds a =
    let x = get_or all i s.Var in
    rw (take_more all i s.Var lt, told_append ts (x ∷ []) a, told_append (take i all) (x ∷ []) a)
    (push_case (told ts a) (told (take i all) a) (same x a || false) (stands a) (e a)
    (λ h. ap stands (sym (same_is x a (or_false (same x a) h))) ∙ holds))
  where
    or_false : (b : Bool) → (b || false) ≡ true → b ≡ true
    or_false true h = refl
    or_false false h = h

-- The next sort is not listed.
pub told_skip : (all ts : List Sort) (stands : Sort → Bool) (i : ℕ) → i < length all →
    ((a : Sort) → told ts a ≡ (told (take i all) a && stands a)) → stands (get_or all i s.Var) ≡ false →
    (a : Sort) → told ts a ≡ (told (take (i + 1) all) a && stands a)
told_skip all ts stands i lt e fails a =
    let x = get_or all i s.Var in
    rw (take_more all i s.Var lt, told_append (take i all) (x ∷ []) a)
    (skip_case (told ts a) (told (take i all) a) (same x a || false) (stands a) (e a)
    (λ h. ap stands (sym (same_is x a (or_false (same x a) h))) ∙ fails))
  where
    or_false : (b : Bool) → (b || false) ≡ true → b ≡ true
    or_false true h = refl
    or_false false h = h

-- Every sort is in the list of all sorts.
pub all_told : (a : Sort) → told SORTS a ≡ true
all_told s.Var = refl
all_told _ = refl
