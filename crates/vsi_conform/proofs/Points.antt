-- There are no points exactly if everything is as required.
use Rattle.std.proofs.Common.{◌≡◌, ℕ, ◌+◌, ℤ, Bool, true, false, ◌&&◌, List, [], ◌∷◌, ◌++◌, Option, Some, None, if◌then◌else◌, bytes_eq, refl, sym, ap, ◌∙◌, unwrap_or}
use Rattle.std.specs.Ordering.{int_eq}
use Rattle.std.proofs.lemmas.Bool.Decides.{Decides-int_eq}
use Rattle.std.proofs.lemmas.Slice.Eq.{bytes_eq-Decides}
use Rattle.vsi_image.specs.Fields.{Global, is_taken}
use Rattle.vsi_conform.specs.declared.interface.Point.{Point}
use Rattle.vsi_conform.specs.declared.interface.Point.TheVariants.{Unexpected, WrongClass, WrongWord}
use Rattle.vsi_conform.specs.Points.{told, class_point, entry_point, entry_points, unexpected_points, set_points, first_difference, points_from, global_points, Entry, word_of, word_point, expected_point, word_points}
use Rattle.vsi_conform.specs.Asked.{class_of, HasEach, AreAskedFor, HasGlobals, HasWords}

-- If two lists joined are empty, both are.
pub both_empty : {A : Type 0} (xs ys : List A) → xs ++ ys ≡ [] → (xs ≡ []) × (ys ≡ [])
both_empty [] ys h = (refl, h)
both_empty (x ∷ xs) ys h = absurd cc

-- If no point is listed, there is none.
none_told : (o : Option Point) → told o ≡ [] → o ≡ None
none_told None h = refl
none_told (Some p) h = absurd cc

-- A test that gives no point holds.
holds : (b : Bool) (p : Point) → ◌≡◌ {A = Option Point} (if b then None else Some p) None → b ≡ true
holds true p h = refl
holds false p h = absurd cc

-- Texts that compare as equal are the same.
same_bytes : (xs ys : List ℕ) → bytes_eq xs ys ≡ true → xs ≡ ys
same_bytes xs ys h = (bytes_eq-Decides xs ys).0 h

-- Words that compare as equal are the same.
same_words : (x y : ℤ) → int_eq x y ≡ true → x ≡ y
same_words x y h = (Decides-int_eq x y).0 h

-- ---- no point, so everything is as required.

-- One more global is looked at.
class_more : (b : Bool) (n place : ℕ) (w g : Global) (gs : List Global) →
    ◌≡◌ {A = Option Point} (if b then class_point n place w g else entry_point n w (place + 1) gs) None →
    (entry_point n w (place + 1) gs ≡ None → class_of gs w.0 ≡ Some w.1) →
    (if b then Some g.1 else class_of gs w.0) ≡ Some w.1
class_more true n place w g gs h more =
    ap Some (same_bytes g.1 w.1 (holds (bytes_eq g.1 w.1) (WrongClass place n) h))
class_more false n place w g gs h more = more h

-- A global without a point is there, with its class.
has_class : (n : ℕ) (w : Global) (place : ℕ) (gs : List Global) → entry_point n w place gs ≡ None →
    class_of gs w.0 ≡ Some w.1
has_class n w place [] h = absurd cc
has_class n w place (g ∷ gs) h =
    class_more (bytes_eq g.0 w.0) n place w g gs h (has_class n w (place + 1) gs)

-- All globals without points are there, with their classes.
has_each : (n : ℕ) (ws gs : List Global) → entry_points n ws gs ≡ [] → HasEach gs ws
has_each n [] gs h = tt
has_each n (w ∷ ws) gs h =
    let p = both_empty (told (entry_point n w 0 gs)) (entry_points (n + 1) ws gs) h in
    (has_class n w 0 gs (none_told (entry_point n w 0 gs) p.0), has_each (n + 1) ws gs p.1)

-- If a test and its points add up to no point, the test holds and the points are empty.
nothing_more : (b : Bool) (p : Point) (ps : List Point) → (if b then ps else p ∷ ps) ≡ [] →
    (b ≡ true) × (ps ≡ [])
nothing_more true p ps h = (refl, h)
nothing_more false p ps h = absurd cc

-- If no global is unexpected, each is required.
asked_for : (place : ℕ) (ws gs : List Global) → unexpected_points place ws gs ≡ [] → AreAskedFor ws gs
asked_for place ws [] h = tt
asked_for place ws (g ∷ gs) h =
    let p = nothing_more (is_taken ws g.0) (Unexpected place) (unexpected_points (place + 1) ws gs) h in
    (p.0, asked_for (place + 1) ws gs p.1)

-- Globals without points are the required ones, in any order.
set_kept : (ws gs : List Global) → set_points ws gs ≡ [] → HasGlobals false ws gs
set_kept ws gs h =
    let p = both_empty (entry_points 0 ws gs) (unexpected_points 0 ws gs) h in
    (has_each 0 ws gs p.0, asked_for 0 ws gs p.1)

-- If a test of two parts finds nothing, both parts hold and so does the rest.
both_parts : (a b : Bool) (n : ℕ) (o : Option ℕ) → (if a && b then o else Some n) ≡ None →
    (a ≡ true) × (b ≡ true) × (o ≡ None)
both_parts true true n o h = (refl, refl, h)
both_parts true false n o h = absurd cc
both_parts false b n o h = absurd cc

-- Lists with no first difference are the same.
same_globals : (n : ℕ) (ws gs : List Global) → first_difference n ws gs ≡ None → gs ≡ ws
same_globals n [] [] h = refl
same_globals n [] (g ∷ gs) h = absurd cc
same_globals n (w ∷ ws) [] h = absurd cc
same_globals n (w ∷ ws) (g ∷ gs) h =
    let p = both_parts (bytes_eq w.0 g.0) (bytes_eq w.1 g.1) n (first_difference (n + 1) ws gs) h in
    ap (λ x. (x, g.1) ∷ gs) (sym (same_bytes w.0 g.0 p.0))
    ∙ ap (λ x. (w.0, x) ∷ gs) (sym (same_bytes w.1 g.1 p.1))
    ∙ ap (λ xs. w ∷ xs) (same_globals (n + 1) ws gs p.2)

-- If two lists give no point, they have no first difference.
differ_nowhere : (o : Option ℕ) (ps : List Point) → points_from o ps ≡ [] → o ≡ None
differ_nowhere None ps h = refl
differ_nowhere (Some n) [] h = absurd cc
differ_nowhere (Some n) (p ∷ ps) h = absurd cc

-- Globals without points are the required ones.
pub globals_kept : (is_ordered : Bool) (ws gs : List Global) → global_points is_ordered ws gs ≡ [] →
    HasGlobals is_ordered ws gs
globals_kept true ws gs h =
    same_globals 0 ws gs (differ_nowhere (first_difference 0 ws gs) (set_points ws gs) h)
globals_kept false ws gs h = set_kept ws gs h

-- A word without a point is the expected one.
word_kept : (trial n : ℕ) (expected : ℤ) (o : Option ℤ) → word_point trial n expected o ≡ None → o ≡ Some expected
word_kept trial n expected None h = absurd cc
word_kept trial n expected (Some w) h =
    ap Some (same_words w expected (holds (int_eq w expected) (WrongWord trial n w) h))

-- Words without points are the expected ones.
pub words_kept : (trial n : ℕ) (es : List Entry) (gs : List Global) (ws : List ℤ) →
    word_points trial n es gs ws ≡ [] → HasWords gs ws es
words_kept trial n [] gs ws h = tt
words_kept trial n (e ∷ es) gs ws h =
    let p = both_empty (told (expected_point trial n e gs ws)) (word_points trial (n + 1) es gs ws) h in (
      word_kept trial n e.1 (word_of gs ws e.0) (none_told (expected_point trial n e gs ws) p.0),
      words_kept trial (n + 1) es gs ws p.1,
    )

-- ---- everything as required, so no point.

-- Two empty lists joined are empty.
pub empty_both : {A : Type 0} (xs ys : List A) → xs ≡ [] → ys ≡ [] → xs ++ ys ≡ []
empty_both xs ys h k = ap (λ l. l ++ ys) h ∙ k

-- The same texts compare as equal.
equal_bytes : (xs ys : List ℕ) → xs ≡ ys → bytes_eq xs ys ≡ true
equal_bytes xs ys h = (bytes_eq-Decides xs ys).1 h

-- The same words compare as equal.
equal_words : (x y : ℤ) → x ≡ y → int_eq x y ≡ true
equal_words x y h = (Decides-int_eq x y).1 h

-- Optional texts that are present and equal have equal contents.
some_is : (x y : List ℕ) → Some x ≡ Some y → x ≡ y
some_is x y h = ap (λ o. unwrap_or o x) h

-- One more global is looked at.
class_told : (b : Bool) (n place : ℕ) (w g : Global) (gs : List Global) →
    (if b then Some g.1 else class_of gs w.0) ≡ Some w.1 →
    (class_of gs w.0 ≡ Some w.1 → entry_point n w (place + 1) gs ≡ None) →
    ◌≡◌ {A = Option Point} (if b then class_point n place w g else entry_point n w (place + 1) gs) None
class_told true n place w g gs h more =
    ap (λ b. if b then None else Some (WrongClass place n)) (equal_bytes g.1 w.1 (some_is g.1 w.1 h))
class_told false n place w g gs h more = more h

-- A global that is there, with its class, has no point.
class_there : (n : ℕ) (w : Global) (place : ℕ) (gs : List Global) → class_of gs w.0 ≡ Some w.1 →
    entry_point n w place gs ≡ None
class_there n w place [] h = absurd cc
class_there n w place (g ∷ gs) h =
    class_told (bytes_eq g.0 w.0) n place w g gs h (class_there n w (place + 1) gs)

-- Globals that are all there, with their classes, have no points.
each_there : (n : ℕ) (ws gs : List Global) → HasEach gs ws → entry_points n ws gs ≡ []
each_there n [] gs h = refl
each_there n (w ∷ ws) gs h =
    empty_both (told (entry_point n w 0 gs)) (entry_points (n + 1) ws gs)
    (ap told (class_there n w 0 gs h.0)) (each_there (n + 1) ws gs h.1)

-- If each global is required, none is unexpected.
none_unexpected : (place : ℕ) (ws gs : List Global) → AreAskedFor ws gs → unexpected_points place ws gs ≡ []
none_unexpected place ws [] h = refl
none_unexpected place ws (g ∷ gs) h =
    ap (λ b. if b then unexpected_points (place + 1) ws gs else Unexpected place ∷ unexpected_points (place + 1) ws gs)
    h.0 ∙ none_unexpected (place + 1) ws gs h.1

-- A list has no difference from itself.
differs_nowhere : (n : ℕ) (gs : List Global) → first_difference n gs gs ≡ None
differs_nowhere n [] = refl
differs_nowhere n (g ∷ gs) =
    ap (λ b. if b && bytes_eq g.1 g.1 then first_difference (n + 1) gs gs else Some n) (equal_bytes g.0 g.0 refl)
    ∙ ap (λ b. if b then first_difference (n + 1) gs gs else Some n) (equal_bytes g.1 g.1 refl)
    ∙ differs_nowhere (n + 1) gs

-- The required globals have no points.
pub globals_told : (is_ordered : Bool) (ws gs : List Global) → HasGlobals is_ordered ws gs →
    global_points is_ordered ws gs ≡ []
globals_told true ws gs h =
    ap (λ x. points_from (first_difference 0 ws x) (set_points ws x)) h
    ∙ ap (λ o. points_from o (set_points ws ws)) (differs_nowhere 0 ws)
globals_told false ws gs h =
    empty_both (entry_points 0 ws gs) (unexpected_points 0 ws gs) (each_there 0 ws gs h.0)
    (none_unexpected 0 ws gs h.1)

-- The expected word has no point.
word_told : (trial n : ℕ) (expected : ℤ) → word_point trial n expected (Some expected) ≡ None
word_told trial n expected =
    ap (λ b. if b then None else Some (WrongWord trial n expected)) (equal_words expected expected refl)

-- The expected words have no points.
pub words_told : (trial n : ℕ) (es : List Entry) (gs : List Global) (ws : List ℤ) → HasWords gs ws es →
    word_points trial n es gs ws ≡ []
words_told trial n [] gs ws h = refl
words_told trial n (e ∷ es) gs ws h =
    empty_both (told (expected_point trial n e gs ws)) (word_points trial (n + 1) es gs ws)
    (ap (λ o. told (word_point trial n e.1 o)) h.0 ∙ ap told (word_told trial n e.1))
    (words_told trial (n + 1) es gs ws h.1)
