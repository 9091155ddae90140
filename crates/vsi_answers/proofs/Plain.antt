-- Members and objects without fractional numbers, whose text is known.
use Rattle.std.proofs.Common.{◌≡◌, ℕ, Bool, true, false, List, [], ◌∷◌, ◌++◌, ◌||◌, codes, Ordering, Less, Equal, Greater, Option, Some, None, refl, nat_cmp, ap, ◌∙◌, inl, inr}
use Rattle.std.specs.Str.Lossy.{utf8_lossy}
use Rattle.std.specs.Cmp.Lexicographic.{slice_cmp}
use Rattle.std.specs.Ordering.{match_ordering}
use Rattle.serde_json.specs.Data.{Data, number, string, unsigned, boolean, array, object, Members, no_members, member, put}
use Rattle.serde_json.specs.View.{items_of}
use Rattle.serde_json.specs.Written.{has_float, items_have_float, members_have_float}
use Rattle.vsi_lattice.specs.declared.lattice.Lattice.{Lattice}
use Rattle.vsi_scope.specs.Program.{Resolved}
use Rattle.vsi_types.specs.declared.rules.Step.{Step}
use Rattle.vsi_infer.specs.Explanation.{name_of, rule_text}
use Rattle.vsi_answers.specs.Diagnostic as diagnostic
use Rattle.vsi_answers.specs.Members.{with_text, with_natural, without_end}
use Rattle.vsi_answers.specs.Source.{line_of, column_of}
use Rattle.vsi_answers.specs.Json as json

-- If three lists of members have no fractional number, neither has the one that an ordering selects.
match_plain : (o : Ordering) (a b c : Members) → members_have_float a ≡ false → members_have_float b ≡ false →
    members_have_float c ≡ false → members_have_float (match_ordering o a b c) ≡ false
match_plain Less a b c f g h = f
match_plain Equal a b c f g h = g
match_plain Greater a b c f g h = h

-- The disjunction of two false values is false.
pub both : (a b : Bool) → a ≡ false → b ≡ false → (a || b) ≡ false
both a b e f = rw (e, f) refl

-- If a disjunction is false, the first value is false.
left : (a b : Bool) → (a || b) ≡ false → a ≡ false
left false b e = refl
left true b e = e

-- If a disjunction is false, the second value is false.
right : (a b : Bool) → (a || b) ≡ false → b ≡ false
right false b e = e
right true b e = absurd cc

-- A member without a fractional number can be put among members without one.
pub put_plain : (k : List ℕ) (d : Data) (ms : Members) → has_float d ≡ false → members_have_float ms ≡ false →
    members_have_float (put k d ms) ≡ false
put_plain k d no_members e f = both (has_float d) false e refl
put_plain k d (member l old ms) e f =
    let rest = right (has_float old) (members_have_float ms) f in
    let first = left (has_float old) (members_have_float ms) f in
    match_plain (slice_cmp nat_cmp k l) (member k d (member l old ms)) (member l d ms) (member l old (put k d ms))
    (both (has_float d) (has_float old || members_have_float ms) e f)
    (both (has_float d) (members_have_float ms) e rest)
    (both (has_float old) (members_have_float (put k d ms)) first (put_plain k d ms e rest))

-- One more text adds no fractional number.
pub text_plain : (key bytes : List ℕ) (ms : Members) → members_have_float ms ≡ false →
    members_have_float (with_text key bytes ms) ≡ false
text_plain key bytes ms e = put_plain key (string (utf8_lossy bytes)) ms refl e

-- One more whole number adds no fractional number.
pub natural_plain : (key : List ℕ) (n : ℕ) (ms : Members) → members_have_float ms ≡ false →
    members_have_float (with_natural key n ms) ≡ false
natural_plain key n ms e = put_plain key (number (unsigned n)) ms refl e

-- Objects after others add no fractional number.
pub append_plain : (ds es : List Data) → items_have_float (items_of ds) ≡ false →
    items_have_float (items_of es) ≡ false → items_have_float (items_of (ds ++ es)) ≡ false
append_plain [] es e f = f
append_plain (d ∷ ds) es e f =
    both (has_float d) (items_have_float (items_of (ds ++ es)))
    (left (has_float d) (items_have_float (items_of ds)) e)
    (append_plain ds es (right (has_float d) (items_have_float (items_of ds)) e) f)

-- One more object without fractional numbers adds none.
pub one_plain : (ds es : List Data) (ms : Members) → es ≡ ds ++ object ms ∷ [] → items_have_float (items_of ds) ≡ false →
    members_have_float ms ≡ false → items_have_float (items_of es) ≡ false
one_plain ds es ms are e f =
    ap (λ (x : List Data). items_have_float (items_of x)) are
    ∙ append_plain ds (object ms ∷ []) e (both (members_have_float ms) false f refl)

-- One more text adds no fractional number.
pub item_plain : (ds es : List Data) (bytes : List ℕ) → es ≡ ds ++ string (utf8_lossy bytes) ∷ [] →
    items_have_float (items_of ds) ≡ false → items_have_float (items_of es) ≡ false
item_plain ds es bytes are e =
    ap (λ (x : List Data). items_have_float (items_of x)) are ∙ append_plain ds (string (utf8_lossy bytes) ∷ []) e refl
