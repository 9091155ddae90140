-- Where the names of globals begin, and the line of a raise from its parts.
use Rattle.std.proofs.Common.{◌≡◌, ◌∙◌, ℕ, zero, suc, ◌-◌, ◌<◌, true, cond, nat_lt, List, [], ◌∷◌, ◌++◌, length, map, get_or, slice_index_or, refl, sym, ap, arith, append_assoc}
use Rattle.std.specs.Prelude.{Result, Ok, Err, OnOk, is_ok, if◌then◌else◌}
use Rattle.std.proofs.lemmas.List.{length-map}
use Rattle.std.proofs.lemmas.Bool.Decides.{nat_tests}
use Rattle.vsi_syntax.specs.CommandView.{declared}
use Rattle.vsi_syntax.specs.declared.tree.Declaration.{Declaration}
use Rattle.vsi_scope.specs.declared.resolved.Entry.{Entry}
use Rattle.vsi_flows.specs.Lines.{name_start}

-- The name at a place begins where its declaration says.
start_at : (globals : List Declaration) (v : ℕ) (d : Declaration) → v < length globals →
    slice_index_or (map (λ g. g.name.span.start) (map declared globals)) v 0 ≡ (get_or globals v d).name.span.start
start_at [] v d lt = absurd (omega (arith, lt))
start_at (x ∷ xs) zero d lt = refl
start_at (x ∷ xs) (suc v) d lt = start_at xs v d (omega (arith, lt))

-- A test that holds.
is_below : (m n : ℕ) → m < n → nat_lt m n ≡ true
is_below m n lt = grind (arith, nat_tests)

-- The name of a global begins where its declaration says.
pub global_start : (globals : List Declaration) (letvars : List Entry) (v : ℕ) (d : Declaration) → v < length globals →
    (get_or globals v d).name.span.start ≡ name_start (map declared globals) letvars v
global_start globals letvars v d lt =
    let many = length-map globals declared in
    sym (ap
    (λ b. cond b (slice_index_or (map (λ g. g.name.span.start) (map declared globals)) v 0)
    (slice_index_or (map (λ x. x.span.start) letvars) (v - length (map declared globals)) 0))
    (ap (nat_lt v) many ∙ is_below v (length globals) lt) ∙ start_at globals v d lt)

-- A line from its four parts.
pub line_made : (text first second third fourth one two three four : List ℕ) → one ≡ text ++ first →
    two ≡ one ++ second → three ≡ two ++ third → four ≡ three ++ fourth →
    four ≡ text ++ (first ++ second ++ third ++ fourth)
line_made text first second third fourth one two three four a b c d =
    d ∙ ap (λ x. x ++ fourth) (c ∙ ap (λ x. x ++ third) (b ∙ ap (λ x. x ++ second) a))
    ∙ ap (λ x. (x ++ third) ++ fourth) (append_assoc text first second)
    ∙ ap (λ x. x ++ fourth) (append_assoc text (first ++ second) third)
    ∙ append_assoc text ((first ++ second) ++ third) fourth

-- A text that is present where it was added is present at the answer.
pub on_added : {E : Type 0} (r : Result (Unit {0}) E) (new more old : List ℕ) → new ≡ (if is_ok r then more else old)
    → OnOk r (new ≡ more)
on_added (Ok u) new more old e = e
on_added (Err e) new more old h = tt
