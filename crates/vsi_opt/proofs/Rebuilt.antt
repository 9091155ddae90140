-- The optimised program is within the limits, its locations exist, and it has an entry for each letvar.
use Rattle.std.proofs.Common.{◌≡◌, ℕ, ◌+◌, ◌≤◌, Bool, true, false, Option, Some, None, List, [], ◌++◌, length, slice_get, refl, sym, ap, ◌∙◌, subst, arith, length-append}
use Rattle.std.proofs.lemmas.List.{length-map}
use Rattle.vsi_scope.specs.declared.program.Cmd.{Cmd}
use Rattle.vsi_scope.specs.declared.resolved.Entry.{Entry}
use Rattle.vsi_scope.specs.Language.{Expression, Command, Skip, Assign, Sequence, If, While, Letvar, letvars, HasPlaces, size, nesting, expressions_depth}
use Rattle.vsi_scope.specs.Program.{Resolved, IsResolved, resolved_of}
use Rattle.vsi_scope.specs.View.{sequence}
use Rattle.vsi_opt.specs.Folding.{folded, truth_of, branch, loop, fold}
use Rattle.vsi_opt.specs.Folded.{IsFolded}
use Rattle.vsi_opt.specs.Optimised.{globals_alone, optimised, RunsAlike}
use Rattle.vsi_opt.specs.Remaining.{may_be_true, may_be_false, list_if, remaining, HasEntries, Remains, IsRemainder}
use Rattle.vsi_opt.proofs.Remains.{optimised_remains}
use Rattle.vsi_opt.proofs.Depths.{optimised_expressions}
use Rattle.vsi_opt.proofs.Kept.{append_letvars, kept_live_letvars, fold_letvars, not_larger, nothing_to_fold, places_kept}
use Rattle.vsi_opt.proofs.LiveRuns.{evaluates_same}

-- A folded choice has as many letvars as numbers remain from its branches.
branch_count : (t : Option Bool) (e : Expression) (a b : Command) (xs ys : List ℕ) →
    length xs ≡ letvars a → length ys ≡ letvars b →
    length (list_if (may_be_true t) xs ++ list_if (may_be_false t) ys) ≡ letvars (branch t e a b)
branch_count (Some true) e a b xs ys p q = omega (arith, length-append xs [], p)
branch_count (Some false) e a b xs ys p q = q
branch_count None e a b xs ys p q = omega (arith, length-append xs ys, p, q)

-- A folded loop has as many letvars as numbers remain from its body.
loop_count : (t : Option Bool) (e : Expression) (c : Command) (xs : List ℕ) →
    length xs ≡ letvars c → length (list_if (may_be_true t) xs) ≡ letvars (loop t e c)
loop_count (Some true) e c xs p = omega (arith, p)
loop_count (Some false) e c xs p = refl
loop_count None e c xs p = omega (arith, p)

-- Folding leaves as many letvars as numbers remain.
remaining_count : (c : Command) (n : ℕ) → length (remaining c n) ≡ letvars (fold c)
remaining_count Skip n = refl
remaining_count (Assign l s e) n = refl
remaining_count (Sequence a b) n =
    let joins = length-append (remaining a n) (remaining b (n + letvars a)) in
    let parts = append_letvars (fold a) (fold b) in
    omega (arith, joins, parts, remaining_count a n, remaining_count b (n + letvars a))
remaining_count (If e a b) n =
    branch_count (truth_of (folded e)) (folded e) (fold a) (fold b) (remaining a n) (remaining b (n + letvars a))
    (remaining_count a n) (remaining_count b (n + letvars a))
remaining_count (While e c) n =
    loop_count (truth_of (folded e)) (folded e) (fold c) (remaining c n) (remaining_count c n)
remaining_count (Letvar e c) n = omega (arith, remaining_count c (n + 1))

-- As many entries remain as the optimised body has letvars.
entries_count : (xs ys : List Entry) (c : Command) (g : ℕ) → HasEntries ys xs (remaining c 0) →
    length ys ≡ letvars (optimised g c)
entries_count xs ys c g has =
    sym (length-map ys Some)
    ∙ ap length has
    ∙ length-map (remaining c 0) (slice_get xs)
    ∙ remaining_count c 0
    ∙ sym (kept_live_letvars (fold c) g g (globals_alone g))

-- The optimised body has no more letvars.
optimised_letvars : (c : Command) (g : ℕ) → letvars (optimised g c) ≤ letvars c
optimised_letvars c g = omega (arith, kept_live_letvars (fold c) g g (globals_alone g), fold_letvars c)

-- A program with the optimised body and the remaining entries has the invariants of a resolved program.
pub rebuilt_resolved : (p : Resolved) (ys : List Entry) (cs : List Cmd) → IsResolved p →
    HasEntries ys p.letvars (remaining (sequence p.body) 0) →
    sequence cs ≡ optimised (length p.globals) (sequence p.body) → IsResolved (resolved_of p.globals ys cs)
rebuilt_resolved p ys cs r has is =
    let g = length p.globals in
    let c = sequence p.body in
    let less = not_larger c g in
    record {
      entries = entries_count p.letvars ys c g has ∙ ap letvars (sym is);
      places = subst (HasPlaces g) (sym is) (places_kept c g r.places);
      few_globals = r.few_globals;
      few_declarations = omega (arith, r.few_declarations, optimised_letvars c g, ap letvars is);
      small = omega (arith, r.small, less.0, ap size is);
      nested = omega (arith, r.nested, less.2, ap nesting is);
      shallow = omega (arith, r.shallow, optimised_expressions c g, ap expressions_depth is);
      distinct = r.distinct;
      named = r.named;
    }

-- The rebuilt program has the optimised body.
pub rebuilt_body : (p r : Resolved) (ys : List Entry) (cs : List Cmd) → r ≡ resolved_of p.globals ys cs →
    sequence cs ≡ optimised (length p.globals) (sequence p.body) →
    sequence r.body ≡ optimised (length r.globals) (sequence p.body)
rebuilt_body p r ys cs is body =
    subst (λ x. sequence x.body ≡ optimised (length x.globals) (sequence p.body)) (sym is) body

-- A program with the optimised body behaves like the program.
pub rebuilt_runs : (p r : Resolved) → sequence r.body ≡ optimised (length r.globals) (sequence p.body) →
    RunsAlike (length r.globals) (sequence r.body) (sequence p.body)
rebuilt_runs p r is =
    let g = length r.globals in
    subst (λ x. RunsAlike g x (sequence p.body)) (sym is) (evaluates_same (sequence p.body) g)

-- A program with the optimised body isn't larger.
pub rebuilt_size : (p r : Resolved) → sequence r.body ≡ optimised (length r.globals) (sequence p.body) →
    size (sequence r.body) ≤ size (sequence p.body)
rebuilt_size p r is =
    subst (λ x. size x ≤ size (sequence p.body)) (sym is) ((not_larger (sequence p.body) (length r.globals)).0)

-- A program with the optimised body has nothing left to fold.
pub rebuilt_folded : (p r : Resolved) → sequence r.body ≡ optimised (length r.globals) (sequence p.body) →
    IsFolded (sequence r.body)
rebuilt_folded p r is = subst IsFolded (sym is) (nothing_to_fold (sequence p.body) (length r.globals))

-- A program with the optimised body is the remainder of the program.
pub rebuilt_remains : (p r : Resolved) → IsResolved p → r.globals ≡ p.globals →
    sequence r.body ≡ optimised (length r.globals) (sequence p.body) → IsRemainder p r
rebuilt_remains p r resolved same is =
    let g = length p.globals in
    let c = sequence p.body in
    subst (λ d. Remains g (globals_alone g) g 0 c d (remaining c 0))
    (sym (is ∙ ap (λ l. optimised (length l) c) same)) (optimised_remains c g resolved.places)
