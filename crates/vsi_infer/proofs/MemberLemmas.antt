-- How answers for the parts combine into an answer for the whole, and their relation to the steps of a program.
use Rattle.std.proofs.Common.{◌≡◌, ℕ, zero, suc, ◌+◌, ◌<◌, ◌≤◌, Bool, false, ◌||◌, List, [], ◌∷◌, ◌++◌, take, length, get_or, refl, sym, ap, ◌∙◌, subst, arith}
use Rattle.std.proofs.lemmas.List.{take_more, take_all}
use Rattle.std.proofs.Math.Bool.{or-false, or_assoc}
use Rattle.vsi_syntax.specs.declared.token.Span.{Span}
use Rattle.vsi_scope.specs.declared.program.Cmd.{Cmd}
use Rattle.vsi_scope.specs.Language.{letvars, nesting, HasPlaces}
use Rattle.vsi_scope.specs.View.{command, sequence}
use Rattle.vsi_scope.proofs.Views.{letvars_more}
use Rattle.vsi_types.specs.declared.rules.Profile.{Profile}
use Rattle.vsi_types.specs.declared.rules.Step.{Step}
use Rattle.vsi_types.proofs.Judging.{places_at, letvars_at}
use Rattle.vsi_infer.specs.Membership.{passes, Stand, IsFor, IsPast}

-- A command of a list nests no deeper than the list.
pub nesting_at : (cs : List Cmd) (i : ℕ) (c : Cmd) → i < length cs → c ≡ get_or cs i c
    → nesting (command c) ≤ nesting (sequence cs)
nesting_at [] i c lt is = absurd (omega arith)
nesting_at (x ∷ cs) zero c lt is = let e = ap (λ y. nesting (command y)) is in omega arith
nesting_at (x ∷ cs) (suc i) c lt is = let r = nesting_at cs i c (omega arith) is in omega arith

module _ (x : Step) (P : Profile) (names : ℕ → Span) (around : Bool) (scope : List ℕ) where
  -- The answer for a list with one command more at its end.
  pub passes_push : (n : ℕ) (cs : List Cmd) (c : Cmd) → passes x P names around scope n (sequence (cs ++ c ∷ []))
      ≡ (passes x P names around scope n (sequence cs) || passes x P names around scope (n + letvars (sequence cs))
      (command c))
  passes_push n [] c =
      let e : n ≡ n + 0 = omega arith in
      or-false (passes x P names around scope n (command c)) ∙ ap (λ k. passes x P names around scope k (command c)) e
  passes_push n (y ∷ cs) c =
      let r = passes_push (n + letvars (command y)) cs c in
      let e : n + letvars (command y) + letvars (sequence cs) ≡ n + (letvars (command y) + letvars (sequence cs)) =
      omega arith in
      ap (λ b. passes x P names around scope n (command y) || b) r
      ∙ sym (or_assoc (passes x P names around scope n (command y))
      (passes x P names around scope (n + letvars (command y)) (sequence cs)) _)
      ∙ ap (λ k. (passes x P names around scope n (command y) || passes x P names around scope
      (n + letvars (command y)) (sequence cs)) || passes x P names around scope k (command c)) e

  -- The answer for the first commands of a list and one more.
  pub passes_more : (n : ℕ) (cs : List Cmd) (i : ℕ) (c : Cmd) → i < length cs → c ≡ get_or cs i c
      → passes x P names around scope n (sequence (take (i + 1) cs))
      ≡ (passes x P names around scope n (sequence (take i cs)) || passes x P names around scope
      (n + letvars (sequence (take i cs))) (command c))
  passes_more n cs i c lt is =
      ap (λ l. passes x P names around scope n (sequence l)) (take_more cs i c lt)
      ∙ passes_push n (take i cs) (get_or cs i c)
      ∙ ap (λ y. passes x P names around scope n (sequence (take i cs)) || passes x P names around scope
      (n + letvars (sequence (take i cs))) (command y)) (sym is)

-- The next command of a list has what it needs.
pub for_next : (x : Step) (P : Profile) (names : ℕ → Span) (around : Bool) (first count : ℕ) (a b : Stand)
    (cs : List Cmd) (i : ℕ) (c : Cmd) (found : Bool) → i < length cs → c ≡ get_or cs i c
    → IsFor first count a (sequence cs) → IsPast x P names around a (sequence (take i cs)) b found
    → IsFor first count b (command c)
for_next x P names around first count a b cs i c found lt is f p =
    let l = letvars_at cs i c lt is in
    let d = nesting_at cs i c lt is in
    record {
      places = subst (λ s. HasPlaces (length s) (command c)) (sym p.scope)
          (places_at (length a.scope) cs i c lt is f.places);
      after = omega (arith, f.after, p.next);
      limit = omega (arith, f.limit, p.next, l);
      small = f.small;
      room = omega (arith, f.room, d, ap length p.scope);
    }

-- Before the first command nothing was passed.
pub past_none : (x : Step) (P : Profile) (names : ℕ → Span) (around : Bool) (a : Stand)
    → IsPast x P names around a (sequence []) a false
past_none x P names around a = record { answer = refl; scope = refl; next = omega arith }

-- One more command was passed.
pub past_more : (x : Step) (P : Profile) (names : ℕ → Span) (around : Bool) (a b d : Stand) (cs : List Cmd) (i : ℕ)
    (c : Cmd) (found one : Bool) → i < length cs → c ≡ get_or cs i c
    → IsPast x P names around a (sequence (take i cs)) b found → IsPast x P names around b (command c) d one
    → IsPast x P names around a (sequence (take (i + 1) cs)) d (found || one)
past_more x P names around a b d cs i c found one lt is p q = record {
  answer =
      ap (λ t. t || one) p.answer
      ∙ ap (λ t. passes x P names around a.scope a.next (sequence (take i cs)) || t)
      (q.answer ∙ ap (λ s. passes x P names around s b.next (command c)) p.scope
      ∙ ap (λ n. passes x P names around a.scope n (command c)) p.next)
      ∙ sym (passes_more x P names around a.scope a.next cs i c lt is);
  scope = q.scope ∙ p.scope;
  next = (let e = letvars_more cs i c lt is in omega (arith, q.next, p.next, e));
}

-- All commands were passed.
pub past_all : (x : Step) (P : Profile) (names : ℕ → Span) (around : Bool) (a b : Stand) (cs : List Cmd) (i : ℕ)
    (found : Bool) → length cs ≤ i
    → IsPast x P names around a (sequence (take i cs)) b found → IsPast x P names around a (sequence cs) b found
past_all x P names around a b cs i found le p = subst (λ l. IsPast x P names around a (sequence l) b found)
    (take_all i cs le) p
