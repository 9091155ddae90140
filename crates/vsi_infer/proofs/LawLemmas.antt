-- The steps under the base profile are steps under the strict profile.
use Rattle.std.proofs.Common.{ℕ, ◌+◌, ◌∷◌, ◌++◌, [], ◌||◌, true, List, inl, inr}
use Rattle.std.specs.List.{All, Contains}
use Rattle.std.proofs.lemmas.List.Elements.{All-nil, All-cons, All-head, All-tail, Contains-append_left, Contains-append_right, Contains-append_cases}
use Rattle.vsi_syntax.specs.declared.token.Span.{Span}
use Rattle.vsi_scope.specs.Language.{Command, Skip, Assign, Sequence, If, While, Letvar, letvars, has_loop}
use Rattle.vsi_types.specs.declared.rules.Profile.TheVariants.{Base, Strict}
use Rattle.vsi_types.specs.declared.rules.Rule.TheVariants as typing
use Rattle.vsi_types.specs.declared.rules.Guard.{Guard}
use Rattle.vsi_types.specs.declared.rules.Step.{Step}
use Rattle.vsi_types.specs.Steps.{reads, guarded, flows, endings, steps}
use Rattle.vsi_types.specs.Security.{steps_of}
use Rattle.vsi_infer.specs.Laws.{BaseWalksStayBad}

-- A step of a command under the base profile is one under the strict profile.
pub stays : (names : ℕ → Span) (x : Step) (gs : List Guard) (scope : List ℕ) (n : ℕ) (c : Command)
    → Contains (steps Base names gs scope n c) x → Contains (steps Strict names gs scope n c) x
stays names x gs scope n Skip h = h
stays names x gs scope n (Assign l s e) h = h
stays names x gs scope n (Sequence c d) h = elim (Contains-append_cases (steps Base names gs scope n c)
    (steps Base names gs scope (n + letvars c) d) x h) [
      | inl k ↦ Contains-append_left (steps Strict names gs scope n c)
          (steps Strict names gs scope (n + letvars c) d) x
          (stays names x gs scope n c k)
      | inr k ↦ Contains-append_right (steps Strict names gs scope n c)
          (steps Strict names gs scope (n + letvars c) d) x (stays names x gs scope (n + letvars c) d k)
    ]
stays names x gs scope n (If e c d) h =
    let hs = gs ++ guarded typing.If (reads scope e) in
    Contains-append_right (endings Strict (has_loop c || has_loop d) (reads scope e))
    (steps Strict names hs scope n c ++ steps Strict names hs scope (n + letvars c) d) x
    (elim (Contains-append_cases (steps Base names hs scope n c) (steps Base names hs scope (n + letvars c) d) x h) [
      | inl k ↦ Contains-append_left (steps Strict names hs scope n c)
          (steps Strict names hs scope (n + letvars c) d) x (stays names x hs scope n c k)
      | inr k ↦ Contains-append_right (steps Strict names hs scope n c)
          (steps Strict names hs scope (n + letvars c) d) x (stays names x hs scope (n + letvars c) d k)
    ])
stays names x gs scope n (While e c) h =
    let hs = gs ++ guarded typing.While (reads scope e) in
    Contains-append_right (endings Strict true (reads scope e)) (steps Strict names hs scope n c) x
    (stays names x hs scope n c h)
stays names x gs scope n (Letvar e c) h =
    let here = flows n (names n) (guarded typing.Letvar (reads scope e)) in
    elim (Contains-append_cases here (steps Base names gs (scope ++ n ∷ []) (n + 1) c) x h) [
      | inl k ↦ Contains-append_left here (steps Strict names gs (scope ++ n ∷ []) (n + 1) c) x k
      | inr k ↦ Contains-append_right here (steps Strict names gs (scope ++ n ∷ []) (n + 1) c) x
          (stays names x gs (scope ++ n ∷ []) (n + 1) c k)
    ]

-- A walk that is bad under the base profile is bad under the strict one.
pub base_stay_bad : BaseWalksStayBad
base_stay_bad L p [] bad = bad
base_stay_bad L p (s ∷ rest) bad = record {
  steps = each (s ∷ rest) bad.steps;
  chain = bad.chain;
  low = bad.low;
  high = bad.high;
  source = bad.source;
  target = bad.target;
  down = bad.down;
}
  where
    each : (xs : List Step) → All (Contains (steps_of Base p)) xs → All (Contains (steps_of Strict p)) xs
    each [] h = All-nil (Contains (steps_of Strict p))
    each (x ∷ xs) h = All-cons (Contains (steps_of Strict p)) x xs
        (stays _ x _ _ _ p.body (All-head (Contains (steps_of Base p)) x xs h))
        (each xs (All-tail (Contains (steps_of Base p)) x xs h))
