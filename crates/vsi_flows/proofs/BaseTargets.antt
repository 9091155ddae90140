-- Under the base profile each step goes to a declaration.
use Rattle.std.proofs.Common.{◌≡◌, ℕ, ◌+◌, ◌<◌, ◌≤◌, List, [], ◌∷◌, ◌++◌, length, sym, subst, arith}
use Rattle.std.specs.Prelude.{slice_index}
use Rattle.std.specs.List.{All}
use Rattle.std.proofs.lemmas.List.{length_push}
use Rattle.std.proofs.lemmas.List.Elements.{All-nil, All-cons, All-append, All-push, All-get_or}
use Rattle.vsi_syntax.specs.declared.token.Span.{Span}
use Rattle.vsi_scope.specs.Language.{Command, Skip, Assign, Sequence, If, While, Letvar, letvars, HasPlaces}
use Rattle.vsi_types.specs.declared.rules.Profile.TheVariants.{Base}
use Rattle.vsi_types.specs.declared.rules.Rule.TheVariants as typing
use Rattle.vsi_types.specs.declared.rules.Guard.{Guard}
use Rattle.vsi_types.specs.declared.rules.Step.{Step}
use Rattle.vsi_types.specs.Steps.{reads, guarded, flow, flows, steps}

module _ (k : ℕ) where
  -- The target is a declaration.
  abbrev pub IsInside : Step → Type 0
  IsInside s = s.target < k

  -- Flows to a variable stay inside the program.
  flows_to : (target : ℕ) (written : Span) (gs : List Guard) → target < k
      → All IsInside (flows target written gs)
  flows_to target written [] lt = All-nil IsInside
  flows_to target written (g ∷ gs) lt =
      All-cons IsInside (flow target written g) (flows target written gs) lt (flows_to target written gs lt)

  -- Under the base profile all steps stay inside the program.
  pub targets : (names : ℕ → Span) (gs : List Guard) (scope : List ℕ) (n : ℕ) (c : Command)
      → HasPlaces (length scope) c → n + letvars c ≤ k → All (λ v. v < k) scope
      → All IsInside (steps Base names gs scope n c)
  targets names gs scope n Skip places limit all = All-nil IsInside
  targets names gs scope n (Assign l s e) places limit all = flows_to (slice_index scope l) s
      (guarded typing.Assign (reads scope e) ++ gs) (All-get_or (λ v. v < k) scope l 0 places.0 all)
  targets names gs scope n (Sequence c d) places limit all =
      All-append IsInside (steps Base names gs scope n c) (steps Base names gs scope (n + letvars c) d)
      (targets names gs scope n c places.0 (omega (arith, limit)) all)
      (targets names gs scope (n + letvars c) d places.1 (omega (arith, limit)) all)
  targets names gs scope n (If e c d) places limit all =
      All-append IsInside (steps Base names (gs ++ guarded typing.If (reads scope e)) scope n c)
      (steps Base names (gs ++ guarded typing.If (reads scope e)) scope (n + letvars c) d)
      (targets names (gs ++ guarded typing.If (reads scope e)) scope n c places.1 (omega (arith, limit)) all)
      (targets names (gs ++ guarded typing.If (reads scope e)) scope (n + letvars c) d places.2
      (omega (arith, limit)) all)
  targets names gs scope n (While e c) places limit all =
      targets names (gs ++ guarded typing.While (reads scope e)) scope n c places.1 (omega (arith, limit)) all
  targets names gs scope n (Letvar e c) places limit all =
      let lt : n < k = omega (arith, limit) in
      let size : length (scope ++ n ∷ []) ≡ length scope + 1 = length_push scope n in
      All-append IsInside (flows n (names n) (guarded typing.Letvar (reads scope e))) _
      (flows_to n (names n) (guarded typing.Letvar (reads scope e)) lt)
      (targets names gs (scope ++ n ∷ []) (n + 1) c (subst (λ m. HasPlaces m c) (sym size) places.1)
      (omega (arith, limit)) (All-push (λ v. v < k) scope n all lt))
