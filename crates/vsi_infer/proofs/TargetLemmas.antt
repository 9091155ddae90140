-- Each step goes to a variable or to the ending of a loop.
use Rattle.std.proofs.Common.{◌≡◌, ℕ, ◌+◌, ◌<◌, ◌≤◌, cond, Bool, true, false, ◌||◌, List, [], ◌∷◌, ◌++◌, length, refl, sym, ap, subst, arith, eq-eqb, ne_eqb}
use Rattle.std.specs.Prelude.{slice_index}
use Rattle.std.specs.List.{All}
use Rattle.std.proofs.lemmas.List.{length_push}
use Rattle.std.proofs.lemmas.List.Elements.{All-nil, All-cons, All-append, All-push, All-get_or}
use Rattle.vsi_syntax.specs.declared.token.Span.{Span}
use Rattle.vsi_scope.specs.Language.{Command, Skip, Assign, Sequence, If, While, Letvar, letvars, has_loop, HasPlaces}
use Rattle.vsi_types.specs.declared.rules.Profile.{Profile}
use Rattle.vsi_types.specs.declared.rules.Profile.TheVariants.{Base, Strict}
use Rattle.vsi_types.specs.declared.rules.Rule.TheVariants as typing
use Rattle.vsi_types.specs.declared.rules.Read.{Read}
use Rattle.vsi_types.specs.declared.rules.Guard.{Guard}
use Rattle.vsi_types.specs.declared.rules.Step.{Step}
use Rattle.vsi_types.specs.Steps.{sink, reads, guarded, flows, endings, steps}
use Rattle.vsi_infer.specs.Flowing.{variable_at}

-- The target is a place of the table.
abbrev pub HasTarget : ℕ → Step → Type 0
HasTarget k s = (b : ℕ) × (b ≤ k) × (s.target ≡ variable_at k b)

module _ (k : ℕ) where
  -- A step to a variable has a target in range.
  to_variable : (s : Step) → s.target < k → HasTarget k s
  to_variable s lt = (
    s.target,
    omega (arith, lt),
    sym (ap (λ t. cond t sink s.target)
        (ne_eqb s.target k (λ e. omega (arith, lt, e)))),
  )

  -- Flows to a variable have targets in range.
  flows_to : (target : ℕ) (written : Span) (gs : List Guard) → target < k
      → All (HasTarget k) (flows target written gs)
  flows_to target written [] lt = All-nil (HasTarget k)
  flows_to target written (g ∷ gs) lt = All-cons (HasTarget k)
      (record { rule = g.rule; source = g.read.variable; target = target; read = g.read.place; written = written })
      (flows target written gs) (to_variable (record {
        rule = g.rule;
        source = g.read.variable;
        target =
            target;
        read = g.read.place;
        written = written;
      }) lt) (flows_to target written gs lt)

  -- The endings of a loop have targets in range.
  loops_to : (rs : List Read) → All (HasTarget k) (endings Strict true rs)
  loops_to [] = All-nil (HasTarget k)
  loops_to (r ∷ rs) = All-cons (HasTarget k) (record {
    rule = typing.Loop;
    source = r.variable;
    target = sink;
    read =
        r.place;
    written = r.place;
  }) (endings Strict true rs) (
    k,
    omega arith,
    sym (ap (λ t. cond t sink k) (eq-eqb k k refl)),
  ) (loops_to rs)

  -- Endings under any profile have targets in range.
  endings_to : (P : Profile) (looping : Bool) (rs : List Read) → All (HasTarget k) (endings P looping rs)
  endings_to Base looping rs = All-nil (HasTarget k)
  endings_to Strict false rs = All-nil (HasTarget k)
  endings_to Strict true rs = loops_to rs

  -- All steps of a command have targets in range.
  pub targets : (P : Profile) (names : ℕ → Span) (gs : List Guard) (scope : List ℕ) (n : ℕ) (c : Command)
      → HasPlaces (length scope) c → n + letvars c ≤ k → All (λ v. v < k) scope
      → All (HasTarget k) (steps P names gs scope n c)
  targets P names gs scope n Skip places limit all = All-nil (HasTarget k)
  targets P names gs scope n (Assign l s e) places limit all = flows_to (slice_index scope l) s
      (guarded typing.Assign (reads scope e) ++ gs) (All-get_or (λ v. v < k) scope l 0 places.0 all)
  targets P names gs scope n (Sequence c d) places limit all =
      All-append (HasTarget k) (steps P names gs scope n c) (steps P names gs scope (n + letvars c) d)
      (targets P names gs scope n c places.0 (omega (arith, limit)) all)
      (targets P names gs scope (n + letvars c) d places.1 (omega (arith, limit)) all)
  targets P names gs scope n (If e c d) places limit all =
      All-append (HasTarget k) (endings P (has_loop c || has_loop d) (reads scope e)) _
      (endings_to P (has_loop c || has_loop d) (reads scope e))
      (All-append (HasTarget k) (steps P names (gs ++ guarded typing.If (reads scope e)) scope n c)
      (steps P names (gs ++ guarded typing.If (reads scope e)) scope (n + letvars c) d)
      (targets P names (gs ++ guarded typing.If (reads scope e)) scope n c places.1 (omega (arith, limit)) all)
      (targets P names (gs ++ guarded typing.If (reads scope e)) scope (n + letvars c) d places.2
      (omega (arith, limit)) all))
  targets P names gs scope n (While e c) places limit all =
      All-append (HasTarget k) (endings P true (reads scope e)) _ (endings_to P true (reads scope e))
      (targets P names (gs ++ guarded typing.While (reads scope e)) scope n c places.1 (omega (arith, limit)) all)
  targets P names gs scope n (Letvar e c) places limit all =
      let lt : n < k = omega (arith, limit) in
      let size : length (scope ++ n ∷ []) ≡ length scope + 1 = length_push scope n in
      All-append (HasTarget k) (flows n (names n) (guarded typing.Letvar (reads scope e))) _
      (flows_to n (names n) (guarded typing.Letvar (reads scope e)) lt)
      (targets P names gs (scope ++ n ∷ []) (n + 1) c (subst (λ m. HasPlaces m c) (sym size) places.1)
      (omega (arith, limit)) (All-push (λ v. v < k) scope n all lt))
