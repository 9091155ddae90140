-- The steps of a command by the rules of a filter are its flows by those rules.
use Rattle.std.proofs.Common.{◌≡◌, ℕ, ◌+◌, ◌<◌, ◌≤◌, ◌==◌, cond, Bool, true, false, ◌&&◌, ◌||◌, List, [], ◌∷◌, ◌++◌, length, refl, sym, ap, ◌∙◌, subst, arith, eq-eqb, ne_eqb, ⊎_elim}
use Rattle.std.specs.Prelude.{slice_index}
use Rattle.std.specs.List.{All, list_any}
use Rattle.std.proofs.lemmas.List.{length_push}
use Rattle.std.proofs.lemmas.List.Folds.{list_any-append}
use Rattle.std.proofs.lemmas.List.Elements.{All-push, All-get_or}
use Rattle.std.proofs.Math.Bool.{or-false, and-false}
use Rattle.std.proofs.lemmas.Bool.{cases_eq, or_cases, and_parts, false≢true}
use Rattle.std.proofs.lemmas.Bool.Decides.{nat_tests}
use Rattle.vsi_syntax.specs.declared.token.Span.{Span}
use Rattle.vsi_scope.specs.Language.{Expression, Number, Location, Operator, Command, Skip, Assign, Sequence, If, While, Letvar, letvars, has_loop, HasPlaces, HasLocations}
use Rattle.vsi_types.specs.declared.rules.Profile.{Profile}
use Rattle.vsi_types.specs.declared.rules.Profile.TheVariants.{Base, Strict}
use Rattle.vsi_types.specs.declared.rules.Rule.{Rule}
use Rattle.vsi_types.specs.declared.rules.Rule.TheVariants as typing
use Rattle.vsi_types.specs.declared.rules.Read.{Read}
use Rattle.vsi_types.specs.declared.rules.Guard.{Guard}
use Rattle.vsi_types.specs.declared.rules.Step.{Step}
use Rattle.vsi_types.specs.Steps.{sink, reads, guarded, flows, endings, steps}
use Rattle.vsi_infer.specs.declared.flows.RuleFilter.{RuleFilter}
use Rattle.vsi_infer.specs.Leading.{takes, leads_taken, has_taken, reads_it, reads_by, inside, leads, observes_ending}
use Rattle.vsi_infer.specs.Flowing.{variable_at}
use Rattle.vsi_infer.proofs.FlowMatrixLemmas.{leads_same}

-- The guards whose rules the filter takes read the variable.
abbrev pub guards_read : RuleFilter → List Guard → ℕ → Bool
guards_read F gs v = list_any (λ g. takes F g.rule && (g.read.variable == v)) gs

-- Some read is of the variable.
abbrev reads_list : List Read → ℕ → Bool
reads_list rs v = list_any (λ r. r.variable == v) rs

-- A condition on both sides of a disjunction is one on the whole.
and_out : (m x y : Bool) → ((m && x) || (m && y)) ≡ (m && (x || y))
and_out true x y = refl
and_out false x y = refl

-- A shared condition can be taken out of a disjunction.
and_in : (m x y t : Bool) → ((m && (x && t)) || (t && y)) ≡ (t && ((m && x) || y))
and_in true true true true = refl
and_in true true true false = refl
and_in true true false true = refl
and_in true true false false = refl
and_in true false true true = refl
and_in true false true false = refl
and_in true false false true = refl
and_in true false false false = refl
and_in false x true true = refl
and_in false x true false = refl
and_in false x false true = refl
and_in false x false false = refl

-- The reads of an expression are of the variables that the expression reads.
reads_as : (scope : List ℕ) (e : Expression) (v : ℕ) → reads_list (reads scope e) v ≡ reads_it scope e v
reads_as scope (Number z) v = refl
reads_as scope (Location l s) v = or-false (slice_index scope l == v)
reads_as scope (Operator o a b) v =
    list_any-append (λ (r : Read). r.variable == v) (reads scope a) (reads scope b)
    ∙ ap (λ x. x || reads_list (reads scope b) v) (reads_as scope a v)
    ∙ ap (λ x. reads_it scope a v || x) (reads_as scope b v)

-- Guards made from reads read what the reads do, if the filter takes their rule.
guarded_as : (F : RuleFilter) (rule : Rule) (rs : List Read) (v : ℕ)
    → guards_read F (guarded rule rs) v ≡ (takes F rule && reads_list rs v)
guarded_as F rule [] v = sym (and-false (takes F rule))
guarded_as F rule (r ∷ rs) v = ap (λ x. (takes F rule && (r.variable == v)) || x) (guarded_as F rule rs v)
    ∙ and_out (takes F rule) (r.variable == v) (reads_list rs v)

-- The guards of an expression read what the expression reads, if the filter takes their rule.
guards_as : (F : RuleFilter) (rule : Rule) (scope : List ℕ) (e : Expression) (v : ℕ)
    → guards_read F (guarded rule (reads scope e)) v ≡ reads_by F rule scope e v
guards_as F rule scope e v = guarded_as F rule (reads scope e) v ∙ ap (λ x. takes F rule && x) (reads_as scope e v)

-- Guards followed by those of an expression read what the guards read and, if the filter takes the rule, what the
-- expression reads.
more_guards : (F : RuleFilter) (gs : List Guard) (rule : Rule) (scope : List ℕ) (e : Expression) (v : ℕ)
    → guards_read F (gs ++ guarded rule (reads scope e)) v ≡ inside F rule (guards_read F gs) scope e v
more_guards F gs rule scope e v = list_any-append (λ (g : Guard). takes F g.rule && (g.read.variable == v)) gs
    (guarded rule (reads scope e)) ∙ ap (λ x. guards_read F gs v || x) (guards_as F rule scope e v)

-- A flow by a rule goes to its target from a variable that the guards read by that rule.
flows_as : (F : RuleFilter) (target : ℕ) (written : Span) (gs : List Guard) (a b : ℕ)
    → has_taken (flows target written gs) F a b ≡ ((target == b) && guards_read F gs a)
flows_as F target written [] a b = sym (and-false (target == b))
flows_as F target written (g ∷ gs) a b =
    ap (λ x. (takes F g.rule && ((g.read.variable == a) && (target == b))) || x) (flows_as F target written gs a b)
    ∙ and_in (takes F g.rule) (g.read.variable == a) (guards_read F gs a) (target == b)

-- The endings of a loop go from the reads to the ending, by the rule of endings alone.
loops_as : (F : RuleFilter) (rs : List Read) (a b : ℕ) → has_taken (endings Strict true rs) F a b
    ≡ ((sink == b) && (takes F typing.Loop && reads_list rs a))
loops_as F [] a b =
    sym (ap (λ x. (sink == b) && x) (and-false (takes F typing.Loop)) ∙ and-false (sink == b))
loops_as F (r ∷ rs) a b =
    ap (λ x. (takes F typing.Loop && ((r.variable == a) && (sink == b))) || x) (loops_as F rs a b)
    ∙ and_in (takes F typing.Loop) (r.variable == a) (takes F typing.Loop && reads_list rs a) (sink == b)
    ∙ ap (λ x. (sink == b) && x) (and_out (takes F typing.Loop) (r.variable == a) (reads_list rs a))

-- An ending is observed by a rule if an expression reads the variable and the profile observes the ending.
endings_as : (F : RuleFilter) (P : Profile) (looping : Bool) (scope : List ℕ) (e : Expression) (a b : ℕ)
    → has_taken (endings P looping (reads scope e)) F a b
    ≡ (observes_ending P looping && ((sink == b) && reads_by F typing.Loop scope e a))
endings_as F Base looping scope e a b = refl
endings_as F Strict false scope e a b = refl
endings_as F Strict true scope e a b = loops_as F (reads scope e) a b
    ∙ ap (λ x. (sink == b) && (takes F typing.Loop && x)) (reads_as scope e a)

-- Two lists joined have the steps of each by a rule.
step_append : (F : RuleFilter) (xs ys : List Step) (a b : ℕ)
    → has_taken (xs ++ ys) F a b ≡ (has_taken xs F a b || has_taken ys F a b)
step_append F xs ys a b = list_any-append (leads_taken F a b) xs ys

module _ (k : ℕ) (small : k ≤ 1024) where
  -- The ending is at the last place.
  at_sink : (b : ℕ) → b ≤ k → (sink == variable_at k b) ≡ (b == k)
  at_sink b le = ⊎_elim
      (λ e. ap (λ t. sink == cond t sink b) (eq-eqb b k e) ∙ sym (eq-eqb b k e))
      (λ n. ap (λ t. sink == cond t sink b) (ne_eqb b k n) ∙ ne_eqb sink b (λ e. omega (arith, e, le, small))
      ∙ sym (ne_eqb b k n))
      (cases_eq b k)

  -- A variable is at the place of its number.
  at_variable : (t b : ℕ) → t < k → (t == variable_at k b) ≡ (b == t)
  at_variable t b lt = ⊎_elim
      (λ e. ap (λ x. t == cond x sink b) (eq-eqb b k e) ∙ ne_eqb t sink (λ q. omega (arith, lt, small, q))
      ∙ sym (ne_eqb b t (λ q. omega (arith, lt, e, q))))
      (λ n. ap (λ x. t == cond x sink b) (ne_eqb b k n) ∙ ⊎_elim (λ q. eq-eqb t b (sym q) ∙ sym (eq-eqb b t q))
      (λ q. ne_eqb t b (λ r. q (sym r)) ∙ sym (ne_eqb b t q)) (cases_eq b t))
      (cases_eq b k)

  -- A location gives a variable of the program.
  location : (scope : List ℕ) (l : ℕ) → All (λ v. v < k) scope → l < length scope → slice_index scope l < k
  location scope l all lt = All-get_or (λ v. v < k) scope l 0 lt all

  module _ (F : RuleFilter) (P : Profile) (names : ℕ → Span) (a b : ℕ) (le : b ≤ k) where
    -- The steps of a command by a rule are its flows by that rule.
    pub steps_as : (gs : List Guard) (scope : List ℕ) (n : ℕ) (c : Command) → HasPlaces (length scope) c
        → n + letvars c ≤ k → All (λ v. v < k) scope → has_taken (steps P names gs scope n c) F a
        (variable_at k b) ≡ leads F P k (guards_read F gs) scope n c a b
    steps_as gs scope n Skip places limit all = refl
    steps_as gs scope n (Assign l s e) places limit all =
        flows_as F (slice_index scope l) s (guarded typing.Assign (reads scope e) ++ gs) a (variable_at k b)
        ∙ ap (λ x. x && guards_read F (guarded typing.Assign (reads scope e) ++ gs) a)
        (at_variable (slice_index scope l) b (location scope l all places.0))
        ∙ ap (λ x. (b == slice_index scope l) && x) (list_any-append (λ (g : Guard). takes F g.rule &&
        (g.read.variable == a))
        (guarded typing.Assign (reads scope e)) gs
        ∙ ap (λ x. x || guards_read F gs a) (guards_as F typing.Assign scope e a))
    steps_as gs scope n (Sequence c d) places limit all =
        step_append F (steps P names gs scope n c) (steps P names gs scope (n + letvars c) d) a (variable_at k b)
        ∙ ap (λ x. x || has_taken (steps P names gs scope (n + letvars c) d) F a (variable_at k b))
        (steps_as gs scope n c places.0 (omega (arith, limit)) all)
        ∙ ap (λ x. leads F P k (guards_read F gs) scope n c a b || x)
        (steps_as gs scope (n + letvars c) d places.1 (omega (arith, limit)) all)
    steps_as gs scope n (If e c d) places limit all =
        let gs' = gs ++ guarded typing.If (reads scope e) in
        let one = steps_as gs' scope n c places.1 (omega (arith, limit)) all
        ∙ leads_same F P k (guards_read F gs') (inside F typing.If (guards_read F gs) scope e)
        (more_guards F gs typing.If scope e) scope n c a b in
        let two = steps_as gs' scope (n + letvars c) d places.2 (omega (arith, limit)) all
        ∙ leads_same F P k (guards_read F gs') (inside F typing.If (guards_read F gs) scope e)
        (more_guards F gs typing.If scope e) scope
        (n + letvars c) d a b in
        step_append F (endings P (has_loop c || has_loop d) (reads scope e)) _ a (variable_at k b)
        ∙ ap (λ x. x || has_taken (steps P names (gs ++ guarded typing.If (reads scope e)) scope n c
        ++ steps P names (gs ++ guarded typing.If (reads scope e)) scope (n + letvars c) d) F a (variable_at k b))
        (endings_as F P (has_loop c || has_loop d) scope e a (variable_at k b)
        ∙ ap (λ x. observes_ending P (has_loop c || has_loop d) && (x && reads_by F typing.Loop scope e a))
        (at_sink b le))
        ∙ ap (λ x. (observes_ending P (has_loop c || has_loop d) &&
        ((b == k) && reads_by F typing.Loop scope e a)) || x)
        (step_append F (steps P names (gs ++ guarded typing.If (reads scope e)) scope n c)
        (steps P names (gs ++ guarded typing.If (reads scope e)) scope (n + letvars c) d) a (variable_at k b)
        ∙ ap (λ x. x || has_taken (steps P names (gs ++ guarded typing.If (reads scope e)) scope
        (n + letvars c) d) F a
        (variable_at k b)) one
        ∙ ap (λ x. leads F P k (inside F typing.If (guards_read F gs) scope e) scope n c a b || x) two)
    steps_as gs scope n (While e c) places limit all =
        let gs' = gs ++ guarded typing.While (reads scope e) in
        let one = steps_as gs' scope n c places.1 (omega (arith, limit)) all
        ∙ leads_same F P k (guards_read F gs') (inside F typing.While (guards_read F gs) scope e)
        (more_guards F gs typing.While scope e) scope n c a b in
        step_append F (endings P true (reads scope e)) _ a (variable_at k b)
        ∙ ap (λ x. x || has_taken (steps P names (gs ++ guarded typing.While (reads scope e)) scope n c) F a
        (variable_at k b))
        (endings_as F P true scope e a (variable_at k b) ∙ ap (λ x. observes_ending P true &&
        (x && reads_by F typing.Loop scope e a))
        (at_sink b le))
        ∙ ap (λ x. (observes_ending P true && ((b == k) && reads_by F typing.Loop scope e a)) || x) one
    steps_as gs scope n (Letvar e c) places limit all =
        let lt : n < k = omega (arith, limit) in
        let size : length (scope ++ n ∷ []) ≡ length scope + 1 = length_push scope n in
        step_append F (flows n (names n) (guarded typing.Letvar (reads scope e))) _ a (variable_at k b)
        ∙ ap (λ x. x || has_taken (steps P names gs (scope ++ n ∷ []) (n + 1) c) F a (variable_at k b))
        (flows_as F n (names n) (guarded typing.Letvar (reads scope e)) a (variable_at k b)
        ∙ ap (λ x. x && guards_read F (guarded typing.Letvar (reads scope e)) a) (at_variable n b lt)
        ∙ ap (λ x. (b == n) && x) (guards_as F typing.Letvar scope e a))
        ∙ ap (λ x. ((b == n) && reads_by F typing.Letvar scope e a) || x)
        (steps_as gs (scope ++ n ∷ []) (n + 1) c (subst (λ m. HasPlaces m c) (sym size) places.1)
        (omega (arith, limit)) (All-push (λ v. v < k) scope n all lt))

  -- A variable that is read is a variable of the program.
  reads_within : (scope : List ℕ) (e : Expression) (v : ℕ) → HasLocations (length scope) e → All (λ v. v < k) scope
      → reads_it scope e v ≡ true → v < k
  reads_within scope (Number z) v places all h = absurd (false≢true h)
  reads_within scope (Location l s) v places all h = let q = location scope l all places in grind (arith, nat_tests)
  reads_within scope (Operator o a b) v places all h = ⊎_elim (reads_within scope a v places.0 all)
      (reads_within scope b v places.1 all) (or_cases (reads_it scope a v) (reads_it scope b v) h)

  -- The surrounding guards read only variables of the program.
  abbrev Within : (ℕ → Bool) → Type 0
  Within around = (v : ℕ) → around v ≡ true → v < k

  module _ (F : RuleFilter) (P : Profile) (a b : ℕ) where
    -- A variable read by a rule of the filter is a variable of the program.
    taken_within : (rule : Rule) (scope : List ℕ) (e : Expression) (v : ℕ) → HasLocations (length scope) e
        → All (λ v. v < k) scope → reads_by F rule scope e v ≡ true → v < k
    taken_within rule scope e v places all h =
        reads_within scope e v places all (and_parts (takes F rule) (reads_it scope e v) h).1

    -- With the reads of an expression added, the guards still read only variables of the program.
    inside_within : (rule : Rule) (around : ℕ → Bool) (scope : List ℕ) (e : Expression)
        → HasLocations (length scope) e → All (λ v. v < k) scope → Within around
        → Within (inside F rule around scope e)
    inside_within rule around scope e places all w v h = ⊎_elim (w v) (taken_within rule scope e v places all)
        (or_cases (around v) (reads_by F rule scope e v) h)

    -- A flow to the ending of a loop goes from a variable of the program.
    ending_within : (looping : Bool) (scope : List ℕ) (e : Expression)
        → HasLocations (length scope) e → All (λ v. v < k) scope
        → (observes_ending P looping && ((b == k) && reads_by F typing.Loop scope e a)) ≡ true → (a < k) × (b ≤ k)
    ending_within looping scope e places all h =
        let q = and_parts (observes_ending P looping) ((b == k) && reads_by F typing.Loop scope e a) h in
        let r = and_parts (b == k) (reads_by F typing.Loop scope e a) q.1 in
        (taken_within typing.Loop scope e a places all r.1, (let t = r.0 in grind (arith, nat_tests)))

    -- A flow goes from a variable to a variable or to the ending.
    pub leads_within : (around : ℕ → Bool) → Within around
        → (scope : List ℕ) (n : ℕ) (c : Command) → HasPlaces (length scope) c → n + letvars c ≤ k
        → All (λ v. v < k) scope → leads F P k around scope n c a b ≡ true → (a < k) × (b ≤ k)
    leads_within around w scope n Skip places limit all h = absurd (false≢true h)
    leads_within around w scope n (Assign l s e) places limit all h =
        let q = and_parts (b == slice_index scope l) (reads_by F typing.Assign scope e a || around a) h in
        let lt = location scope l all places.0 in (
          ⊎_elim (taken_within typing.Assign scope e a places.1 all) (w a)
              (or_cases (reads_by F typing.Assign scope e a) (around a) q.1),
          (let t = q.0 in grind (arith, nat_tests)),
        )
    leads_within around w scope n (Sequence c d) places limit all h =
        ⊎_elim (leads_within around w scope n c places.0 (omega (arith, limit)) all)
        (leads_within around w scope (n + letvars c) d places.1 (omega (arith, limit)) all)
        (or_cases (leads F P k around scope n c a b) (leads F P k around scope (n + letvars c) d a b) h)
    leads_within around w scope n (If e c d) places limit all h =
        let inner = inside F typing.If around scope e in
        let in' = inside_within typing.If around scope e places.0 all w in
        ⊎_elim (ending_within (has_loop c || has_loop d) scope e places.0 all)
        (λ q. ⊎_elim (leads_within inner in' scope n c places.1 (omega (arith, limit)) all)
        (leads_within inner in' scope (n + letvars c) d places.2 (omega (arith, limit)) all)
        (or_cases (leads F P k inner scope n c a b) (leads F P k inner scope (n + letvars c) d a b) q))
        (or_cases (observes_ending P (has_loop c || has_loop d) && ((b == k) && reads_by F typing.Loop scope e a)) _ h)
    leads_within around w scope n (While e c) places limit all h =
        ⊎_elim (ending_within true scope e places.0 all)
        (leads_within (inside F typing.While around scope e) (inside_within typing.While around scope e places.0 all w)
        scope n c places.1 (omega (arith, limit)) all)
        (or_cases (observes_ending P true && ((b == k) && reads_by F typing.Loop scope e a)) _ h)
    leads_within around w scope n (Letvar e c) places limit all h =
        let lt : n < k = omega (arith, limit) in
        let size : length (scope ++ n ∷ []) ≡ length scope + 1 = length_push scope n in
        ⊎_elim (λ q. let r = and_parts (b == n) (reads_by F typing.Letvar scope e a) q in
        (taken_within typing.Letvar scope e a places.0 all r.1, (let t = r.0 in grind (arith, nat_tests))))
        (leads_within around w (scope ++ n ∷ []) (n + 1) c (subst (λ m. HasPlaces m c) (sym size) places.1)
        (omega (arith, limit)) (All-push (λ v. v < k) scope n all lt))
        (or_cases ((b == n) && reads_by F typing.Letvar scope e a) _ h)
