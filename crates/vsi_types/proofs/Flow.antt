-- A command has a type exactly if its steps go up.
use Rattle.std.proofs.Common.{◌≡◌, ℕ, ◌+◌, ◌<◌, Bool, true, false, List, [], ◌∷◌, ◌++◌, map, length, refl, sym, ap, ◌∙◌, subst, ⊎_elim}
use Rattle.std.specs.Prelude.{slice_index, ◌||◌}
use Rattle.std.proofs.lemmas.List.{get_or-map, map-append, length-map, length_push}
use Rattle.std.proofs.lemmas.Bool.{or_cases, false≢true}
use Rattle.vsi_lattice.specs.Order.{Lattice, IsLattice, IsClass, Below}
use Rattle.vsi_syntax.specs.declared.token.Span.{Span}
use Rattle.vsi_scope.specs.Language.{Expression, Number, Location, Operator, Command, Skip, Assign, Sequence, If, While, Letvar, letvars, has_loop, HasLocations, HasPlaces}
use Rattle.vsi_types.specs.declared.rules.Profile.{Profile}
use Rattle.vsi_types.specs.declared.rules.Profile.TheVariants.{Base, Strict}
use Rattle.vsi_types.specs.declared.rules.Rule.{Rule}
use Rattle.vsi_types.specs.declared.rules.Rule.TheVariants as typing
use Rattle.vsi_types.specs.declared.rules.Step.{Step}
use Rattle.vsi_types.specs.declared.rules.Read.{Read}
use Rattle.vsi_types.specs.declared.rules.Guard.{Guard}
use Rattle.vsi_types.specs.Typing.{Locations, HasVar, VARLOC, HasData, INT, R_VAL, ARITH, SUBTYPE, HasCmd, EMPTY, ASSIGN, COMPOSE, IF, WHILE, LETVAR, SUBTYPE_CMD}
use Rattle.vsi_types.specs.Steps.{sink, reads, guarded, flow, flows, ending, endings, steps, IsInOrder}
use Rattle.vsi_types.proofs.Orders.{Each, each_append, each_front, each_back, each_map, each_unmap, each_weaker, join_of, join_of_within, join_of_least, join_of_above}

-- Whether loops count under the profile.
abbrev active : Profile → Bool → Bool
active Base b = false
active Strict b = b

-- If loops count in a command, they count under the profile.
active_any : (P : Profile) (b : Bool) → active P b ≡ true → active P true ≡ true
active_any Base b e = e
active_any Strict b e = refl

module _ (L : Lattice) (laws : IsLattice L) (names : ℕ → Span) (classes : ℕ → ℕ)
    (within : (v : ℕ) → IsClass L (classes v)) (at_sink : classes sink ≡ L.bottom) where
  -- All reads are of classes at or below t.
  abbrev ReadsBelow : ℕ → List Read → Type 0
  ReadsBelow t rs = Each (λ r. Below L (classes r.variable) t) rs

  -- All reads of guards are of classes at or below t.
  abbrev GuardsBelow : ℕ → List Guard → Type 0
  GuardsBelow t gs = Each (λ g. Below L (classes g.read.variable) t) gs

  -- All steps are in order.
  abbrev Ordered : List Step → Type 0
  Ordered ss = Each (IsInOrder L classes) ss

  -- The class of a location is that of its variable.
  located : (scope : List ℕ) (l : ℕ) → l < length scope →
      slice_index (map classes scope) l ≡ classes (slice_index scope l)
  located scope l lt = get_or-map classes scope l 0 0 lt

  -- A typed location has the class of its variable.
  var_class : (q : Locations) (scope : List ℕ) → q ≡ map classes scope → (l t : ℕ) → HasVar q l t →
      (l < length scope) × (t ≡ classes (slice_index scope l))
  var_class q scope same l t (VARLOC lt) =
      let lt' : l < length scope = subst (λ n. l < n) (ap length same ∙ length-map scope classes) lt in
      (lt', ap (λ x. slice_index x l) same ∙ located scope l lt')

  -- The type of an expression is a class of the lattice.
  data_class : (q : Locations) (scope : List ℕ) → q ≡ map classes scope → (e : Expression) (t : ℕ) → HasData L q e t →
      IsClass L t
  data_class q scope same e t (INT w) = w
  data_class q scope same e t (R_VAL {l = l} v) = subst (IsClass L) (sym (var_class q scope same l t v).1) (within _)
  data_class q scope same e t (ARITH {a = a} d d') = data_class q scope same a t d
  data_class q scope same e t (SUBTYPE le w d) = w

  -- The reads of an expression of type t are of classes at or below t.
  data_reads : (q : Locations) (scope : List ℕ) → q ≡ map classes scope → (e : Expression) (t : ℕ) → HasData L q e t →
      ReadsBelow t (reads scope e)
  data_reads q scope same e t (INT w) = tt
  data_reads q scope same e t (R_VAL {l = l} v) =
      let c = (var_class q scope same l t v).1 in
      (subst (Below L (classes (slice_index scope l))) (sym c) (laws.reflexive _ (within _)), tt)
  data_reads q scope same e t (ARITH {a = a} {b = b} d d') =
      each_append _ (reads scope a) (reads scope b) (data_reads q scope same a t d) (data_reads q scope same b t d')
  data_reads q scope same e t (SUBTYPE {t = t₁} le w d) =
      let k = data_class q scope same e t₁ d in
      each_weaker _ _ (λ r h. laws.transitive (classes r.variable) t₁ t (within _) k w h le) (reads scope e)
      (data_reads q scope same e t₁ d)

  -- An expression has the type t if its reads are of classes at or below t.
  reads_data : (scope : List ℕ) (e : Expression) (t : ℕ) → IsClass L t → HasLocations (length scope) e →
      ReadsBelow t (reads scope e) → HasData L (map classes scope) e t
  reads_data scope (Number z) t k has h = INT k
  reads_data scope (Location l s) t k has h =
      let lt : l < length (map classes scope) = subst (λ n. l < n) (sym (length-map scope classes)) has in
      SUBTYPE (subst (λ x. Below L x t) (sym (located scope l has)) h.0) k (R_VAL (VARLOC lt))
  reads_data scope (Operator o a b) t k has h =
      ARITH (reads_data scope a t k has.0 (each_front _ (reads scope a) (reads scope b) h))
      (reads_data scope b t k has.1 (each_back _ (reads scope a) (reads scope b) h))

  -- Guards at or below a class are at or below every higher class.
  guards_up : (t t' : ℕ) → IsClass L t → IsClass L t' → Below L t t' → (gs : List Guard) → GuardsBelow t gs →
      GuardsBelow t' gs
  guards_up t t' k k' le gs h = each_weaker _ _
      (λ g b. laws.transitive (classes g.read.variable) t t' (within _) k k' b le) gs h

  -- Reads at or below t are at or below t as guards under any rule.
  guarded_below : (rule : Rule) (t : ℕ) (rs : List Read) → ReadsBelow t rs → GuardsBelow t (guarded rule rs)
  guarded_below rule t rs h = each_map _ (λ r. record { rule = rule; read = r }) rs h

  -- Guards at or below t are at or below t as reads.
  below_guarded : (rule : Rule) (t : ℕ) (rs : List Read) → GuardsBelow t (guarded rule rs) → ReadsBelow t rs
  below_guarded rule t rs h = each_unmap _ (λ r. record { rule = rule; read = r }) rs h

  -- Flows of guards at or below their target are in order.
  flows_ordered : (target : ℕ) (written : Span) (gs : List Guard) → GuardsBelow (classes target) gs →
      Ordered (flows target written gs)
  flows_ordered target written gs h = each_map _ (flow target written) gs h

  -- Guards whose flows are in order are at or below the target.
  ordered_flows : (target : ℕ) (written : Span) (gs : List Guard) → Ordered (flows target written gs) →
      GuardsBelow (classes target) gs
  ordered_flows target written gs h = each_unmap _ (flow target written) gs h

  -- The endings of loops are in order if the reads are at the bottom.
  endings_ordered : (P : Profile) (b : Bool) (rs : List Read) → (active P b ≡ true → ReadsBelow L.bottom rs) →
      Ordered (endings P b rs)
  endings_ordered Base b rs h = tt
  endings_ordered Strict false rs h = tt
  endings_ordered Strict true rs h =
      each_map _ ending rs
      (each_weaker _ _ (λ r b. subst (Below L (classes r.variable)) (sym at_sink) b) rs (h refl))

  -- The reads are at the bottom if the endings of loops are in order.
  ordered_endings : (P : Profile) (b : Bool) (rs : List Read) → Ordered (endings P b rs) → active P b ≡ true →
      ReadsBelow L.bottom rs
  ordered_endings Base b rs h e = absurd (false≢true e)
  ordered_endings Strict false rs h e = absurd (false≢true e)
  ordered_endings Strict true rs h e =
      each_weaker _ _ (λ r b. subst (Below L (classes r.variable)) at_sink b) rs
      (each_unmap _ ending rs h)

  -- The scope with one more location.
  same_more : (q : Locations) (scope : List ℕ) (n : ℕ) → q ≡ map classes scope →
      q ++ classes n ∷ [] ≡ map classes (scope ++ n ∷ [])
  same_more q scope n same = ap (λ x. x ++ classes n ∷ []) same ∙ sym (map-append classes scope (n ∷ []))

  -- The type of a command is a class of the lattice.
  cmd_class : (P : Profile) (q : Locations) (scope : List ℕ) → q ≡ map classes scope →
      (n : ℕ) (c : Command) (t : ℕ) → HasCmd L P classes q n c t → IsClass L t
  cmd_class P q scope same n c t (EMPTY w) = w
  cmd_class P q scope same n c t (ASSIGN {e = e} v d) = data_class q scope same e t d
  cmd_class P q scope same n c t (COMPOSE {a = a} d d') = cmd_class P q scope same n a t d
  cmd_class P q scope same n c t (IF {e = e} d da db) = data_class q scope same e t d
  cmd_class P q scope same n c t (WHILE {e = e} is d dc) = data_class q scope same e t d
  cmd_class P q scope same n c t (LETVAR {c = c'} d dc) =
      cmd_class P _ (scope ++ n ∷ []) (same_more q scope n same) (n + 1) c' t dc
  cmd_class P q scope same n c t (SUBTYPE_CMD le w d) = w

  -- Under the strict profile a command with a loop has only the bottom type.
  loop_bottom : (q : Locations) (scope : List ℕ) → q ≡ map classes scope → (n : ℕ) (c : Command) (t : ℕ) →
      HasCmd L Strict classes q n c t → has_loop c ≡ true → Below L t L.bottom
  loop_bottom q scope same n c t (EMPTY w) e = absurd (false≢true e)
  loop_bottom q scope same n c t (ASSIGN v d) e = absurd (false≢true e)
  loop_bottom q scope same n c t (COMPOSE {a = a} {b = b} d d') e =
      ⊎_elim (loop_bottom q scope same n a t d) (loop_bottom q scope same (n + letvars a) b t d')
      (or_cases (has_loop a) (has_loop b) e)
  loop_bottom q scope same n c t (IF {a = a} {b = b} dg d d') e =
      ⊎_elim (loop_bottom q scope same n a t d) (loop_bottom q scope same (n + letvars a) b t d')
      (or_cases (has_loop a) (has_loop b) e)
  loop_bottom q scope same n c t (WHILE is d dc) e =
      subst (λ x. Below L x L.bottom) (sym is) (laws.reflexive L.bottom laws.bottom_within)
  loop_bottom q scope same n c t (LETVAR {c = c'} d dc) e =
      loop_bottom _ (scope ++ n ∷ []) (same_more q scope n same) (n + 1) c' t dc e
  loop_bottom q scope same n c t (SUBTYPE_CMD {t' = t'} le w d) e =
      laws.transitive t t' L.bottom w (cmd_class Strict q scope same n c t' d) laws.bottom_within le
      (loop_bottom q scope same n c t' d e)

  -- If loops count, a command with one has a type at the bottom.
  active_bottom : (P : Profile) (q : Locations) (scope : List ℕ) → q ≡ map classes scope →
      (n : ℕ) (c : Command) (t : ℕ) → HasCmd L P classes q n c t → active P (has_loop c) ≡ true → Below L t L.bottom
  active_bottom Base q scope same n c t d e = absurd (false≢true e)
  active_bottom Strict q scope same n c t d e = loop_bottom q scope same n c t d e

  -- The reads of an expression with a type at the bottom are at the bottom.
  reads_bottom : (q : Locations) (scope : List ℕ) → q ≡ map classes scope → (e : Expression) (t : ℕ) → HasData L q e t →
      Below L t L.bottom → ReadsBelow L.bottom (reads scope e)
  reads_bottom q scope same e t d le =
      each_weaker _ _ (λ r h. laws.transitive (classes r.variable) t L.bottom (within _)
      (data_class q scope same e t d) laws.bottom_within h le) (reads scope e) (data_reads q scope same e t d)

  -- The steps of a command of type t, under guards at or below t, are in order.
  pub typed_ordered : (P : Profile) (q : Locations) (scope : List ℕ) → q ≡ map classes scope →
      (n : ℕ) (c : Command) (t : ℕ) → HasCmd L P classes q n c t → (gs : List Guard) → GuardsBelow t gs →
      Ordered (steps P names gs scope n c)
  typed_ordered P q scope same n c t (EMPTY w) gs h = tt
  typed_ordered P q scope same n c t (ASSIGN {l = l} {s = s} {e = e} v d) gs h =
      let k = (var_class q scope same l t v).1 in
      flows_ordered (slice_index scope l) s (guarded typing.Assign (reads scope e) ++ gs)
      (subst (λ x. GuardsBelow x (guarded typing.Assign (reads scope e) ++ gs)) k
      (each_append _ (guarded typing.Assign (reads scope e)) gs
      (guarded_below typing.Assign t (reads scope e) (data_reads q scope same e t d)) h))
  typed_ordered P q scope same n c t (COMPOSE {a = a} {b = b} d d') gs h =
      each_append _ (steps P names gs scope n a) _ (typed_ordered P q scope same n a t d gs h)
      (typed_ordered P q scope same (n + letvars a) b t d' gs h)
  typed_ordered P q scope same n c t (IF {e = e} {a = a} {b = b} dg d d') gs h =
      let more = each_append _ gs (guarded typing.If (reads scope e)) h
      (guarded_below typing.If t (reads scope e) (data_reads q scope same e t dg)) in
      let gs' = gs ++ guarded typing.If (reads scope e) in
      each_append _ (endings P (has_loop a || has_loop b) (reads scope e)) _
      (endings_ordered P (has_loop a || has_loop b) (reads scope e)
      (λ on. reads_bottom q scope same e t dg (active_bottom P q scope same n (If e a b) t (IF dg d d') on)))
      (each_append _ (steps P names gs' scope n a) _ (typed_ordered P q scope same n a t d gs' more)
      (typed_ordered P q scope same (n + letvars a) b t d' gs' more))
  typed_ordered P q scope same n c t (WHILE {e = e} {c = c'} is dg d) gs h =
      let more = each_append _ gs (guarded typing.While (reads scope e)) h
      (guarded_below typing.While t (reads scope e) (data_reads q scope same e t dg)) in
      each_append _ (endings P true (reads scope e)) _
      (endings_ordered P true (reads scope e)
      (λ on. reads_bottom q scope same e t dg (active_bottom P q scope same n (While e c') t (WHILE is dg d) on)))
      (typed_ordered P q scope same n c' t d (gs ++ guarded typing.While (reads scope e)) more)
  typed_ordered P q scope same n c t (LETVAR {e = e} {c = c'} d dc) gs h =
      each_append _ (flows n (names n) (guarded typing.Letvar (reads scope e))) _
      (flows_ordered n (names n) (guarded typing.Letvar (reads scope e))
      (guarded_below typing.Letvar (classes n) (reads scope e) (data_reads q scope same e (classes n) d)))
      (typed_ordered P _ (scope ++ n ∷ []) (same_more q scope n same) (n + 1) c' t dc gs h)
  typed_ordered P q scope same n c t (SUBTYPE_CMD {t' = t'} le w d) gs h =
      typed_ordered P q scope same n c t' d gs (guards_up t t' w (cmd_class P q scope same n c t' d) le gs h)

  -- The join of the classes of guards.
  pub joined : List Guard → ℕ
  joined gs = join_of L laws (λ g. classes g.read.variable) (λ g. within _) gs

  -- The join of guards is a class of the lattice.
  joined_within : (gs : List Guard) → IsClass L (joined gs)
  unfolding joined
  joined_within gs = join_of_within L laws (λ g. classes g.read.variable) (λ g. within _) gs

  -- Guards are at or below their join.
  joined_above : (gs : List Guard) → GuardsBelow (joined gs) gs
  unfolding joined
  joined_above gs = join_of_above L laws (λ g. classes g.read.variable) (λ g. within _) gs

  -- The join of guards is at or below every class above them.
  joined_least : (t : ℕ) → IsClass L t → (gs : List Guard) → GuardsBelow t gs → Below L (joined gs) t
  unfolding joined
  joined_least t k gs h = join_of_least L laws (λ g. classes g.read.variable) (λ g. within _) t k gs h

  -- Loops that count in the first part count in the whole.
  active_left : (P : Profile) (a b : Bool) → active P a ≡ true → active P (a || b) ≡ true
  active_left Base a b e = e
  active_left Strict true b e = refl
  active_left Strict false b e = absurd (false≢true e)

  -- Loops that count in the second part count in the whole.
  active_right : (P : Profile) (a b : Bool) → active P b ≡ true → active P (a || b) ≡ true
  active_right Base a b e = e
  active_right Strict true b e = refl
  active_right Strict false b e = e

  module _ (scope : List ℕ) (gs : List Guard) (rule : Rule) (e : Expression) (has : HasLocations (length scope) e) where
    -- The guards inside.
    abbrev inside : List Guard
    inside = gs ++ guarded rule (reads scope e)

    -- A guard has the join of the guards inside it as its type.
    guard_typed : HasData L (map classes scope) e (joined inside)
    guard_typed =
        reads_data scope e (joined inside) (joined_within inside) has
        (below_guarded rule (joined inside) (reads scope e)
        (each_back _ gs (guarded rule (reads scope e)) (joined_above inside)))

    -- The join of the guards outside is at or below that inside.
    outside_below : Below L (joined gs) (joined inside)
    outside_below = joined_least (joined inside) (joined_within inside) gs
        (each_front _ gs (guarded rule (reads scope e)) (joined_above inside))

  -- A loop whose body is typed at the join inside is typed at the join outside.
  loop_typed : (P : Profile) (scope : List ℕ) (n : ℕ) (e : Expression) (c : Command) (gs : List Guard) →
      HasLocations (length scope) e → (active P true ≡ true → GuardsBelow L.bottom gs) →
      Ordered (endings P true (reads scope e)) →
      HasCmd L P classes (map classes scope) n c (joined (gs ++ guarded typing.While (reads scope e))) →
      HasCmd L P classes (map classes scope) n (While e c) (joined gs)
  loop_typed Base scope n e c gs has low ends d =
      SUBTYPE_CMD (outside_below scope gs typing.While e has) (joined_within gs)
      (WHILE tt (guard_typed scope gs typing.While e has) d)
  loop_typed Strict scope n e c gs has low ends d =
      let rs = ordered_endings Strict true (reads scope e) ends refl in
      let t = joined (gs ++ guarded typing.While (reads scope e)) in
      SUBTYPE_CMD (joined_least L.bottom laws.bottom_within gs (low refl)) (joined_within gs)
      (WHILE refl (reads_data scope e L.bottom laws.bottom_within has rs)
      (SUBTYPE_CMD (laws.bottom_least t (joined_within (gs ++ guarded typing.While (reads scope e))))
      laws.bottom_within d))

  -- A command whose steps are in order is typed at the join of its guards.
  pub ordered_typed : (P : Profile) (scope : List ℕ) (n : ℕ) (c : Command) (gs : List Guard) →
      HasPlaces (length scope) c → (active P (has_loop c) ≡ true → GuardsBelow L.bottom gs) →
      Ordered (steps P names gs scope n c) → HasCmd L P classes (map classes scope) n c (joined gs)
  ordered_typed P scope n Skip gs has low h = EMPTY (joined_within gs)
  ordered_typed P scope n (Assign l s e) gs has low h =
      let b = ordered_flows (slice_index scope l) s (guarded typing.Assign (reads scope e) ++ gs) h in
      let lt : l < length (map classes scope) = subst (λ n. l < n) (sym (length-map scope classes)) has.0 in
      let k = located scope l has.0 in
      let d = reads_data scope e (classes (slice_index scope l)) (within _) has.1
      (below_guarded typing.Assign _ (reads scope e) (each_front _ (guarded typing.Assign (reads scope e)) gs b)) in
      SUBTYPE_CMD (subst (Below L (joined gs)) (sym k)
      (joined_least _ (within _) gs (each_back _ (guarded typing.Assign (reads scope e)) gs b))) (joined_within gs)
      (ASSIGN (VARLOC lt) (subst (HasData L (map classes scope) e) (sym k) d))
  ordered_typed P scope n (Sequence a b) gs has low h =
      COMPOSE
      (ordered_typed P scope n a gs has.0 (λ on. low (active_left P (has_loop a) (has_loop b) on))
      (each_front _ (steps P names gs scope n a) _ h))
      (ordered_typed P scope (n + letvars a) b gs has.1 (λ on. low (active_right P (has_loop a) (has_loop b) on))
      (each_back _ (steps P names gs scope n a) _ h))
  ordered_typed P scope n (If e a b) gs has low h =
      let gs' = gs ++ guarded typing.If (reads scope e) in
      let ends = each_front _ (endings P (has_loop a || has_loop b) (reads scope e)) _ h in
      let parts = each_back _ (endings P (has_loop a || has_loop b) (reads scope e)) _ h in
      let low' : active P (has_loop a || has_loop b) ≡ true →
      GuardsBelow L.bottom gs' = λ on. each_append _ gs (guarded typing.If (reads scope e)) (low on)
      (guarded_below typing.If L.bottom (reads scope e)
      (ordered_endings P (has_loop a || has_loop b) (reads scope e) ends on)) in
      SUBTYPE_CMD (outside_below scope gs typing.If e has.0) (joined_within gs)
      (IF (guard_typed scope gs typing.If e has.0)
      (ordered_typed P scope n a gs' has.1 (λ on. low' (active_left P (has_loop a) (has_loop b) on))
      (each_front _ (steps P names gs' scope n a) _ parts))
      (ordered_typed P scope (n + letvars a) b gs' has.2 (λ on. low' (active_right P (has_loop a) (has_loop b) on))
      (each_back _ (steps P names gs' scope n a) _ parts)))
  ordered_typed P scope n (While e c) gs has low h =
      let gs' = gs ++ guarded typing.While (reads scope e) in
      let ends = each_front _ (endings P true (reads scope e)) _ h in
      let low' : active P true ≡ true → GuardsBelow L.bottom gs' =
      λ on. each_append _ gs (guarded typing.While (reads scope e)) (low on)
      (guarded_below typing.While L.bottom (reads scope e) (ordered_endings P true (reads scope e) ends on)) in
      loop_typed P scope n e c gs has.0 low ends
      (ordered_typed P scope n c gs' has.1 (λ on. low' (active_any P (has_loop c) on))
      (each_back _ (endings P true (reads scope e)) _ h))
  ordered_typed P scope n (Letvar e c) gs has low h =
      let b = ordered_flows n (names n) (guarded typing.Letvar (reads scope e))
      (each_front _ (flows n (names n) (guarded typing.Letvar (reads scope e))) _ h) in
      let d = reads_data scope e (classes n) (within n) has.0
      (below_guarded typing.Letvar (classes n) (reads scope e) b) in
      let has' = subst (λ k. HasPlaces k c) (sym (length_push scope n)) has.1 in
      let rest = ordered_typed P (scope ++ n ∷ []) (n + 1) c gs has' low
      (each_back _ (flows n (names n) (guarded typing.Letvar (reads scope e))) _ h) in
      LETVAR d (subst (λ q. HasCmd L P classes q (n + 1) c (joined gs))
      (sym (same_more (map classes scope) scope n refl)) rest)
