-- Paths and bad walks, and when a step is one of a list.
use Rattle.std.proofs.Common.{◌≡◌, ℕ, zero, suc, ◌+◌, ◌<◌, ◌==◌, ◌&&◌, ◌||◌, Bool, true, false, not, List, [], ◌∷◌, ◌++◌, take, length, get_or, slice_get, Some, None, refl, sym, ap, ◌∙◌, subst, arith, inl, inr, eq-eqb}
use Rattle.std.specs.Prelude.{slice_index}
use Rattle.std.specs.List.{All, Contains, list_any, insert}
use Rattle.std.proofs.lemmas.List.{take_more}
use Rattle.std.proofs.lemmas.List.Folds.{list_any_at, list_any-append}
use Rattle.std.proofs.lemmas.List.Elements.{All-nil, All-cons, All-head, All-tail}
use Rattle.std.proofs.Math.Bool.{or-false, or_assoc}
use Rattle.std.proofs.lemmas.Bool.{and_parts, or_cases, and_from, false≢true}
use Rattle.std.proofs.lemmas.Bool.Decides.{nat_tests}
use Rattle.vsi_lattice.specs.Order.{Lattice, Below}
use Rattle.vsi_syntax.specs.declared.token.Span.{Span}
use Rattle.vsi_scope.specs.Language.{Expression, Number, Location, Operator, Command, Skip, Assign, Sequence, If, While, Letvar, letvars, has_loop}
use Rattle.vsi_types.specs.declared.rules.Profile.{Profile}
use Rattle.vsi_types.specs.declared.rules.Profile.TheVariants.{Base, Strict}
use Rattle.vsi_types.specs.declared.rules.Rule.{Rule}
use Rattle.vsi_types.specs.declared.rules.Rule.TheVariants as typing
use Rattle.vsi_types.specs.declared.rules.Read.{Read}
use Rattle.vsi_types.specs.declared.rules.Guard.{Guard}
use Rattle.vsi_types.specs.declared.rules.Step.{Step}
use Rattle.vsi_types.specs.Steps.{reads, guarded, flows, endings, steps, sink}
use Rattle.vsi_types.specs.Security.{Program, steps_of}
use Rattle.vsi_types.specs.Walks.{IsChain, last_target, IsBad, declared_class}
use Rattle.vsi_infer.specs.Leading.{observes_ending}
use Rattle.vsi_infer.specs.StepsBetween.{same_rule}
use Rattle.vsi_infer.specs.Membership.{same_span, read_is, written_is, same_step, reads_pass, ends_pass, passes}
use Rattle.vsi_infer.specs.Paths.{IsPath}

-- Inserting at position 0 puts a step before all others.
pub insert_first : (xs : List Step) (s : Step) → insert xs 0 s ≡ s ∷ xs
insert_first xs s = refl

module _ (ss : List Step) where
  -- A path extended by a step is a path.
  pub path_push : (a b : ℕ) (xs : List Step) (s : Step) → IsPath ss a xs b → s.source ≡ b → Contains ss s
      → IsPath ss a (xs ++ s ∷ []) s.target
  path_push a b [] s p e c = (e ∙ sym p, c, refl)
  path_push a b (x ∷ xs) s p e c = (p.0, p.1, path_push x.target b xs s p.2 e c)

  -- The steps before one of a path are a path to its source, and the step is in the list.
  pub path_at : (a b : ℕ) (xs : List Step) (i : ℕ) (s : Step) → i < length xs → s ≡ get_or xs i s → IsPath ss a xs b
      → (m : ℕ) × IsPath ss a (take i xs) m × (s.source ≡ m) × Contains ss s
  path_at a b [] i s lt is p = absurd (omega arith)
  path_at a b (x ∷ xs) zero s lt is p = (
    a,
    refl,
    ap (λ (y : Step). y.source) is
        ∙ p.0,
    subst (Contains ss) (sym is) p.1,
  )
  path_at a b (x ∷ xs) (suc i) s lt is p =
      let r = path_at x.target b xs i s (omega (arith, lt)) is p.2 in
      (r.0, (p.0, p.1, r.1), r.2, r.3)

  -- A path has one end.
  pub path_end : (a b d : ℕ) (xs : List Step) → IsPath ss a xs b → IsPath ss a xs d → b ≡ d
  path_end a b d [] p q = sym p ∙ q
  path_end a b d (x ∷ xs) p q = path_end x.target b d xs p.2 q.2

  -- One more step extends a path.
  pub path_more : (a b : ℕ) (xs : List Step) (i : ℕ) (s : Step) → i < length xs → s ≡ get_or xs i s
      → IsPath ss a (take i xs) b → s.source ≡ b → Contains ss s → IsPath ss a (take (i + 1) xs) s.target
  path_more a b xs i s lt is p e c =
      subst (λ l. IsPath ss a l s.target) (ap (λ y. take i xs ++ y ∷ []) is ∙ sym (take_more xs i s lt))
      (path_push a b (take i xs) s p e c)

  -- If the next step starts elsewhere or isn't in the list, there is no path.
  pub path_turns : (a b m : ℕ) (xs : List Step) (i : ℕ) (s : Step) → i < length xs → s ≡ get_or xs i s
      → IsPath ss a (take i xs) m → (s.source ≡ m → Contains ss s → ⊥) → IsPath ss a xs b → ⊥
  path_turns a b m xs i s lt is p never q =
      let r = path_at a b xs i s lt is q in
      never (r.2 ∙ path_end a r.0 m (take i xs) r.1 p) r.3

  -- A path is a chain of steps of the list.
  pub path_steps : (a b : ℕ) (xs : List Step) → IsPath ss a xs b → All (Contains ss) xs
  path_steps a b [] p = All-nil (Contains ss)
  path_steps a b (x ∷ xs) p = All-cons (Contains ss) x xs p.1 (path_steps x.target b xs p.2)

  -- A path is a chain of steps to its end.
  pub path_chain : (a b : ℕ) (s : Step) (rest : List Step) → IsPath ss a (s ∷ rest) b → IsChain s rest
      × (last_target s rest ≡ b)
  path_chain a b s [] p = (tt, p.2)
  path_chain a b s (t ∷ rest) p =
      let r = path_chain s.target b t rest p.2 in
      ((sym p.2.0, r.0), r.1)

  -- A chain of the program's steps is a path.
  pub chain_path : (s : Step) (rest : List Step) → All (Contains ss) (s ∷ rest) → IsChain s rest
      → IsPath ss s.source (s ∷ rest) (last_target s rest)
  chain_path s [] all c = (refl, All-head (Contains ss) s [] all, refl)
  chain_path s (t ∷ rest) all c =
      let r = chain_path t rest (All-tail (Contains ss) s (t ∷ rest) all) c.1 in
      (refl, All-head (Contains ss) s (t ∷ rest) all, (sym c.0, r.1, r.2))

-- A path between declared variables is a bad walk if their classes are not in order.
pub path_bad : (L : Lattice) (P : Profile) (p : Program) (s : Step) (rest : List Step) (b low high : ℕ)
    → IsPath (steps_of P p) s.source (s ∷ rest) b
    → declared_class L p s.source ≡ Some low → declared_class L p b ≡ Some high → (Below L low high → ⊥)
    → IsBad L P p (s ∷ rest)
path_bad L P p s rest b low high w l h down =
    let c = path_chain (steps_of P p) s.source b s rest w in
    record {
      steps = path_steps (steps_of P p) s.source b (s ∷ rest) w;
      chain = c.0;
      low = low;
      high = high;
      source = l;
      target = ap (declared_class L p) c.1 ∙ h;
      down = down;
    }

-- The same for a list of steps whose first one is known.
pub bad_steps : (L : Lattice) (P : Profile) (p : Program) (xs : List Step) (s : Step) (b low high : ℕ)
    → slice_get xs 0 ≡ Some s → IsPath (steps_of P p) s.source xs b
    → declared_class L p s.source ≡ Some low → declared_class L p b ≡ Some high → (Below L low high → ⊥)
    → IsBad L P p xs
bad_steps L P p [] s b low high e w l h down = absurd (subst (λ o. elim o as (λ _. Type 0)
    [ None ↦ Unit {0} | Some z ↦ ⊥ ]) e tt)
bad_steps L P p (x ∷ xs) s b low high e w l h down =
    let q : x ≡ s = ap (λ o. elim o as (λ _. Step) [ None ↦ x | Some y ↦ y ]) e in
    path_bad L P p x xs b low high (subst (λ (y : Step). IsPath (steps_of P p) y.source (x ∷ xs) b) (sym q) w)
    (subst (λ (y : Step). declared_class L p y.source ≡ Some low) (sym q) l) h down

-- A bad walk is a path between declared variables whose classes are not in order.
pub record Bad (L : Lattice) (P : Profile) (p : Program) (xs : List Step) (s : Step) : Type 0 where
  pub end : ℕ
  pub low : ℕ
  pub high : ℕ
  pub path : IsPath (steps_of P p) s.source xs end
  pub source : declared_class L p s.source ≡ Some low
  pub target : declared_class L p end ≡ Some high
  pub down : Below L low high → ⊥

-- A bad walk, described from its first step.
pub bad_parts : (L : Lattice) (P : Profile) (p : Program) (xs : List Step) (s : Step) → slice_get xs 0 ≡ Some s
    → IsBad L P p xs → Bad L P p xs s
bad_parts L P p [] s e bad = absurd bad
bad_parts L P p (x ∷ xs) s e bad =
    let q : x ≡ s = ap (λ o. elim o as (λ _. Step) [ None ↦ x | Some y ↦ y ]) e in
    subst (Bad L P p (x ∷ xs)) q (record {
      end = last_target x xs;
      low = bad.low;
      high = bad.high;
      path = chain_path (steps_of P p) x xs bad.steps bad.chain;
      source = bad.source;
      target = bad.target;
      down = bad.down;
    })

-- Rules that compare as equal are equal.
rule_is : (r q : Rule) → same_rule r q ≡ true → r ≡ q
rule_is typing.Assign typing.Assign e = refl
rule_is typing.If typing.If e = refl
rule_is typing.While typing.While e = refl
rule_is typing.Letvar typing.Letvar e = refl
rule_is typing.Loop typing.Loop e = refl
rule_is typing.Assign typing.If e = absurd (false≢true e)
rule_is typing.Assign typing.While e = absurd (false≢true e)
rule_is typing.Assign typing.Letvar e = absurd (false≢true e)
rule_is typing.Assign typing.Loop e = absurd (false≢true e)
rule_is typing.If typing.Assign e = absurd (false≢true e)
rule_is typing.If typing.While e = absurd (false≢true e)
rule_is typing.If typing.Letvar e = absurd (false≢true e)
rule_is typing.If typing.Loop e = absurd (false≢true e)
rule_is typing.While typing.Assign e = absurd (false≢true e)
rule_is typing.While typing.If e = absurd (false≢true e)
rule_is typing.While typing.Letvar e = absurd (false≢true e)
rule_is typing.While typing.Loop e = absurd (false≢true e)
rule_is typing.Letvar typing.Assign e = absurd (false≢true e)
rule_is typing.Letvar typing.If e = absurd (false≢true e)
rule_is typing.Letvar typing.While e = absurd (false≢true e)
rule_is typing.Letvar typing.Loop e = absurd (false≢true e)
rule_is typing.Loop typing.Assign e = absurd (false≢true e)
rule_is typing.Loop typing.If e = absurd (false≢true e)
rule_is typing.Loop typing.While e = absurd (false≢true e)
rule_is typing.Loop typing.Letvar e = absurd (false≢true e)

-- A rule equals itself.
rule_self : (r : Rule) → same_rule r r ≡ true
rule_self typing.Assign = refl
rule_self typing.If = refl
rule_self typing.While = refl
rule_self typing.Letvar = refl
rule_self typing.Loop = refl

-- Numbers that compare as equal are equal.
pub equal : (a b : ℕ) → (a == b) ≡ true → a ≡ b
equal a b t = grind (arith, nat_tests)

-- If the test for a difference fails, the numbers are equal.
pub same_from : (a b : ℕ) → false ≡ not (a == b) → a ≡ b
same_from a b t = grind (arith, nat_tests)

-- If the test for a difference holds, the numbers differ.
pub differ_from : (a b : ℕ) → true ≡ not (a == b) → a ≡ b → ⊥
differ_from a b t e = false≢true (sym (t ∙ ap not (eq-eqb a b e)))

-- If the negation of a test holds, an equal test doesn't.
pub not_true : (a b : Bool) → a ≡ b → not a ≡ true → b ≡ true → ⊥
not_true true b e n t = false≢true n
not_true false b e n t = false≢true (e ∙ t)

-- If a test can't hold, the negation of an equal test does.
pub true_not : (a b : Bool) → a ≡ b → (b ≡ true → ⊥) → not a ≡ true
true_not true b e n = absurd (n (sym e))
true_not false b e n = refl

-- Spans that compare as equal are equal.
span_is : (s t : Span) → same_span s t ≡ true → s ≡ t
span_is s t e =
    let q = and_parts (s.start == t.start) (s.stop == t.stop) e in
    let a = equal s.start t.start q.0 in
    let b = equal s.stop t.stop q.1 in
    ap (λ x. record { start = x; stop = s.stop }) a ∙ ap (λ x. record { start = t.start; stop = x }) b

-- A span equals itself.
span_self : (s : Span) → same_span s s ≡ true
span_self s = and_from (s.start == s.start) (s.stop == s.stop) (eq-eqb s.start s.start refl)
    (eq-eqb s.stop s.stop refl)

-- Steps that compare as equal are equal.
step_is : (x s : Step) → same_step x s ≡ true → s ≡ x
step_is x s e =
    let q = and_parts (read_is x s.rule s.source s.read) (written_is x s.target s.written) e in
    let r = and_parts (same_rule s.rule x.rule) ((s.source == x.source) && same_span s.read x.read) q.0 in
    let v = and_parts (s.source == x.source) (same_span s.read x.read) r.1 in
    let w = and_parts (s.target == x.target) (same_span s.written x.written) q.1 in
    let a = rule_is s.rule x.rule r.0 in
    let b = equal s.source x.source v.0 in
    let c = span_is s.read x.read v.1 in
    let d = equal s.target x.target w.0 in
    let f = span_is s.written x.written w.1 in
    ap (λ y. record { rule = y; source = s.source; target = s.target; read = s.read; written = s.written }) a
    ∙ ap (λ y. record { rule = x.rule; source = y; target = s.target; read = s.read; written = s.written }) b
    ∙ ap (λ y. record { rule = x.rule; source = x.source; target = y; read = s.read; written = s.written }) d
    ∙ ap (λ y. record { rule = x.rule; source = x.source; target = x.target; read = y; written = s.written }) c
    ∙ ap (λ y. record { rule = x.rule; source = x.source; target = x.target; read = x.read; written = y }) f

-- A step equals itself.
step_self : (x : Step) → same_step x x ≡ true
step_self x =
    and_from (read_is x x.rule x.source x.read) (written_is x x.target x.written)
    (and_from (same_rule x.rule x.rule) ((x.source == x.source) && same_span x.read x.read) (rule_self x.rule)
    (and_from (x.source == x.source) (same_span x.read x.read) (eq-eqb x.source x.source refl) (span_self x.read)))
    (and_from (x.target == x.target) (same_span x.written x.written) (eq-eqb x.target x.target refl)
    (span_self x.written))

-- A step is in a list if it equals a step of the list.
pub same_there : (x : Step) (ss : List Step) → list_any (same_step x) ss ≡ true → Contains ss x
same_there x [] e = absurd (false≢true e)
same_there x (s ∷ ss) e = elim (or_cases (same_step x s) (list_any (same_step x) ss) e) [
  | inl t ↦ (0, omega arith, step_is x s t)
  | inr t ↦ (let r = same_there x ss t in (suc r.0, omega (arith, r.1), r.2))
]

-- A step of a list is found in it.
pub there_same : (x : Step) (ss : List Step) → Contains ss x → list_any (same_step x) ss ≡ true
there_same x ss c = list_any_at (same_step x) ss c.0 x c.1 (subst (λ y. same_step x y ≡ true) (sym c.2) (step_self x))

module _ (x : Step) where
  -- Some guard reads what the step reads.
  abbrev pub guards_pass : List Guard → Bool
  guards_pass gs = list_any (λ g. read_is x g.rule g.read.variable g.read.place) gs

  -- The guards of an expression pass a step if the expression does.
  reads_as : (rule : Rule) (scope : List ℕ) (e : Expression) → guards_pass
      (guarded rule (reads scope e)) ≡ reads_pass x rule scope e
  reads_as rule scope (Number z) = refl
  reads_as rule scope (Location l s) = or-false (read_is x rule (slice_index scope l) s)
  reads_as rule scope (Operator o a b) =
      more rule (reads scope a) (reads scope b) ∙ ap (λ t. t || guards_pass (guarded rule (reads scope b)))
      (reads_as rule scope a)
      ∙ ap (λ t. reads_pass x rule scope a || t) (reads_as rule scope b)
    where
      more : (rule : Rule) (rs qs : List Read) → guards_pass (guarded rule (rs ++ qs)) ≡
          (guards_pass (guarded rule rs) || guards_pass (guarded rule qs))
      more rule [] qs = refl
      more rule (r ∷ rs) qs = ap (λ t. read_is x rule r.variable r.place || t) (more rule rs qs)
          ∙ sym (or_assoc (read_is x rule r.variable r.place) (guards_pass (guarded rule rs))
          (guards_pass (guarded rule qs)))

  -- The endings of a loop pass a step if its guard does.
  ends_as : (scope : List ℕ) (e : Expression) → list_any (same_step x)
      (endings Strict true (reads scope e)) ≡ ends_pass x scope e
  ends_as scope (Number z) = refl
  ends_as scope (Location l s) = or-false (read_is x typing.Loop (slice_index scope l) s && written_is x sink s)
  ends_as scope (Operator o a b) = more (reads scope a) (reads scope b)
      ∙ ap (λ t. t || list_any (same_step x) (endings Strict true (reads scope b))) (ends_as scope a)
      ∙ ap (λ t. ends_pass x scope a || t) (ends_as scope b)
    where
      more : (rs qs : List Read) → list_any (same_step x) (endings Strict true (rs ++ qs)) ≡
          (list_any (same_step x) (endings Strict true rs) || list_any (same_step x) (endings Strict true qs))
      more [] qs = refl
      more (r ∷ rs) qs = ap (λ t. (read_is x typing.Loop r.variable r.place && written_is x sink r.place) || t)
          (more rs qs) ∙ sym (or_assoc (read_is x typing.Loop r.variable r.place && written_is x sink r.place)
          (list_any (same_step x) (endings Strict true rs)) (list_any (same_step x) (endings Strict true qs)))

  -- A true second fact changes nothing.
  and_true : (t : Bool) → t ≡ (t && true)
  and_true true = refl
  and_true false = refl

  -- With a false second fact nothing holds.
  and_false : (t : Bool) → false ≡ (t && false)
  and_false true = refl
  and_false false = refl

  -- The endings pass a step if the profile observes them.
  endings_as : (P : Profile) (looping : Bool) (scope : List ℕ) (e : Expression)
      → list_any (same_step x) (endings P looping (reads scope e)) ≡ (ends_pass x scope e && observes_ending P looping)
  endings_as Base looping scope e = and_false (ends_pass x scope e)
  endings_as Strict false scope e = and_false (ends_pass x scope e)
  endings_as Strict true scope e = ends_as scope e ∙ and_true (ends_pass x scope e)

  -- The flows to a target pass a step that the guards pass and that is written there.
  flows_as : (target : ℕ) (written : Span) (gs : List Guard) → list_any (same_step x) (flows target written gs) ≡
      (guards_pass gs && written_is x target written)
  flows_as target written [] = refl
  flows_as target written (g ∷ gs) = ap (λ t. (read_is x g.rule g.read.variable g.read.place
      && written_is x target written) || t) (flows_as target written gs)
      ∙ distribute (read_is x g.rule g.read.variable g.read.place) (guards_pass gs) (written_is x target written)
    where
      distribute : (x y b : Bool) → ((x && b) || (y && b)) ≡ ((x || y) && b)
      distribute true y true = refl
      distribute true true false = refl
      distribute true false false = refl
      distribute false y b = refl

  -- A step of two joined lists is in one of them.
  any_append : (xs ys : List Step) → list_any (same_step x) (xs ++ ys) ≡
      (list_any (same_step x) xs || list_any (same_step x) ys)
  any_append xs ys = list_any-append (same_step x) xs ys

  -- A guard of two joined lists is in one of them.
  guards_append : (gs hs : List Guard) → guards_pass (gs ++ hs) ≡ (guards_pass gs || guards_pass hs)
  guards_append gs hs = list_any-append (λ (g : Guard). read_is x g.rule g.read.variable g.read.place) gs hs

  -- The walk over the commands decides whether a step is one of theirs.
  pub steps_pass : (P : Profile) (names : ℕ → Span) (gs : List Guard) (scope : List ℕ) (n : ℕ) (c : Command)
      → list_any (same_step x) (steps P names gs scope n c) ≡ passes x P names (guards_pass gs) scope n c
  steps_pass P names gs scope n Skip = refl
  steps_pass P names gs scope n (Assign l s e) =
      flows_as (slice_index scope l) s (guarded typing.Assign (reads scope e) ++ gs)
      ∙ ap (λ t. t && written_is x (slice_index scope l) s) (guards_append (guarded typing.Assign (reads scope e)) gs
      ∙ ap (λ t. t || guards_pass gs) (reads_as typing.Assign scope e))
  steps_pass P names gs scope n (Sequence c d) =
      any_append (steps P names gs scope n c) (steps P names gs scope (n + letvars c) d)
      ∙ ap (λ t. t || list_any (same_step x) (steps P names gs scope (n + letvars c) d))
      (steps_pass P names gs scope n c)
      ∙ ap (λ t. passes x P names (guards_pass gs) scope n c || t) (steps_pass P names gs scope (n + letvars c) d)
  steps_pass P names gs scope n (If e c d) =
      let around = guards_append gs (guarded typing.If (reads scope e))
      ∙ ap (λ t. guards_pass gs || t) (reads_as typing.If scope e) in
      any_append (endings P (has_loop c || has_loop d) (reads scope e)) _
      ∙ ap (λ t. t || list_any (same_step x) (steps P names (gs ++ guarded typing.If (reads scope e)) scope n c
      ++ steps P names (gs ++ guarded typing.If (reads scope e)) scope (n + letvars c) d))
      (endings_as P (has_loop c || has_loop d) scope e)
      ∙ ap (λ t. (ends_pass x scope e && observes_ending P (has_loop c || has_loop d)) || t)
      (any_append (steps P names (gs ++ guarded typing.If (reads scope e)) scope n c)
      (steps P names (gs ++ guarded typing.If (reads scope e)) scope (n + letvars c) d)
      ∙ ap (λ t. t || list_any (same_step x) (steps P names (gs ++ guarded typing.If (reads scope e)) scope
      (n + letvars c) d)) (steps_pass P names (gs ++ guarded typing.If (reads scope e)) scope n c
      ∙ ap (λ t. passes x P names t scope n c) around)
      ∙ ap (λ t. passes x P names (guards_pass gs || reads_pass x typing.If scope e) scope n c || t)
      (steps_pass P names (gs ++ guarded typing.If (reads scope e)) scope (n + letvars c) d
      ∙ ap (λ t. passes x P names t scope (n + letvars c) d) around))
  steps_pass P names gs scope n (While e c) =
      let around = guards_append gs (guarded typing.While (reads scope e))
      ∙ ap (λ t. guards_pass gs || t) (reads_as typing.While scope e) in
      any_append (endings P true (reads scope e)) _
      ∙ ap (λ t. t || list_any (same_step x) (steps P names (gs ++ guarded typing.While (reads scope e)) scope n c))
      (endings_as P true scope e)
      ∙ ap (λ t. (ends_pass x scope e && observes_ending P true) || t) (steps_pass P names
      (gs ++ guarded typing.While (reads scope e)) scope n c ∙ ap (λ t. passes x P names t scope n c) around)
  steps_pass P names gs scope n (Letvar e c) =
      any_append (flows n (names n) (guarded typing.Letvar (reads scope e))) _
      ∙ ap (λ t. t || list_any (same_step x) (steps P names gs (scope ++ n ∷ []) (n + 1) c))
      (flows_as n (names n) (guarded typing.Letvar (reads scope e))
      ∙ ap (λ t. t && written_is x n (names n)) (reads_as typing.Letvar scope e))
      ∙ ap (λ t. (reads_pass x typing.Letvar scope e && written_is x n (names n)) || t)
      (steps_pass P names gs (scope ++ n ∷ []) (n + 1) c)
