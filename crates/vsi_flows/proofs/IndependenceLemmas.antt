-- A variable that isn't reached is independent: the proof orders two classes and gives the upper one to all reached
-- variables.
use Rattle.std.proofs.Common.{◌≡◌, ◌⊎◌, ℕ, zero, suc, ◌+◌, ◌<◌, ◌≤◌, ◌==◌, cond, Bool, true, false, List, [], ◌∷◌, ◌++◌, map, take, drop, length, get_or, Option, Some, None, pos, ℤ, refl, sym, ap, ◌∙◌, subst, arith, inl, inr, ne_eqb, int_eq}
use Rattle.std.specs.Prelude.{slice_index, slice_index_or, nat_lt, ◌-◌}
use Rattle.std.specs.List.{All, AllZip, Contains}
use Rattle.std.proofs.lemmas.Bool.{cases_eq, cases_lt, false≢true, lt-ltb}
use Rattle.std.proofs.lemmas.Bool.Decides.{Decides-int_eq}
use Rattle.std.proofs.lemmas.List.{get_or_append_left, get_or_at, get_or_past, get_or-take, length-take-le, length-drop, length-map, length_push, take-append-drop}
use Rattle.std.proofs.lemmas.List.Elements.{All-nil, All-cons, All-contains, All-contains_itself, All-from_get_or, All-take, All-drop, All-weaker}
use Rattle.vsi_lattice.specs.Order.{Lattice, IsClass, Below}
use Rattle.vsi_scope.specs.Language.{letvars, HasPlaces}
use Rattle.vsi_scope.specs.Meaning.{Store, Evaluates}
use Rattle.vsi_types.specs.declared.rules.Profile.{Profile}
use Rattle.vsi_types.specs.declared.rules.Profile.TheVariants.{Base, Strict}
use Rattle.vsi_types.specs.declared.rules.Step.{Step}
use Rattle.vsi_types.specs.Steps.{sink, steps, IsInOrder, AreInOrder}
use Rattle.vsi_types.specs.Security.{class_of, Keeps, Program, IsChoice, IsTypable, IsWellFormed, steps_of, count_from, Agree}
use Rattle.vsi_types.specs.Walks.{declared_class}
use Rattle.vsi_types.proofs.Programs.{length_count, steps_decide}
use Rattle.vsi_types.proofs.Secure.{noninterference}
use Rattle.vsi_infer.specs.Flowing.{size_of}
use Rattle.vsi_infer.specs.Paths.{IsPath}
use Rattle.vsi_infer.proofs.PathLemmas.{path_push}
use Rattle.vsi_infer.proofs.RowsOf.{count_within}
use Rattle.vsi_infer.proofs.LawLemmas.{stays}
use Rattle.vsi_flows.specs.declared.table.Pair.{Pair}
use Rattle.vsi_flows.specs.Table.{IsJoined, IsTable, HasPair}
use Rattle.vsi_flows.specs.Independence.{IsUnreached, AgreeOutside, Independence, UnlistedIsUnreached}
use Rattle.vsi_flows.proofs.TwoClasses.{two, two_leq, two_laws}
use Rattle.vsi_flows.proofs.BaseTargets.{IsInside, targets}

-- A choice where no class is declared.
keeps_none : (ds : List (Option ℕ)) (s : List ℕ) → length s ≡ length ds → AllZip Keeps (map (λ _. None) ds) s
keeps_none [] [] e = tt
keeps_none [] (c ∷ s) e = absurd (omega (arith, e))
keeps_none (d ∷ ds) [] e = absurd (omega (arith, e))
keeps_none (d ∷ ds) (c ∷ s) e = (tt, keeps_none ds s (omega (arith, e)))

-- Words that can't differ are equal.
same_word : (x y : ℤ) → ((x ≡ y → ⊥) → ⊥) → x ≡ y
same_word x y h = by (int_eq x y) refl
  where
    by : (t : Bool) → int_eq x y ≡ t → x ≡ y
    by true e = (Decides-int_eq x y).0 e
    by false e = absurd (h (λ q. false≢true (sym e ∙ (Decides-int_eq x y).1 q)))

module _ (p : Program) (entries : length p.declared ≡ letvars p.body) (places : HasPlaces (length p.globals) p.body)
    (limit : length p.globals + letvars p.body ≤ 1024) (from : List ℕ) where
  -- A walk leads to the variable from a variable of the list.
  abbrev pub Reached : ℕ → Type 0
  Reached v = (a : ℕ) × Contains from a × ((w : List Step) × IsPath (steps_of Base p) a w v)

  -- The upper class says that the variable is reached, and the lower one that it isn't.
  abbrev pub Says : ℕ → ℕ → Type 0
  Says c v = ((c ≡ 1) × Reached v) ⊎ ((c ≡ 0) × (Reached v → ⊥))

  -- The classes of the first n variables.
  pub record AreSaid (n : ℕ) : Type 0 where
    pub classes : List ℕ
    pub count : length classes ≡ n
    pub each : (v : ℕ) → v < n → Says (get_or classes v 0) v

  -- The classes of one more variable.
  more : (n : ℕ) (a : AreSaid n) (c : ℕ) → Says c n → AreSaid (suc n)
  more n a c says = record {
    classes = a.classes ++ c ∷ [];
    count = omega (arith, length_push a.classes c, a.count);
    each = λ v lt. elim (cases_lt v n) [
      | inl l ↦ subst (λ (x : ℕ). Says x v)
          (sym (get_or_append_left a.classes (c ∷ []) 0 v (omega (arith, l, a.count)))) (a.each v l)
      | inr g ↦ (let e : v ≡ n = omega (arith, lt, g) in
          subst (λ (x : ℕ). Says x v) (sym (get_or_at a.classes c [] 0 v (omega (arith, e, a.count))))
          (subst (Says c) (sym e) says))
    ];
  }

  -- It is impossible that there are no such classes.
  some : (n : ℕ) → (AreSaid n → ⊥) → ⊥
  some zero no' = no' (record { classes = []; count = refl; each = λ v lt. absurd (omega (arith, lt)) })
  some (suc n) no' =
      some n (λ a.
      let unreached : Reached n → ⊥ = λ r. no' (more n a 1 (inl (refl, r))) in
      no' (more n a 0 (inr (refl, unreached))))

  module _ (said : AreSaid (size_of p)) where
    -- The classes of all variables.
    cs : List ℕ
    cs = said.classes

    -- How many globals the program has.
    g : ℕ
    g = length p.globals

    -- The program with these classes for its globals, and without declared classes of letvars.
    abbrev pub raised : Program
    raised = record {
      globals = take (length p.globals) said.classes;
      declared = map (λ _. None) p.declared;
      names = p.names;
      body = p.body;
    }

    -- There is a class for each global.
    count : length (take (length p.globals) said.classes) ≡ length p.globals
    count = length-take-le (length p.globals) said.classes (omega (arith, said.count))

    -- The steps are those of the program, because they don't depend on classes.
    same_steps : steps_of Base raised ≡ steps_of Base p
    same_steps = ap (λ (n : ℕ). steps Base p.names [] (count_from 0 n) n p.body) count

    -- Every class is the lower or the upper one.
    is_class : (v : ℕ) → v < size_of p → get_or said.classes v 0 < 2
    is_class v lt = elim (said.each v lt) [
      | inl (e, r) ↦ omega (arith, e)
      | inr (e, r) ↦ omega (arith, e)
    ]

    -- All of these are classes.
    all_classes : All (IsClass two) said.classes
    all_classes = All-from_get_or (IsClass two) said.classes 0 (λ i lt. is_class i (omega (arith, lt, said.count)))

    -- The program with these classes is well formed.
    formed : IsWellFormed two raised
    formed = record {
      classes = All-take (IsClass two) (length p.globals) said.classes all_classes;
      entries = length-map p.declared (λ (_ : Option ℕ). None) ∙ entries;
      places = subst (λ (n : ℕ). HasPlaces n p.body) (sym count) places;
      limit = omega (arith, count, limit);
    }

    -- The classes of its `letvar`s.
    rest : List ℕ
    rest = drop (length p.globals) said.classes

    -- There is a class for each `letvar`.
    rest_count : length (drop (length p.globals) said.classes) ≡ length p.declared
    rest_count =
        let d = length-drop (length p.globals) said.classes in
        omega (arith, d, said.count, entries)

    -- These are a choice of the program.
    chosen : IsChoice raised (drop (length p.globals) said.classes)
    chosen = keeps_none p.declared (drop (length p.globals) said.classes) rest_count

    -- A class that isn't the lower one is the upper one.
    upper : (v : ℕ) → (class_of two said.classes v ≡ 0) ⊎ ((class_of two said.classes v ≡ 1) × Reached v)
    upper v = by (v == sink) refl
      where
        by : (t : Bool) → (v == sink) ≡ t → (class_of two said.classes v ≡ 0)
            ⊎ ((class_of two said.classes v ≡ 1) × Reached v)
        by true e = inl (ap (λ t. cond t 0 (slice_index said.classes v)) e)
        by false e =
            let q : class_of two said.classes v ≡ get_or said.classes v 0 =
            ap (λ t. cond t 0 (slice_index said.classes v)) e in
            elim (cases_lt v (size_of p)) [
              | inl lt ↦ elim (said.each v lt) [
                | inl (c, r) ↦ inr (q ∙ c, r)
                | inr (c, n) ↦ inl (q ∙ c)
              ]
              | inr ge ↦ inl (q ∙ get_or_past said.classes v 0 (omega (arith, ge, said.count)))
            ]

    -- A reached variable has the upper class.
    reached_upper : (v : ℕ) → v < size_of p → Reached v → class_of two said.classes v ≡ 1
    reached_upper v lt r =
        ap (λ t. cond t 0 (slice_index said.classes v)) (ne_eqb v sink (λ e. omega (arith, e, lt, limit)))
        ∙ elim (said.each v lt) [
          | inl (c, q) ↦ c
          | inr (c, n) ↦ absurd (n r)
        ]

    -- Each step is between variables of the program.
    inside : All (IsInside (size_of p)) (steps_of Base p)
    inside = targets (size_of p) p.names [] (count_from 0 (length p.globals)) (length p.globals) p.body
        (subst (λ (n : ℕ). HasPlaces n p.body) (sym (length_count 0 (length p.globals))) places) (omega arith)
        (count_within 0 (length p.globals) (size_of p) (omega arith))

    -- Each step is in order for these classes.
    step_up : (s : Step) → Contains (steps_of Base p) s → IsInOrder two (class_of two said.classes) s
    step_up s there = elim (upper s.source) [
      | inl low ↦ subst (λ (x : ℕ). two_leq x (class_of two said.classes s.target) ≡ true) (sym low) refl
      | inr (high, r) ↦
          (let t = All-contains (IsInside (size_of p)) (steps_of Base p) s inside there in
          let u = reached_upper s.target t (
            r.0,
            r.1,
            (r.2.0 ++ s ∷ [], path_push (steps_of Base p) r.0 s.source r.2.0 s r.2.1 refl there),
          ) in
          subst (λ (x : ℕ). two_leq x (class_of two said.classes s.target) ≡ true) (sym high)
          (subst (λ (x : ℕ). two_leq 1 x ≡ true) (sym u) refl))
    ]

    -- All steps are in order.
    in_order : AreInOrder two (class_of two (take (length p.globals) said.classes ++ drop (length p.globals)
        said.classes)) (steps_of Base raised)
    in_order =
        subst (λ (l : List ℕ). AreInOrder two (class_of two l) (steps_of Base raised))
        (sym (take-append-drop (length p.globals) said.classes))
        (subst (AreInOrder two (class_of two said.classes)) (sym same_steps)
        (All-weaker (Contains (steps_of Base p)) (IsInOrder two (class_of two said.classes)) step_up
        (steps_of Base p) (All-contains_itself (steps_of Base p))))

    -- With these classes the program is typable.
    typed : IsTypable two Base raised (drop (length p.globals) said.classes)
    typed =
        (steps_decide two Base raised (drop (length p.globals) said.classes) two_laws formed
        (All-drop (IsClass two) (length p.globals) said.classes all_classes)).1 (chosen, in_order)

    -- A global has its stated class.
    at_global : (l : ℕ) → l < length p.globals → get_or (take (length p.globals) said.classes) l 0
        ≡ get_or said.classes l 0
    at_global l lt = get_or-take (length p.globals) said.classes l 0 lt

    -- The upper class isn't below the lower one.
    not_below : (c : ℕ) → c ≡ 1 → two_leq c 0 ≡ true → ⊥
    not_below c e t = false≢true (subst (λ (x : ℕ). two_leq x 0 ≡ true) e t)

    -- Two stores that differ only at the given globals agree at and below the lower class.
    agree : (m m' : Store) → AgreeOutside from m m' → Agree two raised.globals 0 m m'
    agree m m' out l lt low = out l (λ c.
        let lg : l < length p.globals = omega (arith, lt, count) in
        elim (said.each l (omega (arith, lg))) [
          | inl (e, r) ↦ not_below (get_or (take (length p.globals) said.classes) l 0) (at_global l lg ∙ e) low
          | inr (e, n) ↦ n (l, c, ([], refl))
        ])

    -- By the stated classes, two stores that differ only in the given globals end with equal words in an unreached
    -- global.
    pub equal_words : (b : ℕ) → b < length p.globals → IsUnreached p from b → (m₁ m₂ m₁' m₂' : Store)
        → length m₁ ≡ length p.globals → length m₂ ≡ length p.globals → AgreeOutside from m₁ m₂
        → Evaluates p.body m₁ m₁' → Evaluates p.body m₂ m₂' → get_or m₁' b (pos 0) ≡ get_or m₂' b (pos 0)
    equal_words b lt un m₁ m₂ m₁' m₂' l₁ l₂ out e₁ e₂ =
        noninterference two Base raised (drop (length p.globals) said.classes) two_laws formed typed 0 (omega arith)
        m₁ m₂ m₁' m₂' (l₁ ∙ sym count) (l₂ ∙ sym count) (agree m₁ m₂ out) e₁ e₂ b (omega (arith, lt, count))
        (elim (said.each b (omega (arith, lt))) [
          | inl (e, r) ↦ absurd (un r.0 r.2.0 r.1 r.2.1)
          | inr (e, n) ↦ subst (λ (x : ℕ). two_leq x 0 ≡ true) (sym (at_global b lt ∙ e)) refl
        ])

  -- Two stores that differ only in the given globals end with equal words in a global that none of these reaches.
  pub independent : (b : ℕ) → b < length p.globals → IsUnreached p from b → (m₁ m₂ m₁' m₂' : Store)
      → length m₁ ≡ length p.globals → length m₂ ≡ length p.globals → AgreeOutside from m₁ m₂
      → Evaluates p.body m₁ m₁' → Evaluates p.body m₂ m₂' → get_or m₁' b (pos 0) ≡ get_or m₂' b (pos 0)
  independent b lt un m₁ m₂ m₁' m₂' l₁ l₂ out e₁ e₂ =
      same_word (get_or m₁' b (pos 0)) (get_or m₂' b (pos 0))
      (λ n. some (size_of p) (λ said. n (equal_words said b lt un m₁ m₂ m₁' m₂' l₁ l₂ out e₁ e₂)))

-- The law of independence.
pub independence : Independence
independence L p from b res = independent p res.entries res.places res.limit from b

-- A walk of the base profile is a walk of each profile.
each_profile : (P : Profile) (p : Program) (a b : ℕ) (w : List Step) → IsPath (steps_of Base p) a w b
    → IsPath (steps_of P p) a w b
each_profile Base p a b w q = q
each_profile Strict p a b [] q = q
each_profile Strict p a b (s ∷ rest) q = (
  q.0,
  stays p.names s [] (count_from 0 (length p.globals)) (length p.globals) p.body q.1,
  each_profile Strict p s.target b rest q.2,
)

-- A global has a declared class.
global_class : (L : Lattice) (p : Program) (v : ℕ) → length p.globals ≤ 1024 → v < length p.globals
    → declared_class L p v ≡ Some (slice_index p.globals v)
global_class L p v small lt =
    ap (λ t. cond t (Some L.bottom) (cond (nat_lt v (length p.globals)) (Some (slice_index p.globals v))
    (slice_index_or p.declared (v - length p.globals) None))) (ne_eqb v sink (λ e. omega (arith, e, lt, small)))
    ∙ ap (λ t. cond t (Some (slice_index p.globals v)) (slice_index_or p.declared (v - length p.globals) None))
    (lt-ltb v (length p.globals) lt)

-- If the table has no pair, no walk leads from the one to the other.
pub unlisted_is_unreached : UnlistedIsUnreached
unlisted_is_unreached L P p pairs from b res table lb none a w c q =
    let n = none a c in
    n.2 (table.whole a b (record {
      apart = n.1;
      low = slice_index p.globals a;
      high = slice_index p.globals b;
      source = global_class L p a (omega (arith, res.limit)) n.0;
      target = global_class L p b (omega (arith, res.limit)) lb;
      walk = w;
      path = each_profile P p a b w q;
    }))
