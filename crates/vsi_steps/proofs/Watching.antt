-- Combining the runs of the parts of a command into its run.
use Rattle.std.proofs.Common.{◌≡◌, ◌≢◌, ℕ, ◌+◌, ◌-◌, ◌<◌, ◌≤◌, List, [], ◌∷◌, ◌++◌, length, take, drop, set, get_or, min, ℤ, pos, w64, SFits, to_z, of_z, refl, sym, ap, ◌∙◌, subst, ⊎_elim, arith, rules}
use Rattle.std.proofs.lemmas.Int.{to_z-of_z}
use Rattle.std.specs.Prelude.{slice_index, false, ◌==◌, cond, ⊤, Option, Some, None, Result, Ok, Err, IsErrAnd, SomeIff}
use Rattle.std.specs.Option.{ok_or}
use Rattle.std.specs.List.{All}
use Rattle.std.proofs.lemmas.List.{drop_more, drop_all, length_push, take_at}
use Rattle.std.proofs.lemmas.List.Elements.{All-push}
use Rattle.vsi_lattice.specs.Order.{Lattice, IsLattice, IsClass, Below, IsJoin}
use Rattle.vsi_syntax.specs.declared.token.Span.{Span}
use Rattle.vsi_scope.specs.declared.program.Cmd.{Cmd}
use Rattle.vsi_scope.specs.Language.{Expression, Command, Skip, Assign, Sequence, If, While, Letvar, letvars, HasPlaces}
use Rattle.vsi_scope.specs.Limits.{max_declarations}
use Rattle.vsi_scope.specs.Meaning.{value}
use Rattle.vsi_scope.specs.View.{command, sequence}
use Rattle.vsi_types.specs.Security.{class_of}
use Rattle.vsi_types.specs.Steps.{sink}
use Rattle.vsi_steps.specs.declared.labels.Rule.{Rule}
use Rattle.vsi_steps.specs.declared.watch.Unfinished.{Unfinished}
use Rattle.vsi_steps.specs.declared.watch.Unfinished.TheVariants as ends
use Rattle.vsi_steps.specs.Labels.{HasLabel, IsStored, IsLabelled}
use Rattle.vsi_steps.specs.Monitor.{Outcome, Halted, Stopped, upgrade, branch, MayReplace, Monitored, NOTHING, ASSIGN, UPGRADE, MARK, COMPOSE, COMPOSE_STOP, IF_TRUE, IF_FALSE, IF_MARK, WHILE_TRUE, WHILE_STOP, WHILE_FALSE, WHILE_MARK, LETVAR, LETVAR_STOP}
use Rattle.vsi_steps.specs.Watched.{Held, IsHeld, IsReady, Judged, Guarded, Watched}
use Rattle.vsi_steps.proofs.Labelled.{kept, fit_more}

-- The rest of a list from a command on.
pub at_command : (cs : List Cmd) (i : ℕ) (c : Cmd) → i < length cs → c ≡ get_or cs i c →
    sequence (drop i cs) ≡ Sequence (command c) (sequence (drop (i + 1) cs))
at_command cs i c lt is =
    ap sequence (drop_more cs i c lt) ∙ ap (λ y. Sequence (command y) (sequence (drop (i + 1) cs))) (sym is)

-- A word with no bit set is 0.
pub zero_word : (x : ℤ) → SFits w64 x → of_z w64 x ≡ 0 → x ≡ pos 0
zero_word x fits e = sym (to_z-of_z w64 x fits) ∙ ap (to_z w64) e

-- A number below the limit isn't cut.
pub small : (k n x : ℕ) → x ≡ min k 65535 → n + k ≤ max_declarations → n + x ≡ n + k
small k n x is few = first_of (omega (arith, is, few), grind (arith, is, few), search (rules, is, few))

-- A step is taken from those that are left.
pub taken : (o : Option ℕ) (n k : ℕ) (e : Unfinished) → SomeIff o (1 ≤ n) (n - 1) → Ok k ≡ ok_or o e → k ≤ n
taken o n k e h is = grind arith

-- Past the end of a list nothing is left.
pub at_end : (cs : List Cmd) (i : ℕ) → length cs ≤ i → sequence (drop i cs) ≡ Skip
at_end cs i le = ap sequence (drop_all i cs le)

-- The state with so many steps left.
abbrev pub with_left : Held → ℕ → Held
with_left a k = record { words = a.words; labels = a.labels; variables = a.variables; left = k }

module _ (R : Rule) (L : Lattice) (classes : ℕ → ℕ) where
  -- A run that isn't finished for this reason.
  pub watched_err : (pc n : ℕ) (c : Command) (a b b' : Held) (r : Result ⊤ Unfinished) (e : Unfinished) →
      IsErrAnd r (λ x. x ≡ e) → Watched R L classes pc n c a b' (Err e) → Watched R L classes pc n c a b r
  watched_err pc n c a b b' (Ok u) e is h = absurd is
  watched_err pc n c a b b' (Err x) ends.Memory is h = subst (λ y. Watched R L classes pc n c a b (Err y)) (sym is) tt
  watched_err pc n c a b b' (Err x) ends.Limit is h = subst (λ y. Watched R L classes pc n c a b (Err y)) (sym is) tt
  watched_err pc n c a b b' (Err x) (ends.Stopped s) is h =
      subst (λ y. Watched R L classes pc n c a b (Err y)) (sym is) h

  -- A run with no steps left.
  pub limit_err : (pc n : ℕ) (c : Command) (a b : Held) (r : Result ⊤ Unfinished) (e : Unfinished) →
      IsErrAnd r (λ x. x ≡ e) → e ≡ ends.Limit → Watched R L classes pc n c a b r
  limit_err pc n c a b (Ok u) e is h = absurd is
  limit_err pc n c a b (Err x) e is h = subst (λ y. Watched R L classes pc n c a b (Err y)) (sym (is ∙ h)) tt

  -- A run of one command leads to a run of another, which can be run.
  pub record Leads (table : List ℕ) (pc n : ℕ) (c : Command) (a : Held) (pc' n' : ℕ) (c' : Command) (b : Held) :
      Type 0 where
    pub ready : IsReady L table pc' n' c' b
    pub variables : b.variables ≡ a.variables
    pub left : b.left ≤ a.left
    pub runs : (r : Outcome) → Monitored R L classes b.variables pc' n' c' b.words b.labels r →
        Monitored R L classes a.variables pc n c a.words a.labels r

  -- Each run leads to itself.
  pub leads_self : (table : List ℕ) (pc n : ℕ) (c : Command) (a : Held) → IsReady L table pc n c a →
      Leads table pc n c a pc n c a
  leads_self table pc n c a h = record { ready = h; variables = refl; left = omega arith; runs = λ r d. d }

  -- The end of the second run is the end of the first.
  pub leads_watched : (table : List ℕ) (pc n : ℕ) (c : Command) (a : Held) (pc' n' : ℕ) (c' : Command) (b d : Held)
      (r : Result ⊤ Unfinished) → Leads table pc n c a pc' n' c' b → Watched R L classes pc' n' c' b d r →
      Watched R L classes pc n c a d r
  leads_watched table pc n c a pc' n' c' b d (Ok u) l h =
      (l.runs (Halted d.words d.labels) h.0, h.1 ∙ l.variables, omega (arith, h.2, l.left))
  leads_watched table pc n c a pc' n' c' b d (Err ends.Memory) l h = tt
  leads_watched table pc n c a pc' n' c' b d (Err ends.Limit) l h = tt
  leads_watched table pc n c a pc' n' c' b d (Err (ends.Stopped x)) l h = l.runs (Stopped x) h

  -- An assignment that is judged to have no label is stopped.
  pub stopped_at : (a b : Held) (pc n l k t class : ℕ) (s : Span) (e : Expression) → k ≡ slice_index a.labels l →
      Judged R L pc k t class None → Watched R L classes pc n (Assign l s e) a b (Err (ends.Stopped (upgrade s pc k)))
  stopped_at a b pc n l k t class s e is not =
      subst (λ x. Monitored R L classes a.variables pc n (Assign l s e) a.words a.labels (Stopped (upgrade s pc x)))
      (sym is) (UPGRADE not.0 (subst (λ x. MayReplace R L pc x → ⊥) is not.1))

  -- An assignment that is judged to have a label stores its word with it.
  pub assigned_at : (a b : Held) (pc n l k t class v : ℕ) (s : Span) (e : Expression) (x : ℤ) (done : ⊤) →
      k ≡ slice_index a.labels l → class ≡ slice_index a.variables l → HasLabel L a.labels e t →
      Judged R L pc k t class (Some v) → x ≡ value e a.words → b.words ≡ set a.words l x → b.labels ≡ set a.labels l v →
      b.variables ≡ a.variables → b.left ≤ a.left → Watched R L classes pc n (Assign l s e) a b (Ok done)
  assigned_at a b pc n l k t class v s e x done present is has judged value' words labels variables left =
      let run : Monitored R L classes a.variables pc n (Assign l s e) a.words a.labels
      (Halted (set a.words l (value e a.words)) (set a.labels l v)) =
      ⊎_elim
      (λ h. ASSIGN (subst (MayReplace R L pc) present h.0) has (subst (λ y. IsStored L t pc y v) is h.1))
      (λ h. subst (λ y. Monitored R L classes a.variables pc n (Assign l s e) a.words a.labels
      (Halted (set a.words l (value e a.words)) (set a.labels l y))) (sym h.2)
      (MARK h.0 (subst (λ y. MayReplace R L pc y → ⊥) present h.1))) judged in (
        subst (λ y. Monitored R L classes a.variables pc n (Assign l s e) a.words a.labels (Halted y b.labels))
            (sym (words ∙ ap (set a.words l) value'))
            (subst (λ y. Monitored R L classes a.variables pc n (Assign l s e) a.words a.labels
            (Halted (set a.words l (value e a.words)) y)) (sym labels) run),
        variables,
        left,
      )

  -- A choice is stopped at its guard.
  pub choice_stop : (pc n : ℕ) (e : Expression) (p q : Command) (a d : Held) (y : Unfinished) →
      Guarded R L pc a.labels e (Err y) → Watched R L classes pc n (If e p q) a d (Err y)
  choice_stop pc n e p q a d y h =
      subst (λ z. Watched R L classes pc n (If e p q) a d (Err z)) (sym h.2) (IF_MARK h.1)

  -- A choice whose guard is true leads to its first branch.
  pub leads_yes : (table : List ℕ) (pc n t u : ℕ) (e : Expression) (p q : Command) (x : ℤ) (a : Held) (k : ℕ) →
      IsReady L table pc n (If e p q) a → k ≤ a.left →
      Guarded R L pc a.labels e (Ok t) → IsJoin L.count (Below L) pc t u → x ≡ value e a.words → x ≢ pos 0 →
      Leads table pc n (If e p q) a u n p (with_left a k)
  leads_yes table pc n t u e p q x a k h le has j is z = record {
    ready = record {
      table_classes = h.table_classes;
      entries = omega (arith, h.entries);
      few = omega (arith, h.few);
      held = record { labelled = h.held.labelled; variables = h.held.variables };
      counter = j.within;
      places = h.places.1;
    };
    variables = refl;
    left = le;
    runs = λ r d. IF_TRUE (λ y. z (is ∙ y)) has.0 has.2 j d;
  }

  -- A choice whose guard is false leads to its second branch.
  pub leads_no : (table : List ℕ) (pc n i t u : ℕ) (e : Expression) (p q : Command) (x : ℤ) (a : Held) (k : ℕ) →
      i ≡ n + letvars p → IsReady L table pc n (If e p q) a → k ≤ a.left → Guarded R L pc a.labels e (Ok t) →
      IsJoin L.count (Below L) pc t u → x ≡ value e a.words → x ≡ pos 0 →
      Leads table pc n (If e p q) a u i q (with_left a k)
  leads_no table pc n i t u e p q x a k at h le has j is z =
      subst (λ y. Leads table pc n (If e p q) a u y q (with_left a k)) (sym at) (record {
        ready = record {
          table_classes = h.table_classes;
          entries = omega (arith, h.entries);
          few = omega (arith, h.few);
          held = record { labelled = h.held.labelled; variables = h.held.variables };
          counter = j.within;
          places = h.places.2;
        };
        variables = refl;
        left = le;
        runs = λ r d. IF_FALSE (sym is ∙ z) has.0 has.2 j d;
      })

  -- After the last command the list has been run.
  pub leads_end : (table : List ℕ) (pc n : ℕ) (c : Command) (a : Held) (n' : ℕ) (r : Command) (b : Held) (u : ⊤) →
      r ≡ Skip → Leads table pc n c a pc n' r b → Watched R L classes pc n c a b (Ok u)
  leads_end table pc n c a n' r b u e l' =
      let l = subst (λ y. Leads table pc n c a pc n' y b) e l' in
      (l.runs (Halted b.words b.labels) NOTHING, l.variables, l.left)

  module _ (table : List ℕ) (pc n : ℕ) (c : Command) (a : Held) (n' : ℕ) (p q r : Command) (b : Held)
      (is : r ≡ Sequence p q) (l' : Leads table pc n c a pc n' r b) where
    -- The first command of a sequence can be run.
    pub first_ready : IsReady L table pc n' p b
    first_ready = let l = subst (λ y. Leads table pc n c a pc n' y b) is l' in record {
      table_classes = l.ready.table_classes;
      entries = omega (arith, l.ready.entries);
      few = omega (arith, l.ready.few);
      held = l.ready.held;
      counter = l.ready.counter;
      places = l.ready.places.0;
    }

    -- A command that isn't finished ends the list.
    pub leads_stop : (d : Held) (e : Unfinished) → Watched R L classes pc n' p b d (Err e) →
        Watched R L classes pc n c a d (Err e)
    leads_stop d ends.Memory h = tt
    leads_stop d ends.Limit h = tt
    leads_stop d (ends.Stopped x) h =
        (subst (λ y. Leads table pc n c a pc n' y b) is l').runs (Stopped x) (COMPOSE_STOP h)

  module _ (laws : IsLattice L) where
    -- A run keeps the form of the state.
    left_held : (pc n : ℕ) (c : Command) (a b : Held) → IsHeld L a → HasPlaces (length a.variables) c →
        Monitored R L classes a.variables pc n c a.words a.labels (Halted b.words b.labels) →
        b.variables ≡ a.variables → IsHeld L b
    left_held pc n c a b h has d same = record {
      labelled = subst (λ k. IsLabelled L k b.words b.labels) (ap length (sym same))
          (kept R L laws classes a.variables (length a.variables) pc n c a.words a.labels (Halted b.words b.labels) has
          h.labelled d);
      variables = subst (All (IsClass L)) (sym same) h.variables;
    }

    -- After a command of a list comes the next one.
    pub leads_next : (table : List ℕ) (pc n : ℕ) (c : Command) (a : Held) (n' : ℕ) (p q r : Command) (b d : Held)
        (k : ℕ) (u : ⊤) → r ≡ Sequence p q → Leads table pc n c a pc n' r b → Watched R L classes pc n' p b d (Ok u) →
        k ≡ n' + letvars p → Leads table pc n c a pc k q d
    leads_next table pc n c a n' p q r b d k u e l' w is =
        let l = subst (λ x. Leads table pc n c a pc n' x b) e l' in
        subst (λ x. Leads table pc n c a pc x q d) (sym is) (record {
          ready = record {
            table_classes = l.ready.table_classes;
            entries = omega (arith, l.ready.entries);
            few = omega (arith, l.ready.few);
            held = left_held pc n' p b d l.ready.held l.ready.places.0 w.0 w.1;
            counter = l.ready.counter;
            places = subst (λ x. HasPlaces x q) (ap length (sym w.1)) l.ready.places.1;
          };
          variables = w.1 ∙ l.variables;
          left = omega (arith, w.2, l.left);
          runs = λ r' m. l.runs r' (COMPOSE w.0
              (subst (λ f. Monitored R L classes f pc (n' + letvars p) q d.words d.labels r') w.1 m));
        })

    module _ (table : List ℕ) (pc pc' n : ℕ) (e : Expression) (c : Command) (x : ℤ) (a b : Held) (k : ℕ)
        (l : Leads table pc n (While e c) a pc' n (While e c) b) (le : k ≤ b.left) (is : x ≡ value e b.words) where
      -- A loop ends with its guard.
      pub loop_ends : (t : ℕ) → Guarded R L pc' b.labels e (Ok t) → (u : ⊤) → x ≡ pos 0 →
          Watched R L classes pc n (While e c) a (with_left b k) (Ok u)
      loop_ends t has u z =
          (l.runs (Halted b.words b.labels) (WHILE_FALSE (sym is ∙ z) has.0), l.variables, omega (arith, le, l.left))

      -- A loop is stopped at its guard.
      pub loop_stop : (d : Held) (y : Unfinished) → Guarded R L pc' b.labels e (Err y) →
          Watched R L classes pc n (While e c) a d (Err y)
      loop_stop d y h =
          subst (λ z. Watched R L classes pc n (While e c) a d (Err z)) (sym h.2)
          (l.runs (Stopped (branch L h.0 pc')) (WHILE_MARK h.1))

      module _ (t u : ℕ) (z : x ≢ pos 0) (has : Guarded R L pc' b.labels e (Ok t))
          (j : IsJoin L.count (Below L) pc' t u) where
        -- The body of a loop can be run.
        pub turn_ready : IsReady L table u n c (with_left b k)
        turn_ready = record {
          table_classes = l.ready.table_classes;
          entries = l.ready.entries;
          few = l.ready.few;
          held = record { labelled = l.ready.held.labelled; variables = l.ready.held.variables };
          counter = j.within;
          places = l.ready.places.1;
        }

        -- A turn of a loop isn't finished.
        pub turn_stop : (d : Held) (y : Unfinished) → Watched R L classes u n c (with_left b k) d (Err y) →
            Watched R L classes pc n (While e c) a d (Err y)
        turn_stop d ends.Memory h = tt
        turn_stop d ends.Limit h = tt
        turn_stop d (ends.Stopped s) h = l.runs (Stopped s) (WHILE_STOP (λ y. z (is ∙ y)) has.0 has.2 j h)

        -- After a turn of a loop comes the loop, under the counter of the turn.
        pub leads_turn : (d : Held) (v : ⊤) → Watched R L classes u n c (with_left b k) d (Ok v) →
            Leads table pc n (While e c) a u n (While e c) d
        leads_turn d v w = record {
          ready = record {
            table_classes = l.ready.table_classes;
            entries = l.ready.entries;
            few = l.ready.few;
            held = left_held u n c b d l.ready.held l.ready.places.1 w.0 w.1;
            counter = j.within;
            places = subst (λ y. HasPlaces y (While e c)) (ap length (sym w.1)) l.ready.places;
          };
          variables = w.1 ∙ l.variables;
          left = omega (arith, w.2, le, l.left);
          runs = λ r m. l.runs r (WHILE_TRUE (λ y. z (is ∙ y)) has.0 has.2 j w.0
              (subst (λ f. Monitored R L classes f u n (While e c) d.words d.labels r) w.1 m));
        }

-- A smaller number isn't the sink.
not_sink : (v : ℕ) → v < max_declarations → (v == sink) ≡ false
not_sink v lt = grind arith

-- The class of a declaration of the table.
class_there : (L : Lattice) (table : List ℕ) (n : ℕ) → n < max_declarations → class_of L table n ≡ slice_index table n
class_there L table n few = ap (λ b. cond b L.bottom (slice_index table n)) (not_sink n few)

-- The state inside a letvar.
abbrev pub inside : Held → List ℤ → List ℕ → List ℕ → ℕ → Held
inside a m q f k = record { words = m; labels = q; variables = f; left = k }

module _ (R : Rule) (L : Lattice) (laws : IsLattice L) (table : List ℕ) (pc n : ℕ) (e : Expression) (c : Command) (x :
    ℤ)
    (t v class : ℕ) (a : Held) (m : List ℤ) (q f : List ℕ) (k : ℕ)
    (h : IsReady L table pc n (Letvar e c) a) (le : k ≤ a.left) (is : x ≡ value e a.words)
    (has : HasLabel L a.labels e t) (at : class ≡ slice_index table n) (j : IsJoin L.count (Below L) t class v)
    (words : m ≡ a.words ++ x ∷ []) (labels : q ≡ a.labels ++ v ∷ []) (variables : f ≡ a.variables ++ class ∷ []) where
  -- The body of a letvar can be run.
  pub letvar_ready : IsReady L table pc (n + 1) c (inside a m q f k)
  letvar_ready = record {
    table_classes = h.table_classes;
    entries = omega (arith, h.entries);
    few = omega (arith, h.few);
    held = record {
      labelled = subst (λ y. IsLabelled L (length f) y q) (sym words)
          (subst (λ y. IsLabelled L (length f) (a.words ++ x ∷ []) y) (sym labels)
          (subst (λ i. IsLabelled L i (a.words ++ x ∷ []) (a.labels ++ v ∷ []))
          (sym (ap length variables ∙ length_push a.variables class))
          (fit_more L laws (length a.variables) a.words a.labels h.held.labelled x v j.within)));
      variables = subst (All (IsClass L)) (sym variables)
          (All-push (IsClass L) a.variables class h.held.variables
          (subst (IsClass L) (sym at) (h.table_classes n 0 (omega (arith, h.entries)))));
    };
    counter = h.counter;
    places = subst (λ i. HasPlaces i c) (sym (ap length variables ∙ length_push a.variables class)) h.places.1;
  }

  -- The class of the new location.
  there : class ≡ class_of L table n
  there = at ∙ sym (class_there L table n (omega (arith, h.few)))

  -- The join with the class of the declaration.
  joined_there : IsJoin L.count (Below L) t (class_of L table n) v
  joined_there = subst (λ y. IsJoin L.count (Below L) t y v) there j

  -- The run of the body from the state of the rule.
  body_run : (r : Outcome) → Monitored R L (class_of L table) f pc (n + 1) c m q r →
      Monitored R L (class_of L table) (a.variables ++ class_of L table n ∷ []) pc (n + 1) c
      (a.words ++ value e a.words ∷ []) (a.labels ++ v ∷ []) r
  body_run r d =
      subst (λ y. Monitored R L (class_of L table) (a.variables ++ y ∷ []) pc (n + 1) c
      (a.words ++ value e a.words ∷ []) (a.labels ++ v ∷ []) r) there
      (subst (λ y. Monitored R L (class_of L table) y pc (n + 1) c
      (a.words ++ value e a.words ∷ []) (a.labels ++ v ∷ []) r) variables
      (subst (λ y. Monitored R L (class_of L table) f pc (n + 1) c
      (a.words ++ y ∷ []) (a.labels ++ v ∷ []) r) is
      (subst (λ y. Monitored R L (class_of L table) f pc (n + 1) c (a.words ++ x ∷ []) y r) labels
      (subst (λ y. Monitored R L (class_of L table) f pc (n + 1) c y q r) words d))))

  -- The body of a letvar isn't finished.
  pub letvar_stop : (d : Held) (y : Unfinished) →
      Watched R L (class_of L table) pc (n + 1) c (inside a m q f k) d (Err y) →
      Watched R L (class_of L table) pc n (Letvar e c) a d (Err y)
  letvar_stop d ends.Memory w = tt
  letvar_stop d ends.Limit w = tt
  letvar_stop d (ends.Stopped s) w = LETVAR_STOP has joined_there (body_run (Stopped s) w)

  -- A letvar, whose location is dropped again.
  pub letvar_done : (d d' : Held) (i : ℕ) (u u' : ⊤) →
      Watched R L (class_of L table) pc (n + 1) c (inside a m q f k) d (Ok u) → i ≡ length a.words →
      d'.words ≡ take i d.words → d'.labels ≡ take i d.labels → d'.variables ≡ take i d.variables →
      d'.left ≤ d.left → Watched R L (class_of L table) pc n (Letvar e c) a d' (Ok u')
  letvar_done d d' i u u' w long words' labels' variables' left' =
      let same = h.held.labelled in (
        subst (λ y. Monitored R L (class_of L table) a.variables pc n (Letvar e c) a.words a.labels (Halted y
            d'.labels))
            (sym (words' ∙ ap (λ y. take y d.words) long))
            (subst (λ y. Monitored R L (class_of L table) a.variables pc n (Letvar e c) a.words a.labels
            (Halted (take (length a.words) d.words) y))
            (sym (labels' ∙ ap (λ y. take y d.labels) (long ∙ same.words ∙ sym same.labels)))
            (LETVAR has joined_there (body_run (Halted d.words d.labels) w.0))),
        variables' ∙ ap (λ y. take y d.variables) (long ∙ same.words) ∙ ap (take (length a.variables)) (w.1 ∙ variables)
            ∙ take_at a.variables (class ∷ []) (length a.variables) refl,
        omega (arith, left', w.2, le),
      )
