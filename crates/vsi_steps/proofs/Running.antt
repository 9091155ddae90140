-- Combining the runs of the parts of a command into its run.
use Rattle.std.proofs.Common.{◌≡◌, ◌≢◌, ℕ, ◌+◌, ◌<◌, ◌≤◌, List, [], ◌∷◌, ◌++◌, length, get_or, take, set, ℤ, pos, refl, sym, ap, ◌∙◌, subst, arith, append_assoc, length-set}
use Rattle.std.specs.Prelude.{Bool, true, false, Some, None}
use Rattle.std.proofs.lemmas.List.{length-append, length_push, length-take-le, append-nil}
use Rattle.vsi_syntax.specs.declared.token.Span.{Span}
use Rattle.vsi_scope.specs.declared.program.Cmd.{Cmd}
use Rattle.vsi_scope.specs.Language.{Expression, Command, Skip, Assign, Sequence, If, While, Letvar, HasPlaces}
use Rattle.vsi_scope.specs.Limits.{max_size}
use Rattle.vsi_scope.specs.Meaning.{Store, value}
use Rattle.vsi_scope.specs.View.{command}
use Rattle.vsi_steps.specs.declared.run.Extent.{Extent}
use Rattle.vsi_steps.specs.declared.run.Step.{Step}
use Rattle.vsi_steps.specs.Extents.{HasExtents}
use Rattle.vsi_steps.specs.Sites.{sites}
use Rattle.vsi_steps.specs.Steps.{step, IsStep, Spells, NOTHING, ASSIGN, COMPOSE, IF_TRUE, IF_FALSE, WHILE_TRUE, WHILE_FALSE, LETVAR, Begins, BEFORE, IN_FIRST, IN_SECOND, IN_TRUE, IN_FALSE, IN_TURN, IN_TURNS, IN_LETVAR}
use Rattle.vsi_steps.specs.Ran.{Past, IsReady, Added, Met, Ran}
use Rattle.vsi_steps.proofs.Tables.{site_inside, site_after}

-- A run keeps the number of words.
spells_length : (n : ℕ) (c : Command) (m : Store) (es : List Step) (m' : Store) → Spells n c m es m' →
    length m' ≡ length m
spells_length n c m es m' NOTHING = refl
spells_length n c m es m' (ASSIGN {l = l} {e = e}) = length-set m l (value e m)
spells_length n c m es m' (COMPOSE {a = a} {b = b} {m₁ = m₁} {es = es'} {fs = fs} d d') =
    spells_length (n + sites a) b m₁ fs m' d' ∙ spells_length n a m es' m₁ d
spells_length n c m es m' (IF_TRUE {a = a} {es = es'} z d) = spells_length (n + 1) a m es' m' d
spells_length n c m es m' (IF_FALSE {a = a} {b = b} {es = es'} z d) = spells_length (n + 1 + sites a) b m es' m' d
spells_length n c m es m' (WHILE_TRUE {e = e} {c = c'} {m₁ = m₁} {es = es'} {fs = fs} z d d') =
    spells_length n (While e c') m₁ fs m' d' ∙ spells_length (n + 1) c' m es' m₁ d
spells_length n c m es m' (WHILE_FALSE z) = refl
spells_length n c m es m' (LETVAR {e = e} {c = c'} {m₁ = m₁} {es = es'} d) =
    let inner = spells_length (n + 1) c' (m ++ value e m ∷ []) es' m₁ d in
    length-take-le (length m) m₁ (omega (arith, inner, length-append m (value e m ∷ [])))

-- No steps are added to a run itself.
added_none : (a : Past) → Added a [] a
added_none a = record { steps = sym (append-nil a.steps); limit = refl; extents = refl }

-- Steps are added one list after another.
added_both : (a b d : Past) (es fs : List Step) → Added a es b → Added b fs d → Added a (es ++ fs) d
added_both a b d es fs h k = record {
  steps = k.steps ∙ ap (λ l. l ++ fs) h.steps ∙ append_assoc a.steps es fs;
  limit = k.limit ∙ h.limit;
  extents = k.extents ∙ h.extents;
}

-- A step that isn't taken leaves a command before its first step.
pub cut : (n : ℕ) (e : Expression) (c : Command) (a b : Past) → IsStep c → Met n e a b None → Ran n c a b false
cut n e c a b is m = ([], BEFORE is, m.0, m.1)

-- An assignment.
pub assigned : (n l : ℕ) (s : Span) (e : Expression) (x : ℤ) (a b d : Past) → Met n e a b (Some x) →
    d.words ≡ set b.words l x → d.steps ≡ b.steps → d.limit ≡ b.limit → d.extents ≡ b.extents →
    Ran n (Assign l s e) a d true
assigned n l s e x a b d m is steps limit extents = (
  step n e a.words ∷ [],
  subst (Spells n (Assign l s e) a.words (step n e a.words ∷ []))
      (sym (is ∙ ap (λ y. set y l x) m.1 ∙ ap (set a.words l) m.0)) ASSIGN,
  record { steps = steps ∙ m.2.steps; limit = limit ∙ m.2.limit; extents = extents ∙ m.2.extents },
  omega (arith, ap length steps, limit, m.3),
)

-- The end of the body of a letvar is that of the letvar, whose word is dropped again.
pub letvar_ran : (g : Bool) (n : ℕ) (e : Expression) (c : Command) (x : ℤ) (a b b' d d' : Past) (k : ℕ) →
    Met n e a b (Some x) → b'.words ≡ b.words ++ x ∷ [] → b'.steps ≡ b.steps → b'.limit ≡ b.limit →
    b'.extents ≡ b.extents → Ran (n + 1) c b' d g → k ≡ length b.words → d'.words ≡ take k d.words →
    d'.steps ≡ d.steps → d'.limit ≡ d.limit → d'.extents ≡ d.extents → Ran n (Letvar e c) a d' g
letvar_ran true n e c x a b b' d d' k m is steps limit table h long cut' steps' limit' table' = (
  step n e a.words ∷ h.0,
  subst (Spells n (Letvar e c) a.words (step n e a.words ∷ h.0))
      (sym (cut' ∙ ap (λ i. take i d.words) (long ∙ ap length m.1)))
      (LETVAR (subst (λ y. Spells (n + 1) c y h.0 d.words)
      (is ∙ ap (λ y. y ++ x ∷ []) m.1 ∙ ap (λ y. a.words ++ y ∷ []) m.0) h.1)),
  added_both a b d' (step n e a.words ∷ []) h.0 m.2
      (record {
        steps = steps' ∙ h.2.steps ∙ ap (λ y. y ++ h.0) steps;
        limit = limit' ∙ h.2.limit ∙ limit;
        extents = table' ∙ h.2.extents ∙ table;
      }),
  omega (arith, ap length steps', limit', h.3),
)
letvar_ran false n e c x a b b' d d' k m is steps limit table h long cut' steps' limit' table' = (
  step n e a.words ∷ h.0,
  IN_LETVAR (subst (λ y. Begins (n + 1) c y h.0)
      (is ∙ ap (λ y. y ++ x ∷ []) m.1 ∙ ap (λ y. a.words ++ y ∷ []) m.0) h.1),
  added_both a b d' (step n e a.words ∷ []) h.0 m.2
      (record {
        steps = steps' ∙ h.2.steps ∙ ap (λ y. y ++ h.0) steps;
        limit = limit' ∙ h.2.limit ∙ limit;
        extents = table' ∙ h.2.extents ∙ table;
      }),
  omega (arith, ap length steps', limit', h.3),
)

-- A run of one command from one past leads to a run of another from a later one.
pub record Leads (n : ℕ) (c : Command) (a : Past) (n' : ℕ) (c' : Command) (b : Past) : Type 0 where
  pub done : List Step
  pub added : Added a done b
  pub ready : IsReady n' c' b
  pub spelled : (es : List Step) (m' : Store) → Spells n' c' b.words es m' → Spells n c a.words (done ++ es) m'
  pub begun : (es : List Step) → Begins n' c' b.words es → Begins n c a.words (done ++ es)

-- The end of the second run is the end of the first.
pub leads_ran : (g : Bool) (n : ℕ) (c : Command) (a : Past) (n' : ℕ) (c' : Command) (b d : Past) →
    Leads n c a n' c' b → Ran n' c' b d g → Ran n c a d g
leads_ran true n c a n' c' b d l h =
    (l.done ++ h.0, l.spelled h.0 d.words h.1, added_both a b d l.done h.0 l.added h.2, h.3)
leads_ran false n c a n' c' b d l h =
    (l.done ++ h.0, l.begun h.0 h.1, added_both a b d l.done h.0 l.added h.2, h.3)

-- After the step of an expression a command of the same locations can be run.
pub ready_after : (n k : ℕ) (e : Expression) (c : Command) (x : ℤ) (a b : Past) → Met n e a b (Some x) →
    HasPlaces (length a.words) c → k + sites c ≤ max_size → HasExtents a.extents k c → IsReady k c b
ready_after n k e c x a b m places few table = record {
  places = subst (λ y. HasPlaces (length y) c) (sym m.1) places;
  few = few;
  table = subst (λ y. HasExtents y k c) (sym m.2.extents) table;
  within = m.3;
}

-- The body of a letvar can be run after its word was added.
pub letvar_ready : (n : ℕ) (e : Expression) (c : Command) (x : ℤ) (a b b' : Past) → IsReady n (Letvar e c) a →
    Met n e a b (Some x) → b'.words ≡ b.words ++ x ∷ [] → b'.steps ≡ b.steps → b'.limit ≡ b.limit →
    b'.extents ≡ b.extents → IsReady (n + 1) c b'
letvar_ready n e c x a b b' r m is steps limit table = record {
  places = subst (λ k. HasPlaces k c) (sym (ap length (is ∙ ap (λ y. y ++ x ∷ []) m.1) ∙ length_push a.words x))
      r.places.1;
  few = omega (arith, r.few);
  table = subst (λ y. HasExtents y (n + 1) c) (sym (table ∙ m.2.extents)) r.table.1;
  within = omega (arith, ap length steps, limit, m.3);
}

-- A choice whose guard is true leads to its first branch.
pub leads_yes : (n : ℕ) (e : Expression) (p q : Command) (x : ℤ) (a b : Past) → IsReady n (If e p q) a →
    Met n e a b (Some x) → x ≢ pos 0 → Leads n (If e p q) a (n + 1) p b
leads_yes n e p q x a b r m z = record {
  done = step n e a.words ∷ [];
  added = m.2;
  ready = ready_after n (n + 1) e p x a b m r.places.1 (omega (arith, r.few)) r.table.1;
  spelled = λ es m' d. IF_TRUE (λ y. z (m.0 ∙ y)) (subst (λ w. Spells (n + 1) p w es m') m.1 d);
  begun = λ es d. IN_TRUE (λ y. z (m.0 ∙ y)) (subst (λ w. Begins (n + 1) p w es) m.1 d);
}

-- A choice whose guard is false leads to its second branch.
pub leads_no : (n k : ℕ) (e : Expression) (p q : Command) (x : ℤ) (a b : Past) → k ≡ n + 1 + sites p →
    IsReady n (If e p q) a → Met n e a b (Some x) → x ≡ pos 0 → Leads n (If e p q) a k q b
leads_no n k e p q x a b is r m z = subst (λ i. Leads n (If e p q) a i q b) (sym is) (record {
  done = step n e a.words ∷ [];
  added = m.2;
  ready = ready_after n (n + 1 + sites p) e q x a b m r.places.2 (omega (arith, r.few)) r.table.2;
  spelled = λ es m' d. IF_FALSE (sym m.0 ∙ z) (subst (λ w. Spells (n + 1 + sites p) q w es m') m.1 d);
  begun = λ es d. IN_FALSE (sym m.0 ∙ z) (subst (λ w. Begins (n + 1 + sites p) q w es) m.1 d);
})

module _ (n : ℕ) (c : Command) (a : Past) (n' : ℕ) (p q r : Command) (b : Past) (is : r ≡ Sequence p q)
    (l : Leads n c a n' r b) where
  -- The rest is a sequence that can be run.
  ready : IsReady n' (Sequence p q) b
  ready = subst (λ y. IsReady n' y b) is l.ready

  -- The first command of a sequence can be run.
  pub first_ready : IsReady n' p b
  first_ready = record {
    places = ready.places.0;
    few = omega (arith, ready.few);
    table = ready.table.0;
    within = ready.within;
  }

  -- After the first command of a sequence comes the rest.
  pub leads_next : (d : Past) (k : ℕ) → Ran n' p b d true → k ≡ n' + sites p → Leads n c a k q d
  leads_next d k h at = subst (λ i. Leads n c a i q d) (sym at) (record {
    done = l.done ++ h.0;
    added = added_both a b d l.done h.0 l.added h.2;
    ready = record {
      places = subst (λ i. HasPlaces i q) (sym (spells_length n' p b.words h.0 d.words h.1)) ready.places.1;
      few = omega (arith, ready.few);
      table = subst (λ y. HasExtents y (n' + sites p) q) (sym h.2.extents) ready.table.1;
      within = h.3;
    };
    spelled = λ es m' k'. subst (λ y. Spells n c a.words y m') (sym (append_assoc l.done h.0 es))
        (l.spelled (h.0 ++ es) m' (subst (λ y. Spells n' y b.words (h.0 ++ es) m') (sym is) (COMPOSE h.1 k')));
    begun = λ es k'. subst (λ y. Begins n c a.words y) (sym (append_assoc l.done h.0 es))
        (l.begun (h.0 ++ es) (subst (λ y. Begins n' y b.words (h.0 ++ es)) (sym is) (IN_SECOND h.1 k')));
  })

  -- The first command of a sequence is cut.
  pub leads_stop : (d : Past) → Ran n' p b d false → Ran n c a d false
  leads_stop d h = leads_ran false n c a n' r b d l
      (h.0, subst (λ y. Begins n' y b.words h.0) (sym is) (IN_FIRST h.1), h.2, h.3)

module _ (c : Cmd) (n : ℕ) (b d : Past) (r : IsReady n (command c) b) (h : Ran n (command c) b d true) where
  -- The site of a command that was run is in the table.
  pub next_inside : n < length d.extents
  next_inside = subst (λ t. n < length t) (sym h.2.extents) (site_inside b.extents n c r.table)

  -- The extent at the site of a command that was run ends where the next command begins.
  pub next_site : (x : Extent) → x ≡ get_or d.extents n x → x.after ≡ n + sites (command c)
  next_site x is = site_after b.extents n c r.table x (is ∙ ap (λ t. get_or t n x) h.2.extents)

module _ (n : ℕ) (e : Expression) (p q : Command) (x : ℤ) (a b : Past) (r : IsReady n (If e p q) a)
    (m : Met n e a b (Some x)) where
  -- The extent at the site of a choice has the first site of its second branch.
  pub second_site : (y : Extent) → y ≡ get_or b.extents n y → y.second ≡ n + 1 + sites p
  second_site y is = ap (λ (z : Extent). z.second) (is ∙ ap (λ t. get_or t n y) m.2.extents ∙ r.table.0.extent_is y)

-- Nothing is left to run.
pub leads_end : (n : ℕ) (c : Command) (a : Past) (n' : ℕ) (r : Command) (b : Past) → r ≡ Skip →
    Leads n c a n' r b → Ran n c a b true
leads_end n c a n' r b is l = leads_ran true n c a n' r b b l
    ([], subst (λ y. Spells n' y b.words [] b.words) (sym is) NOTHING, added_none b, l.ready.within)

module _ (n : ℕ) (e : Expression) (c : Command) (x : ℤ) (a b b' : Past) (l : Leads n (While e c) a n (While e c) b)
    (m : Met n e b b' (Some x)) where
  -- A loop ends with its guard.
  pub loop_ends : x ≡ pos 0 → Ran n (While e c) a b' true
  loop_ends z = leads_ran true n (While e c) a n (While e c) b b' l (
    step n e b.words ∷ [],
    subst (Spells n (While e c) b.words (step n e b.words ∷ [])) (sym m.1) (WHILE_FALSE (sym m.0 ∙ z)),
    m.2,
    m.3,
  )

  -- A turn of a loop is cut.
  pub turn_cut : (d : Past) → x ≢ pos 0 → Ran (n + 1) c b' d false → Ran n (While e c) a d false
  turn_cut d z h = leads_ran false n (While e c) a n (While e c) b d l (
    step n e b.words ∷ h.0,
    IN_TURN (λ y. z (m.0 ∙ y)) (subst (λ w. Begins (n + 1) c w h.0) m.1 h.1),
    added_both b b' d (step n e b.words ∷ []) h.0 m.2 h.2,
    h.3,
  )

  -- After a turn of a loop comes the loop.
  pub leads_turn : (d : Past) → x ≢ pos 0 → Ran (n + 1) c b' d true → Leads n (While e c) a n (While e c) d
  leads_turn d z h =
      let first = step n e b.words ∷ h.0 in
      let turn = subst (λ w. Spells (n + 1) c w h.0 d.words) m.1 h.1 in record {
        done = l.done ++ first;
        added = added_both a b d l.done first l.added
            (added_both b b' d (step n e b.words ∷ []) h.0 m.2 h.2);
        ready = record {
          places = subst (λ i. HasPlaces i (While e c))
              (sym (spells_length (n + 1) c b'.words h.0 d.words h.1 ∙ ap length m.1)) l.ready.places;
          few = l.ready.few;
          table = subst (λ y. HasExtents y n (While e c)) (sym (h.2.extents ∙ m.2.extents)) l.ready.table;
          within = h.3;
        };
        spelled = λ es m' k. subst (λ y. Spells n (While e c) a.words y m') (sym (append_assoc l.done first es))
            (l.spelled (first ++ es) m' (WHILE_TRUE (λ y. z (m.0 ∙ y)) turn k));
        begun = λ es k. subst (λ y. Begins n (While e c) a.words y) (sym (append_assoc l.done first es))
            (l.begun (first ++ es) (IN_TURNS (λ y. z (m.0 ∙ y)) turn k));
      }

-- A loop is cut before its guard.
pub loop_cut : (n : ℕ) (e : Expression) (c : Command) (a b d : Past) → Leads n (While e c) a n (While e c) b →
    Met n e b d None → Ran n (While e c) a d false
loop_cut n e c a b d l m = leads_ran false n (While e c) a n (While e c) b d l (cut n e (While e c) b d tt m)
