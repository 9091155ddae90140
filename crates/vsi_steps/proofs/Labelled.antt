-- Labels are classes, and stores keep their form.
use Rattle.std.proofs.Common.{◌≡◌, ℕ, ◌+◌, ◌<◌, [], ◌∷◌, ◌++◌, length, take, set, get_or, ℤ, sym, ap, ◌∙◌, subst, ⊎_elim, arith, length-set}
use Rattle.std.proofs.lemmas.List.{get_or_append_left, get_or-set_same, get_or-set_other, get_or-take, get_or_push, length_push, length-take-le}
use Rattle.std.proofs.lemmas.Bool.{cases_eq, cases_lt}
use Rattle.vsi_lattice.specs.Order.{Lattice, IsLattice, IsClass, Below, IsJoin}
use Rattle.vsi_scope.specs.Language.{Expression, Number, Location, Operator, Command, While, letvars, HasLocations, HasPlaces}
use Rattle.vsi_scope.specs.Meaning.{Store, value}
use Rattle.vsi_types.specs.Typing.{Locations}
use Rattle.vsi_steps.specs.Labels.{HasLabel, IsStored, IsLabelled}
use Rattle.vsi_steps.specs.declared.labels.Rule.{Rule}
use Rattle.vsi_steps.specs.Monitor.{Outcome, Halted, Monitored, NOTHING, ASSIGN, UPGRADE, MARK, COMPOSE, COMPOSE_STOP, IF_TRUE, IF_FALSE, IF_MARK, WHILE_TRUE, WHILE_STOP, WHILE_FALSE, WHILE_MARK, LETVAR, LETVAR_STOP}
use Rattle.vsi_steps.proofs.Computing.{IfHalted}

module _ (L : Lattice) (laws : IsLattice L) where
  -- The label of an expression is a class.
  pub label_class : (k : ℕ) (m : Store) (q : Locations) → IsLabelled L k m q → (e : Expression) (t : ℕ) →
      HasLocations k e → HasLabel L q e t → IsClass L t
  label_class k m q fit (Number z) t has h = subst (IsClass L) (sym h) laws.bottom_within
  label_class k m q fit (Location l s) t has h = subst (IsClass L) (sym h) (fit.classes l has)
  label_class k m q fit (Operator o a b) t has h = h.4.within

  -- Only one class is the join of two.
  pub one_join : (a b c d : ℕ) → IsJoin L.count (Below L) a b c → IsJoin L.count (Below L) a b d → c ≡ d
  one_join a b c d h k = laws.antisymmetric c d h.within k.within (h.least d k.within k.left k.right)
      (k.least c h.within h.left h.right)

  -- Only one class is the label of what is stored.
  pub one_stored : (t pc class v w : ℕ) → IsStored L t pc class v → IsStored L t pc class w → v ≡ w
  one_stored t pc class v w h k = laws.antisymmetric v w h.within k.within
      (h.least w k.within k.value k.counter k.variable) (k.least v h.within h.value h.counter h.variable)

  -- A store in which one word and its label are replaced.
  pub fit_set : (k : ℕ) (m : Store) (q : Locations) → IsLabelled L k m q → (l : ℕ) → l < k → (x : ℤ) (v : ℕ) →
      IsClass L v → IsLabelled L k (set m l x) (set q l v)
  fit_set k m q fit l lt x v w = record {
    words = length-set m l x ∙ fit.words;
    labels = length-set q l v ∙ fit.labels;
    classes = λ l' lt'. ⊎_elim
        (λ is. subst (IsClass L) (sym (ap (λ i. get_or (set q l v) i 0) is
        ∙ get_or-set_same q l v 0 (subst (λ i. l < i) (sym fit.labels) lt))) w)
        (λ other. subst (IsClass L) (sym (get_or-set_other q l l' v 0 other)) (fit.classes l' lt'))
        (cases_eq l' l);
  }

  -- A store with one more word and its label.
  pub fit_more : (k : ℕ) (m : Store) (q : Locations) → IsLabelled L k m q → (x : ℤ) (v : ℕ) → IsClass L v →
      IsLabelled L (k + 1) (m ++ x ∷ []) (q ++ v ∷ [])
  fit_more k m q fit x v w = record {
    words = length_push m x ∙ ap (λ i. i + 1) fit.words;
    labels = length_push q v ∙ ap (λ i. i + 1) fit.labels;
    classes = λ l lt. ⊎_elim
        (λ in'. subst (IsClass L) (sym (get_or_append_left q (v ∷ []) 0 l (subst (λ i. l < i) (sym fit.labels) in')))
        (fit.classes l in'))
        (λ out. subst (IsClass L) (sym (get_or_push q v 0 l (omega (arith, fit.labels)))) w)
        (cases_lt l k);
  }

  -- A store without its last word.
  pub fit_less : (k i j : ℕ) (m : Store) (q : Locations) → i ≡ k → j ≡ k → IsLabelled L (k + 1) m q →
      IsLabelled L k (take i m) (take j q)
  fit_less k i j m q is js fit = record {
    words = length-take-le i m (omega (arith, fit.words)) ∙ is;
    labels = length-take-le j q (omega (arith, fit.labels)) ∙ js;
    classes = λ l lt. subst (IsClass L) (sym (get_or-take j q l 0 (subst (λ i. l < i) (sym js) lt)))
        (fit.classes l (omega arith));
  }

  -- An expression has at most one label.
  pub one_label : (q : Locations) (e : Expression) (t t' : ℕ) → HasLabel L q e t → HasLabel L q e t' → t ≡ t'
  one_label q (Number z) t t' h k = h ∙ sym k
  one_label q (Location l s) t t' h k = h ∙ sym k
  one_label q (Operator o a b) t t' h k =
      let e = one_label q a h.0 k.0 h.2 k.2 in
      let e' = one_label q b h.1 k.1 h.3 k.3 in
      one_join h.0 h.1 t t' h.4 (subst (λ x. IsJoin L.count (Below L) h.0 x t') (sym e')
      (subst (λ x. IsJoin L.count (Below L) x k.1 t') (sym e) k.4))

module _ (R : Rule) (L : Lattice) (laws : IsLattice L) (classes : ℕ → ℕ) where
  -- A run keeps the form of its store.
  pub kept : (f : Locations) (k pc n : ℕ) (c : Command) (m : Store) (q : Locations) (r : Outcome) →
      HasPlaces k c → IsLabelled L k m q → Monitored R L classes f pc n c m q r →
      IfHalted r (λ m' q'. IsLabelled L k m' q')
  kept f k pc n c m q r has fit NOTHING = fit
  kept f k pc n c m q r has fit (ASSIGN {l = l} {v = v} {e = e} up t is) =
      fit_set L laws k m q fit l has.0 (value e m) v is.within
  kept f k pc n c m q r has fit (UPGRADE by not) = tt
  kept f k pc n c m q r has fit (MARK {l = l} {e = e} by not) =
      fit_set L laws k m q fit l has.0 (value e m) L.top laws.top_within
  kept f k pc n c m q r has fit (COMPOSE {q₁ = q₁} {a = a} {b = b} {m₁ = m₁} d d') =
      kept f k pc (n + letvars a) b m₁ q₁ r has.1 (kept f k pc n a m q (Halted m₁ q₁) has.0 fit d) d'
  kept f k pc n c m q r has fit (COMPOSE_STOP d) = tt
  kept f k pc n c m q r has fit (IF_TRUE {u = u} {a = a} z clean t is d) = kept f k u n a m q r has.1 fit d
  kept f k pc n c m q r has fit (IF_FALSE {u = u} {a = a} {b = b} z clean t is d) =
      kept f k u (n + letvars a) b m q r has.2 fit d
  kept f k pc n c m q r has fit (IF_MARK reads) = tt
  kept f k pc n c m q r has fit (WHILE_TRUE {q₁ = q₁} {u = u} {e = e} {c = c'} {m₁ = m₁} z clean t is d d') =
      kept f k u n (While e c') m₁ q₁ r has (kept f k u n c' m q (Halted m₁ q₁) has.1 fit d) d'
  kept f k pc n c m q r has fit (WHILE_STOP z clean t is d) = tt
  kept f k pc n c m q r has fit (WHILE_FALSE z clean) = fit
  kept f k pc n c m q r has fit (WHILE_MARK reads) = tt
  kept f k pc n c m q r has fit (LETVAR {q₁ = q₁} {v = v} {e = e} {c = c'} {m₁ = m₁} t is d) =
      fit_less L laws k (length m) (length q) m₁ q₁ fit.words fit.labels
      (kept (f ++ classes n ∷ []) (k + 1) pc (n + 1) c' (m ++ value e m ∷ []) (q ++ v ∷ []) (Halted m₁ q₁) has.1
      (fit_more L laws k m q fit (value e m) v is.within) d)
  kept f k pc n c m q r has fit (LETVAR_STOP t is d) = tt
