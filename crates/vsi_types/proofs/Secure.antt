-- Simple security, confinement, noninterference, and endings under the strict profile.
use Rattle.std.proofs.Common.{◌≡◌, ◌≢◌, ℕ, zero, suc, ◌+◌, ◌<◌, Bool, true, false, [], ◌∷◌, ◌++◌, length, take, get_or, Option, Some, None, ℤ, pos, refl, sym, ap, ◌∙◌, subst, ⊎_elim, arith}
use Rattle.std.specs.Prelude.{slice_index, slice_set}
use Rattle.std.specs.List.{All}
use Rattle.std.proofs.lemmas.List.{get_or_append_left, get_or-set_same, get_or-set_other, get_or-take, get_or_push, length_push}
use Rattle.std.proofs.lemmas.List.Elements.{All-push, All-get_or}
use Rattle.std.proofs.lemmas.Bool.{cases_eq, cases_lt, false≢true}
use Rattle.vsi_lattice.specs.Order.{Lattice, IsLattice, IsClass, Below}
use Rattle.vsi_scope.specs.Language.{Expression, Command, If, While, letvars}
use Rattle.vsi_syntax.specs.Operators.{apply}
use Rattle.vsi_scope.specs.Meaning.{Store, value, and_then, turns, runs, Evaluates}
use Rattle.vsi_scope.proofs.Evaluation.{same_answer, no_answer, between, zero_cases, at_other, at_none, larger_keeps, dropped, length_kept}
use Rattle.vsi_types.specs.declared.rules.Profile.{Profile}
use Rattle.vsi_types.specs.Typing.{Locations, VARLOC, HasData, INT, R_VAL, ARITH, SUBTYPE, HasCmd, EMPTY, ASSIGN, COMPOSE, IF, WHILE, LETVAR, SUBTYPE_CMD}
use Rattle.vsi_types.specs.Security.{Agree, IsReadIn, SimpleSecurity, Confinement, Noninterference}
use Rattle.vsi_types.proofs.Programs.{within}
use Rattle.vsi_types.proofs.Declared.{retyped, own, own_same, own_within}

-- A class is at or below another, or it isn't.
pub below_cases : {A : Type 0} (L : Lattice) (a b : ℕ) → (Below L a b → A) → ((Below L a b → ⊥) → A) → A
below_cases {A} L a b f g = go (L.leq a b) refl
  where
    go : (x : Bool) → L.leq a b ≡ x → A
    go true e = f e
    go false e = g (λ h. false≢true (sym e ∙ h))

module _ (L : Lattice) (laws : IsLattice L) where
  module _ (q : Locations) (all : All (IsClass L) q) where
    -- The class of a location is a class of the lattice.
    pub at_location : (l : ℕ) → l < length q → IsClass L (slice_index q l)
    at_location l lt = All-get_or (IsClass L) q l 0 lt all

    -- The type of an expression is a class of the lattice.
    pub data_class : (e : Expression) (t : ℕ) → HasData L q e t → IsClass L t
    data_class e t (INT w) = w
    data_class e t (R_VAL (VARLOC {l = l} lt)) = at_location l lt
    data_class e t (ARITH {a = a} d d') = data_class a t d
    data_class e t (SUBTYPE le w d) = w

    -- Stores that agree at a class agree at every lower one.
    pub agree_down : (t a : ℕ) → IsClass L t → IsClass L a → Below L t a → (m m' : Store) → Agree L q a m m' →
        Agree L q t m m'
    agree_down t a kt ka le m m' h l lt b = h l lt
        (laws.transitive (slice_index q l) t a (at_location l lt) kt ka b le)

    -- The value of an expression of type t is the same in stores that agree at t.
    pub value_same : (e : Expression) (t : ℕ) → HasData L q e t → (m m' : Store) → Agree L q t m m' →
        value e m ≡ value e m'
    value_same e t (INT w) m m' h = refl
    value_same e t (R_VAL (VARLOC {l = l} lt)) m m' h = h l lt (laws.reflexive (slice_index q l) (at_location l lt))
    value_same e t (ARITH {o = o} {a = a} {b = b} d d') m m' h =
        ap (λ x. apply o x (value b m)) (value_same a t d m m' h)
        ∙ ap (apply o (value a m')) (value_same b t d' m m' h)
    value_same e t (SUBTYPE {t = t₁} le w d) m m' h =
        value_same e t₁ d m m' (agree_down t₁ t (data_class e t₁ d) w le m m' h)

  -- A command leaves every location unchanged that isn't at or above t.
  abbrev Unchanged : Locations → ℕ → Store → Store → Type 0
  Unchanged q t m m' = (l : ℕ) → l < length q → (Below L t (slice_index q l) → ⊥) →
      get_or m' l (pos 0) ≡ get_or m l (pos 0)

  -- Equal stores are unchanged.
  unchanged_same : (q : Locations) (t : ℕ) (m m' : Store) → m ≡ m' → Unchanged q t m m'
  unchanged_same q t m m' e l lt h = ap (λ x. get_or x l (pos 0)) (sym e)

  -- A location that two commands leave unchanged is unchanged by both together.
  unchanged_on : (q : Locations) (t : ℕ) (m m₁ m' : Store) → Unchanged q t m m₁ → Unchanged q t m₁ m' →
      Unchanged q t m m'
  unchanged_on q t m m₁ m' f g l lt h = g l lt h ∙ f l lt h

  -- The turns of a loop leave a location unchanged if every turn of its body does.
  turns_confined : (q : Locations) (t : ℕ) (j : ℕ) (guard : Store → ℤ) (f : Store → Option Store) →
      ((m m' : Store) → length m ≡ length q → f m ≡ Some m' → (length m' ≡ length q) × Unchanged q t m m') →
      (m m' : Store) → length m ≡ length q → turns j guard f m ≡ Some m' → Unchanged q t m m'
  turns_confined q t zero guard f body m m' len e =
      zero_cases (guard m)
      (λ z. unchanged_same q t m m' (same_answer m m' (sym (at_none (guard m) (Some m) None z) ∙ e)))
      (λ z. no_answer m' (sym (at_other (guard m) (Some m) None z) ∙ e))
  turns_confined q t (suc j) guard f body m m' len e =
      zero_cases (guard m)
      (λ z. unchanged_same q t m m' (same_answer m m'
      (sym (at_none (guard m) (Some m) (and_then (f m) (turns j guard f)) z) ∙ e)))
      (λ z. let b = between (f m) (turns j guard f) m'
      (sym (at_other (guard m) (Some m) (and_then (f m) (turns j guard f)) z) ∙ e) in
      let s = body m b.store len b.first in
      unchanged_on q t m b.store m' s.1 (turns_confined q t j guard f body b.store m' s.0 b.second))

  module _ (P : Profile) (classes : ℕ → ℕ) (within' : (v : ℕ) → IsClass L (classes v)) where
    -- One more location has a class of the lattice.
    pub all_more : (q : Locations) → All (IsClass L) q → (n : ℕ) → All (IsClass L) (q ++ classes n ∷ [])
    all_more q all n = All-push (IsClass L) q (classes n) all (within' n)

    -- The type of a command is a class of the lattice.
    pub cmd_class : (q : Locations) → All (IsClass L) q → (n : ℕ) (c : Command) (t : ℕ) →
        HasCmd L P classes q n c t → IsClass L t
    cmd_class q all n c t (EMPTY w) = w
    cmd_class q all n c t (ASSIGN {e = e} v d) = data_class q all e t d
    cmd_class q all n c t (COMPOSE {a = a} d d') = cmd_class q all n a t d
    cmd_class q all n c t (IF {e = e} d da db) = data_class q all e t d
    cmd_class q all n c t (WHILE {e = e} is d dc) = data_class q all e t d
    cmd_class q all n c t (LETVAR {c = c'} d dc) = cmd_class _ (all_more q all n) (n + 1) c' t dc
    cmd_class q all n c t (SUBTYPE_CMD le w d) = w

    -- The word of a location below a new one.
    old_word : (m : Store) (x : ℤ) (l : ℕ) → l < length m → get_or (m ++ x ∷ []) l (pos 0) ≡ get_or m l (pos 0)
    old_word m x l lt = get_or_append_left m (x ∷ []) (pos 0) l lt

    -- The class of a location below a new one.
    old_class : (q : Locations) (n l : ℕ) → l < length q → slice_index (q ++ classes n ∷ []) l ≡ slice_index q l
    old_class q n l lt = get_or_append_left q (classes n ∷ []) 0 l lt

    -- One more word and one more location.
    pub longer : (q : Locations) (n : ℕ) (m : Store) (x : ℤ) → length m ≡ length q →
        length (m ++ x ∷ []) ≡ length (q ++ classes n ∷ [])
    longer q n m x len = length_push m x ∙ ap (λ k. k + 1) len ∙ sym (length_push q (classes n))

    -- A location still exists with one more.
    in_longer : (q : Locations) (n l : ℕ) → l < length q → l < length (q ++ classes n ∷ [])
    in_longer q n l lt = omega (arith, length_push q (classes n))

    -- A command of type t leaves the locations unchanged that are not at or above t.
    pub confined : (q : Locations) → All (IsClass L) q → (n : ℕ) (c : Command) (t : ℕ) →
        HasCmd L P classes q n c t → (k : ℕ) (m m' : Store) → length m ≡ length q → runs k c m ≡ Some m' →
        Unchanged q t m m'
    confined q all n c t (EMPTY w) k m m' len e = unchanged_same q t m m' (same_answer m m' e)
    confined q all n c t (ASSIGN {s = s} {e = x} (VARLOC {l = l} lt) d) k m m' len e = λ l' lt' h.
        let other : l' ≢ l = λ is. h (subst (λ i. Below L t (slice_index q i)) (sym is)
        (laws.reflexive t (at_location q all l lt))) in
        ap (λ y. get_or y l' (pos 0)) (sym (same_answer _ m' e)) ∙ get_or-set_other m l l' (value x m) (pos 0) other
    confined q all n c t (COMPOSE {a = a} {b = b} d d') k m m' len e =
        let s = between (runs k a m) (runs k b) m' e in
        unchanged_on q t m s.store m' (confined q all n a t d k m s.store len s.first)
        (confined q all (n + letvars a) b t d' k s.store m' (length_kept a k m s.store s.first ∙ len) s.second)
    confined q all n c t (IF {e = x} {a = a} {b = b} dg d d') k m m' len e =
        zero_cases (value x m)
        (λ z. confined q all (n + letvars a) b t d' k m m' len
        (sym (at_none (value x m) (runs k b m) (runs k a m) z) ∙ e))
        (λ z. confined q all n a t d k m m' len (sym (at_other (value x m) (runs k b m) (runs k a m) z) ∙ e))
    confined q all n c t (WHILE {e = x} {c = c'} is dg d) k m m' len e =
        turns_confined q t k (value x) (runs k c')
        (λ m₁ m₂ len₁ f. (length_kept c' k m₁ m₂ f ∙ len₁, confined q all n c' t d k m₁ m₂ len₁ f)) m m' len e
    confined q all n c t (LETVAR {e = x} {c = c'} dg d) k m m' len e =
        let s = dropped (length m) (runs k c' (m ++ value x m ∷ [])) m' e in
        let inner = confined (q ++ classes n ∷ []) (all_more q all n) (n + 1) c' t d k (m ++ value x m ∷ []) s.store
        (longer q n m (value x m) len) s.before in
        λ l lt h.
        let lt' : l < length m = subst (λ i. l < i) (sym len) lt in
        ap (λ y. get_or y l (pos 0)) s.after
        ∙ get_or-take (length m) s.store l (pos 0) lt'
        ∙ inner l (in_longer q n l lt) (λ b. h (subst (Below L t) (old_class q n l lt) b))
        ∙ old_word m (value x m) l lt'
    confined q all n c t (SUBTYPE_CMD {t' = t'} le w d) k m m' len e = λ l lt h.
        confined q all n c t' d k m m' len e l lt
        (λ b. h (laws.transitive t t' (slice_index q l) w (cmd_class q all n c t' d) (at_location q all l lt) le b))

    -- A command whose type isn't at or below a keeps agreement at a.
    high : (q : Locations) (all : All (IsClass L) q) (n : ℕ) (c : Command) (t : ℕ) → HasCmd L P classes q n c t →
        (a : ℕ) → IsClass L a → (Below L t a → ⊥) → (k : ℕ) (m₁ m₂ m₁' m₂' : Store) → length m₁ ≡ length q →
        length m₂ ≡ length q → Agree L q a m₁ m₂ → runs k c m₁ ≡ Some m₁' → runs k c m₂ ≡ Some m₂' →
        Agree L q a m₁' m₂'
    high q all n c t d a ka not k m₁ m₂ m₁' m₂' len₁ len₂ h e₁ e₂ = λ l lt b.
        let far : Below L t (slice_index q l) →
        ⊥ = λ u. not (laws.transitive t (slice_index q l) a (cmd_class q all n c t d) (at_location q all l lt)
        ka u b) in
        confined q all n c t d k m₁ m₁' len₁ e₁ l lt far ∙ h l lt b
        ∙ sym (confined q all n c t d k m₂ m₂' len₂ e₂ l lt far)

    -- Stores that agree still do with one more word that agrees.
    pub agree_more : (q : Locations) (n a : ℕ) (m₁ m₂ : Store) (x₁ x₂ : ℤ) → length m₁ ≡ length q →
        length m₂ ≡ length q → Agree L q a m₁ m₂ → (Below L (classes n) a → x₁ ≡ x₂) →
        Agree L (q ++ classes n ∷ []) a (m₁ ++ x₁ ∷ []) (m₂ ++ x₂ ∷ [])
    agree_more q n a m₁ m₂ x₁ x₂ len₁ len₂ h same = λ l lt b.
        ⊎_elim
        (λ in'. old_word m₁ x₁ l (subst (λ i. l < i) (sym len₁) in')
        ∙ h l in' (subst (λ c. Below L c a) (old_class q n l in') b)
        ∙ sym (old_word m₂ x₂ l (subst (λ i. l < i) (sym len₂) in')))
        (λ out.
        let at : length q ≡ l = omega (arith, length_push q (classes n)) in
        get_or_push m₁ x₁ (pos 0) l (len₁ ∙ at)
        ∙ same (subst (λ c. Below L c a) (get_or_push q (classes n) 0 l at) b)
        ∙ sym (get_or_push m₂ x₂ (pos 0) l (len₂ ∙ at)))
        (cases_lt l (length q))

    -- Stores that agree still do without their last words.
    agree_less : (q : Locations) (n a k₁ k₂ : ℕ) (m₁ m₂ : Store) → k₁ ≡ length q → k₂ ≡ length q →
        Agree L (q ++ classes n ∷ []) a m₁ m₂ → Agree L q a (take k₁ m₁) (take k₂ m₂)
    agree_less q n a k₁ k₂ m₁ m₂ len₁ len₂ h = λ l lt b.
        get_or-take k₁ m₁ l (pos 0) (subst (λ i. l < i) (sym len₁) lt)
        ∙ h l (in_longer q n l lt) (subst (λ c. Below L c a) (sym (old_class q n l lt)) b)
        ∙ sym (get_or-take k₂ m₂ l (pos 0) (subst (λ i. l < i) (sym len₂) lt))

    -- Stores equal to stores that agree also agree.
    agree_same : (q : Locations) (a : ℕ) (m₁ m₂ m₁' m₂' : Store) → m₁ ≡ m₁' → m₂ ≡ m₂' → Agree L q a m₁ m₂ →
        Agree L q a m₁' m₂'
    agree_same q a m₁ m₂ m₁' m₂' e₁ e₂ h = λ l lt b. ap (λ y. get_or y l (pos 0)) (sym e₁) ∙ h l lt b
        ∙ ap (λ y. get_or y l (pos 0)) e₂

    -- The turns of a loop keep agreement if every turn of its body does.
    turns_secure : (q : Locations) (a j : ℕ) (guard : Store → ℤ) (f : Store → Option Store) →
        ((m₁ m₂ : Store) → Agree L q a m₁ m₂ → guard m₁ ≡ guard m₂) →
        ((m m' : Store) → f m ≡ Some m' → length m' ≡ length m) →
        ((m₁ m₂ m₁' m₂' : Store) → length m₁ ≡ length q → length m₂ ≡ length q → Agree L q a m₁ m₂ →
        f m₁ ≡ Some m₁' → f m₂ ≡ Some m₂' → Agree L q a m₁' m₂') → (m₁ m₂ m₁' m₂' : Store) → length m₁ ≡ length q →
        length m₂ ≡ length q → Agree L q a m₁ m₂ → turns j guard f m₁ ≡ Some m₁' → turns j guard f m₂ ≡ Some m₂' →
        Agree L q a m₁' m₂'
    turns_secure q a zero guard f g len body m₁ m₂ m₁' m₂' len₁ len₂ h e₁ e₂ =
        let same = g m₁ m₂ h in
        zero_cases (guard m₁)
        (λ z. agree_same q a m₁ m₂ m₁' m₂'
        (same_answer m₁ m₁' (sym (at_none (guard m₁) (Some m₁) None z) ∙ e₁))
        (same_answer m₂ m₂' (sym (at_none (guard m₂) (Some m₂) None (sym same ∙ z)) ∙ e₂)) h)
        (λ z. no_answer m₁' (sym (at_other (guard m₁) (Some m₁) None z) ∙ e₁))
    turns_secure q a (suc j) guard f g len body m₁ m₂ m₁' m₂' len₁ len₂ h e₁ e₂ =
        let same = g m₁ m₂ h in
        let rest₁ = and_then (f m₁) (turns j guard f) in
        let rest₂ = and_then (f m₂) (turns j guard f) in
        zero_cases (guard m₁)
        (λ z. agree_same q a m₁ m₂ m₁' m₂'
        (same_answer m₁ m₁' (sym (at_none (guard m₁) (Some m₁) rest₁ z) ∙ e₁))
        (same_answer m₂ m₂' (sym (at_none (guard m₂) (Some m₂) rest₂ (sym same ∙ z)) ∙ e₂)) h)
        (λ z.
        let b₁ = between (f m₁) (turns j guard f) m₁' (sym (at_other (guard m₁) (Some m₁) rest₁ z) ∙ e₁) in
        let b₂ = between (f m₂) (turns j guard f) m₂'
        (sym (at_other (guard m₂) (Some m₂) rest₂ (λ y. z (same ∙ y))) ∙ e₂) in
        turns_secure q a j guard f g len body b₁.store b₂.store m₁' m₂' (len m₁ b₁.store b₁.first ∙ len₁)
        (len m₂ b₂.store b₂.first ∙ len₂)
        (body m₁ m₂ b₁.store b₂.store len₁ len₂ h b₁.first b₂.first) b₁.second b₂.second)

    -- Noninterference, for one number of turns.
    pub secure : (q : Locations) → All (IsClass L) q → (n : ℕ) (c : Command) (t : ℕ) → HasCmd L P classes q n c t →
        (a : ℕ) → IsClass L a → (k : ℕ) (m₁ m₂ m₁' m₂' : Store) → length m₁ ≡ length q → length m₂ ≡ length q →
        Agree L q a m₁ m₂ → runs k c m₁ ≡ Some m₁' → runs k c m₂ ≡ Some m₂' → Agree L q a m₁' m₂'
    secure q all n c t (EMPTY w) a ka k m₁ m₂ m₁' m₂' len₁ len₂ h e₁ e₂ =
        agree_same q a m₁ m₂ m₁' m₂' (same_answer m₁ m₁' e₁) (same_answer m₂ m₂' e₂) h
    secure q all n c t (ASSIGN {s = s} {e = x} (VARLOC {l = l} lt) d) a ka k m₁ m₂ m₁' m₂' len₁ len₂ h e₁ e₂ =
        agree_same q a (slice_set m₁ l (value x m₁)) (slice_set m₂ l (value x m₂)) m₁' m₂' (same_answer _ m₁' e₁)
        (same_answer _ m₂' e₂)
        (λ l' lt' b.
        ⊎_elim
        (λ is.
        let low = subst (λ i. Below L (slice_index q i) a) is b in
        let v = value_same q all x t d m₁ m₂ (agree_down q all t a (at_location q all l lt) ka low m₁ m₂ h) in
        let r₁ = get_or-set_same m₁ l (value x m₁) (pos 0) (subst (λ i. l < i) (sym len₁) lt) in
        let r₂ = get_or-set_same m₂ l (value x m₂) (pos 0) (subst (λ i. l < i) (sym len₂) lt) in
        ap (λ i. get_or (slice_set m₁ l (value x m₁)) i (pos 0)) is ∙ r₁ ∙ v ∙ sym r₂
        ∙ ap (λ i. get_or (slice_set m₂ l (value x m₂)) i (pos 0)) (sym is))
        (λ other. get_or-set_other m₁ l l' (value x m₁) (pos 0) other ∙ h l' lt' b
        ∙ sym (get_or-set_other m₂ l l' (value x m₂) (pos 0) other))
        (cases_eq l' l))
    secure q all n c t (COMPOSE {a = c₁} {b = c₂} d d') a ka k m₁ m₂ m₁' m₂' len₁ len₂ h e₁ e₂ =
        let b₁ = between (runs k c₁ m₁) (runs k c₂) m₁' e₁ in
        let b₂ = between (runs k c₁ m₂) (runs k c₂) m₂' e₂ in
        secure q all (n + letvars c₁) c₂ t d' a ka k b₁.store b₂.store m₁' m₂'
        (length_kept c₁ k m₁ b₁.store b₁.first ∙ len₁) (length_kept c₁ k m₂ b₂.store b₂.first ∙ len₂)
        (secure q all n c₁ t d a ka k m₁ m₂ b₁.store b₂.store len₁ len₂ h b₁.first b₂.first) b₁.second b₂.second
    secure q all n c t (IF {e = x} {a = c₁} {b = c₂} dg d d') a ka k m₁ m₂ m₁' m₂' len₁ len₂ h e₁ e₂ =
        below_cases L t a
        (λ le.
        let same = value_same q all x t dg m₁ m₂ (agree_down q all t a (data_class q all x t dg) ka le m₁ m₂ h) in
        zero_cases (value x m₁)
        (λ z. secure q all (n + letvars c₁) c₂ t d' a ka k m₁ m₂ m₁' m₂' len₁ len₂ h
        (sym (at_none (value x m₁) (runs k c₂ m₁) (runs k c₁ m₁) z) ∙ e₁)
        (sym (at_none (value x m₂) (runs k c₂ m₂) (runs k c₁ m₂) (sym same ∙ z)) ∙ e₂))
        (λ z. secure q all n c₁ t d a ka k m₁ m₂ m₁' m₂' len₁ len₂ h
        (sym (at_other (value x m₁) (runs k c₂ m₁) (runs k c₁ m₁) z) ∙ e₁)
        (sym (at_other (value x m₂) (runs k c₂ m₂) (runs k c₁ m₂) (λ y. z (same ∙ y))) ∙ e₂)))
        (λ not. high q all n (If x c₁ c₂) t (IF dg d d') a ka not k m₁ m₂ m₁' m₂' len₁ len₂ h e₁ e₂)
    secure q all n c t (WHILE {e = x} {c = c'} is dg d) a ka k m₁ m₂ m₁' m₂' len₁ len₂ h e₁ e₂ =
        below_cases L t a
        (λ le. turns_secure q a k (value x) (runs k c')
        (λ s₁ s₂ g. value_same q all x t dg s₁ s₂ (agree_down q all t a (data_class q all x t dg) ka le s₁ s₂ g))
        (λ s s' f. length_kept c' k s s' f)
        (λ s₁ s₂ s₁' s₂' l₁ l₂ g f₁ f₂. secure q all n c' t d a ka k s₁ s₂ s₁' s₂' l₁ l₂ g f₁ f₂)
        m₁ m₂ m₁' m₂' len₁ len₂ h e₁ e₂)
        (λ not. high q all n (While x c') t (WHILE is dg d) a ka not k m₁ m₂ m₁' m₂' len₁ len₂ h e₁ e₂)
    secure q all n c t (LETVAR {e = x} {c = c'} dg d) a ka k m₁ m₂ m₁' m₂' len₁ len₂ h e₁ e₂ =
        let s₁ = dropped (length m₁) (runs k c' (m₁ ++ value x m₁ ∷ [])) m₁' e₁ in
        let s₂ = dropped (length m₂) (runs k c' (m₂ ++ value x m₂ ∷ [])) m₂' e₂ in
        let more = agree_more q n a m₁ m₂ (value x m₁) (value x m₂) len₁ len₂ h
        (λ low. value_same q all x (classes n) dg m₁ m₂
        (agree_down q all (classes n) a (within' n) ka low m₁ m₂ h)) in
        let inner = secure (q ++ classes n ∷ []) (all_more q all n) (n + 1) c' t d a ka k (m₁ ++ value x m₁ ∷ [])
        (m₂ ++ value x m₂ ∷ []) s₁.store s₂.store (longer q n m₁ (value x m₁) len₁)
        (longer q n m₂ (value x m₂) len₂) more s₁.before s₂.before in
        agree_same q a (take (length m₁) s₁.store) (take (length m₂) s₂.store) m₁' m₂' (sym s₁.after) (sym s₂.after)
        (agree_less q n a (length m₁) (length m₂) s₁.store s₂.store len₁ len₂ inner)
    secure q all n c t (SUBTYPE_CMD {t' = t'} le w d) a ka k m₁ m₂ m₁' m₂' len₁ len₂ h e₁ e₂ =
        secure q all n c t' d a ka k m₁ m₂ m₁' m₂' len₁ len₂ h e₁ e₂

    -- The same for two different numbers of turns.
    pub secure_evaluations : (q : Locations) → All (IsClass L) q → (n : ℕ) (c : Command) (t : ℕ) →
        HasCmd L P classes q n c t → (a : ℕ) → IsClass L a → (m₁ m₂ m₁' m₂' : Store) → length m₁ ≡ length q →
        length m₂ ≡ length q → Agree L q a m₁ m₂ → Evaluates c m₁ m₁' → Evaluates c m₂ m₂' → Agree L q a m₁' m₂'
    secure_evaluations q all n c t d a ka m₁ m₂ m₁' m₂' len₁ len₂ h v₁ v₂ =
        let k = v₁.0 + v₂.0 in
        secure q all n c t d a ka k m₁ m₂ m₁' m₂' len₁ len₂ h (larger_keeps c v₁.0 k m₁ m₁' (omega arith) v₁.1)
        (larger_keeps c v₂.0 k m₂ m₂' (omega arith) v₂.1)

-- A location that an expression reads has a class of the lattice.
read_within : (L : Lattice) (laws : IsLattice L) (q : Locations) (all : All (IsClass L) q) (e : Expression) (t : ℕ) →
    HasData L q e t → (l : ℕ) → IsReadIn e l → IsClass L (slice_index q l)
read_within L laws q all e t (INT w) l h = absurd h
read_within L laws q all e t (R_VAL (VARLOC {l = k} lt)) l h =
    subst (λ i. IsClass L (slice_index q i)) (sym h) (at_location L laws q all k lt)
read_within L laws q all e t (ARITH {a = a} {b = b} d d') l h =
    ⊎_elim (read_within L laws q all a t d l) (read_within L laws q all b t d' l) h
read_within L laws q all e t (SUBTYPE {t = t₁} le w d) l h = read_within L laws q all e t₁ d l h

-- A location that an expression reads has a class at or below the type.
read_below : (L : Lattice) (laws : IsLattice L) (q : Locations) (all : All (IsClass L) q) (e : Expression) (t : ℕ) →
    HasData L q e t → (l : ℕ) → IsReadIn e l → Below L (slice_index q l) t
read_below L laws q all e t (INT w) l h = absurd h
read_below L laws q all e t (R_VAL (VARLOC {l = k} lt)) l h =
    subst (λ i. Below L (slice_index q i) t) (sym h) (laws.reflexive t (at_location L laws q all k lt))
read_below L laws q all e t (ARITH {a = a} {b = b} d d') l h =
    ⊎_elim (read_below L laws q all a t d l) (read_below L laws q all b t d' l) h
read_below L laws q all e t (SUBTYPE {t = t₁} le w d) l h =
    laws.transitive (slice_index q l) t₁ t (read_within L laws q all e t₁ d l h) (data_class L laws q all e t₁ d) w
    (read_below L laws q all e t₁ d l h) le

-- The law of simple security.
pub simple_security : SimpleSecurity
simple_security L q e t laws all d = (
  read_below L laws q all e t d,
  λ m m' h. value_same L laws q all e t d m m' h,
)

-- The law of confinement.
pub confinement : Confinement
confinement L P classes q n c t laws all each d m m' len v l lt h =
    let k = letvars c in
    let classes' = own L laws classes n k in
    let d' = retyped L P classes classes' q n c t (own_same L laws classes n k) d in
    confined L laws P classes' (own_within L laws classes n k each) q all n c t d' v.0 m m' len v.1 l lt h

-- The law of noninterference.
pub noninterference : Noninterference
noninterference L P p s laws res typed a ka m₁ m₂ m₁' m₂' len₁ len₂ h v₁ v₂ =
    secure_evaluations L laws P _ (within L laws P p s res typed.1) p.globals res.classes (length p.globals)
    p.body typed.2.0 typed.2.1 a ka m₁ m₂ m₁' m₂' len₁ len₂ h v₁ v₂
