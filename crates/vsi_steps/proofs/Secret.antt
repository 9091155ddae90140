-- Under a counter that isn't at or below a class, a run by either rule changes nothing that the class sees.
use Rattle.std.proofs.Common.{ℕ, ◌+◌, ◌<◌, [], ◌∷◌, ◌++◌, length, take, set, get_or, ℤ, pos, refl, sym, subst, ⊎_elim}
use Rattle.std.specs.Prelude.{◌⊎◌, slice_index}
use Rattle.std.proofs.lemmas.List.{set-get_or, take_at}
use Rattle.vsi_lattice.specs.Order.{Lattice, IsLattice, IsClass, Below}
use Rattle.vsi_scope.specs.Language.{Command, While, letvars, HasPlaces}
use Rattle.vsi_scope.specs.Meaning.{Store, value}
use Rattle.vsi_types.specs.Typing.{Locations}
use Rattle.vsi_steps.specs.declared.labels.Rule.{Rule}
use Rattle.vsi_steps.specs.Labels.{IsLabelled}
use Rattle.vsi_steps.specs.Monitor.{Outcome, Halted, Monitored, NOTHING, ASSIGN, UPGRADE, MARK, COMPOSE, COMPOSE_STOP, IF_TRUE, IF_FALSE, IF_MARK, WHILE_TRUE, WHILE_STOP, WHILE_FALSE, WHILE_MARK, LETVAR, LETVAR_STOP}
use Rattle.vsi_steps.proofs.Computing.{IfHalted, if_halted_more}
use Rattle.vsi_steps.proofs.Labelled.{fit_more, kept}
use Rattle.vsi_steps.proofs.Marks.{top_mark}
use Rattle.vsi_steps.proofs.Words.{WordHides, Hides, each_same, each_less, each_set, hides_self, hides_on}

module _ (R : Rule) (L : Lattice) (laws : IsLattice L) (classes : ℕ → ℕ) where
  module _ (a : ℕ) (seen : IsClass L a) where
    -- A class above one that isn't at or below a isn't either.
    above_hidden : (b c : ℕ) → IsClass L b → IsClass L c → Below L b c → (Below L b a → ⊥) → Below L c a → ⊥
    above_hidden b c kb kc le not low = not (laws.transitive b c a kb kc seen le low)

    -- A store with one word and its label replaced.
    hides_set : (k : ℕ) (m : Store) (q : Locations) → IsLabelled L k m q → (i : ℕ) → i < k → (x : ℤ) (v : ℕ) →
        WordHides R L a (get_or q i 0) (get_or m i (pos 0)) v x → Hides R L a k m q (set m i x) (set q i v)
    hides_set k m q fit i lt x v new =
        each_same (WordHides R L a) k (set m i (get_or m i (pos 0))) (set m i x) m (set m i x)
        (set q i (get_or q i 0)) (set q i v) q (set q i v) (sym (set-get_or m i (pos 0))) (sym (set-get_or q i 0)) refl
        refl
        (each_set (WordHides R L a) L k m m q q fit fit i lt (get_or m i (pos 0)) x (get_or q i 0) v new
        (hides_self R L a k m q))

    -- A run under a counter that isn't at or below a changes nothing that a sees.
    pub secret : (f : Locations) (k pc n : ℕ) (c : Command) (m : Store) (q : Locations) (r : Outcome) →
        HasPlaces k c → IsLabelled L k m q → IsClass L pc → (Below L pc a → ⊥) →
        Monitored R L classes f pc n c m q r → IfHalted r (λ m' q'. Hides R L a k m q m' q')
    secret f k pc n c m q r has fit w not NOTHING = hides_self R L a k m q
    secret f k pc n c m q r has fit w not (ASSIGN {l = l} {v = v} {e = e} up t is) =
        hides_set k m q fit l has.0 (value e m) v (
          λ mark. absurd (not (subst (λ x. Below L x a) (sym (up.1 mark)) (laws.bottom_least a seen))),
          λ clean side. absurd (⊎_elim
              (above_hidden pc (slice_index q l) w (fit.classes l has.0) up.0 not)
              (above_hidden pc v w is.within is.counter not) side),
        )
    secret f k pc n c m q r has fit w not (UPGRADE by up) = tt
    secret f k pc n c m q r has fit w not (MARK {l = l} {e = e} by up) =
        let mark = top_mark R L by in
        hides_set k m q fit l has.0 (value e m) L.top (λ old. mark, λ clean side. absurd (clean mark))
    secret f k pc n c m q r has fit w not (COMPOSE {q₁ = q₁} {a = c₁} {b = c₂} {m₁ = m₁} d d') =
        let fit₁ = kept R L laws classes f k pc n c₁ m q (Halted m₁ q₁) has.0 fit d in
        let first = secret f k pc n c₁ m q (Halted m₁ q₁) has.0 fit w not d in
        if_halted_more r (λ m' q'. Hides R L a k m₁ q₁ m' q') (λ m' q'. Hides R L a k m q m' q')
        (λ m' q' h. hides_on R L a k m m₁ m' q q₁ q' first h)
        (secret f k pc (n + letvars c₁) c₂ m₁ q₁ r has.1 fit₁ w not d')
    secret f k pc n c m q r has fit w not (COMPOSE_STOP d) = tt
    secret f k pc n c m q r has fit w not (IF_TRUE {u = u} {a = c₁} z clean t is d) =
        secret f k u n c₁ m q r has.1 fit is.within (above_hidden pc u w is.within is.left not) d
    secret f k pc n c m q r has fit w not (IF_FALSE {u = u} {a = c₁} {b = c₂} z clean t is d) =
        secret f k u (n + letvars c₁) c₂ m q r has.2 fit is.within (above_hidden pc u w is.within is.left not) d
    secret f k pc n c m q r has fit w not (IF_MARK reads) = tt
    secret f k pc n c m q r has fit w not (WHILE_TRUE {q₁ = q₁} {u = u} {e = e} {c = c'} {m₁ = m₁} z clean t is d d') =
        let not' = above_hidden pc u w is.within is.left not in
        let fit₁ = kept R L laws classes f k u n c' m q (Halted m₁ q₁) has.1 fit d in
        let first = secret f k u n c' m q (Halted m₁ q₁) has.1 fit is.within not' d in
        if_halted_more r (λ m' q'. Hides R L a k m₁ q₁ m' q') (λ m' q'. Hides R L a k m q m' q')
        (λ m' q' h. hides_on R L a k m m₁ m' q q₁ q' first h)
        (secret f k u n (While e c') m₁ q₁ r has fit₁ is.within not' d')
    secret f k pc n c m q r has fit w not (WHILE_STOP z clean t is d) = tt
    secret f k pc n c m q r has fit w not (WHILE_FALSE z clean) = hides_self R L a k m q
    secret f k pc n c m q r has fit w not (WHILE_MARK reads) = tt
    secret f k pc n c m q r has fit w not (LETVAR {q₁ = q₁} {v = v} {e = e} {c = c'} {m₁ = m₁} t is d) =
        let inner = secret (f ++ classes n ∷ []) (k + 1) pc (n + 1) c' (m ++ value e m ∷ []) (q ++ v ∷ [])
        (Halted m₁ q₁) has.1 (fit_more L laws k m q fit (value e m) v is.within) w not d in
        each_same (WordHides R L a) k (take (length m) (m ++ value e m ∷ [])) (take (length m) m₁) m
        (take (length m) m₁) (take (length q) (q ++ v ∷ [])) (take (length q) q₁) q (take (length q) q₁)
        (sym (take_at m (value e m ∷ []) (length m) refl)) (sym (take_at q (v ∷ []) (length q) refl)) refl refl
        (each_less (WordHides R L a) k (length m) (length q) (length m) (length q) (m ++ value e m ∷ []) m₁
        (q ++ v ∷ []) q₁ fit.words fit.labels fit.words fit.labels inner)
    secret f k pc n c m q r has fit w not (LETVAR_STOP t is d) = tt
