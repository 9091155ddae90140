-- Under the strict profile, a command ends from both of two stores that agree on the bottom class, or from neither.
use Rattle.std.proofs.Common.{◌≡◌, ℕ, zero, suc, ◌+◌, List, [], ◌∷◌, ◌++◌, length, take, Option, Some, None, ℤ, refl, sym, ap, ◌∙◌, subst}
use Rattle.std.specs.Prelude.{slice_set}
use Rattle.std.specs.List.{All}
use Rattle.vsi_lattice.specs.Order.{Lattice, IsLattice, IsClass, Below}
use Rattle.vsi_scope.specs.Language.{Command, If, letvars}
use Rattle.vsi_scope.specs.Meaning.{Store, value, and_then, drop_past, turns, runs}
use Rattle.vsi_scope.proofs.Evaluation.{no_answer, between, through, zero_cases, at_other, at_none, dropped, length_kept}
use Rattle.vsi_types.specs.declared.rules.Profile.TheVariants.{Strict}
use Rattle.vsi_types.specs.Typing.{Locations, HasCmd, EMPTY, ASSIGN, COMPOSE, IF, WHILE, LETVAR, SUBTYPE_CMD}
use Rattle.vsi_types.specs.Security.{Agree, Program, IsTypable, IsWellFormed, Terminates, SameEnding}
use Rattle.vsi_types.proofs.Programs.{within}
use Rattle.vsi_types.proofs.Secure.{below_cases, value_same, agree_down, data_class, cmd_class, all_more, longer, agree_more, secure}

module _ (L : Lattice) (laws : IsLattice L) (classes : ℕ → ℕ) (within' : (v : ℕ) → IsClass L (classes v)) where
  -- A command of a type above the bottom has no loop and always ends.
  total : (q : Locations) → All (IsClass L) q → (n : ℕ) (c : Command) (t : ℕ) → HasCmd L Strict classes q n c t →
      (Below L t L.bottom → ⊥) → (k : ℕ) (m : Store) → (m' : Store) × (runs k c m ≡ Some m')
  total q all n c t (EMPTY w) not k m = (m, refl)
  total q all n c t (ASSIGN {l = l} {e = x} v d) not k m = (slice_set m l (value x m), refl)
  total q all n c t (COMPOSE {a = a} {b = b} d d') not k m =
      let r = total q all n a t d not k m in
      let r' = total q all (n + letvars a) b t d' not k r.0 in
      (r'.0, through (runs k a m) (runs k b) r.0 r'.0 r.1 r'.1)
  total q all n c t (IF {e = x} {a = a} {b = b} dg d d') not k m =
      zero_cases (value x m)
      (λ z. let r = total q all (n + letvars a) b t d' not k m in
      (r.0, at_none (value x m) (runs k b m) (runs k a m) z ∙ r.1))
      (λ z. let r = total q all n a t d not k m in (r.0, at_other (value x m) (runs k b m) (runs k a m) z ∙ r.1))
  total q all n c t (WHILE is dg d) not k m =
      absurd (not (subst (λ x. Below L x L.bottom) (sym is) (laws.reflexive L.bottom laws.bottom_within)))
  total q all n c t (LETVAR {e = x} {c = c'} dg d) not k m =
      let r = total _ (all_more L laws Strict classes within' q all n) (n + 1) c' t d not k (m ++ value x m ∷ []) in
      (take (length m) r.0, ap (drop_past (length m)) r.1)
  total q all n c t (SUBTYPE_CMD {t' = t'} le w d) not k m =
      total q all n c t' d (λ b. not (laws.transitive t t' L.bottom w
      (cmd_class L laws Strict classes within' q all n c t' d) laws.bottom_within le b)) k m

  -- If a loop ends from one store within j turns, it ends from every store that agrees with it on the bottom class.
  turns_end : (q : Locations) (j : ℕ) (guard : Store → ℤ) (f : Store → Option Store) →
      ((m₁ m₂ : Store) → Agree L q L.bottom m₁ m₂ → guard m₁ ≡ guard m₂) →
      ((m m' : Store) → f m ≡ Some m' → length m' ≡ length m) →
      ((m₁ m₂ m₁' m₂' : Store) → length m₁ ≡ length q → length m₂ ≡ length q → Agree L q L.bottom m₁ m₂ →
      f m₁ ≡ Some m₁' → f m₂ ≡ Some m₂' → Agree L q L.bottom m₁' m₂') →
      ((m₁ m₂ m₁' : Store) → length m₁ ≡ length q → length m₂ ≡ length q → Agree L q L.bottom m₁ m₂ →
      f m₁ ≡ Some m₁' → (m₂' : Store) × (f m₂ ≡ Some m₂')) → (m₁ m₂ m₁' : Store) → length m₁ ≡ length q →
      length m₂ ≡ length q → Agree L q L.bottom m₁ m₂ → turns j guard f m₁ ≡ Some m₁' → (m₂' : Store)
      × (turns j guard f m₂ ≡ Some m₂')
  turns_end q zero guard f g len body ends m₁ m₂ m₁' len₁ len₂ h e =
      let same = g m₁ m₂ h in
      zero_cases (guard m₁)
      (λ z. (m₂, at_none (guard m₂) (Some m₂) None (sym same ∙ z)))
      (λ z. no_answer m₁' (sym (at_other (guard m₁) (Some m₁) None z) ∙ e))
  turns_end q (suc j) guard f g len body ends m₁ m₂ m₁' len₁ len₂ h e =
      let same = g m₁ m₂ h in
      let rest₁ = and_then (f m₁) (turns j guard f) in
      let rest₂ = and_then (f m₂) (turns j guard f) in
      zero_cases (guard m₁)
      (λ z. (m₂, at_none (guard m₂) (Some m₂) rest₂ (sym same ∙ z)))
      (λ z.
      let b = between (f m₁) (turns j guard f) m₁' (sym (at_other (guard m₁) (Some m₁) rest₁ z) ∙ e) in
      let r = ends m₁ m₂ b.store len₁ len₂ h b.first in
      let r' = turns_end q j guard f g len body ends b.store r.0 m₁' (len m₁ b.store b.first ∙ len₁)
      (len m₂ r.0 r.1 ∙ len₂) (body m₁ m₂ b.store r.0 len₁ len₂ h b.first r.1) b.second in (
        r'.0,
        at_other (guard m₂) (Some m₂) rest₂ (λ y. z (same ∙ y))
            ∙ through (f m₂) (turns j guard f) r.0 r'.0 r.1 r'.1,
      ))

  -- If a command ends from one store, it ends from every store that agrees with it on the bottom class.
  pub ends : (q : Locations) → All (IsClass L) q → (n : ℕ) (c : Command) (t : ℕ) → HasCmd L Strict classes q n c t →
      (k : ℕ) (m₁ m₂ m₁' : Store) → length m₁ ≡ length q → length m₂ ≡ length q → Agree L q L.bottom m₁ m₂ →
      runs k c m₁ ≡ Some m₁' → (m₂' : Store) × (runs k c m₂ ≡ Some m₂')
  ends q all n c t (EMPTY w) k m₁ m₂ m₁' len₁ len₂ h e = (m₂, refl)
  ends q all n c t (ASSIGN {l = l} {e = x} v d) k m₁ m₂ m₁' len₁ len₂ h e = (slice_set m₂ l (value x m₂), refl)
  ends q all n c t (COMPOSE {a = a} {b = b} d d') k m₁ m₂ m₁' len₁ len₂ h e =
      let s = between (runs k a m₁) (runs k b) m₁' e in
      let r = ends q all n a t d k m₁ m₂ s.store len₁ len₂ h s.first in
      let r' = ends q all (n + letvars a) b t d' k s.store r.0 m₁' (length_kept a k m₁ s.store s.first ∙ len₁)
      (length_kept a k m₂ r.0 r.1 ∙ len₂)
      (secure L laws Strict classes within' q all n a t d L.bottom laws.bottom_within k m₁ m₂ s.store r.0 len₁ len₂
      h s.first r.1) s.second in
      (r'.0, through (runs k a m₂) (runs k b) r.0 r'.0 r.1 r'.1)
  ends q all n c t (IF {e = x} {a = a} {b = b} dg d d') k m₁ m₂ m₁' len₁ len₂ h e =
      below_cases L t L.bottom
      (λ le.
      let same = value_same L laws q all x t dg m₁ m₂
      (agree_down L laws q all t L.bottom (data_class L laws q all x t dg) laws.bottom_within le m₁ m₂ h) in
      zero_cases (value x m₁)
      (λ z.
      let r = ends q all (n + letvars a) b t d' k m₁ m₂ m₁' len₁ len₂ h
      (sym (at_none (value x m₁) (runs k b m₁) (runs k a m₁) z) ∙ e) in
      (r.0, at_none (value x m₂) (runs k b m₂) (runs k a m₂) (sym same ∙ z) ∙ r.1))
      (λ z.
      let r = ends q all n a t d k m₁ m₂ m₁' len₁ len₂ h
      (sym (at_other (value x m₁) (runs k b m₁) (runs k a m₁) z) ∙ e) in
      (r.0, at_other (value x m₂) (runs k b m₂) (runs k a m₂) (λ y. z (same ∙ y)) ∙ r.1)))
      (λ not. total q all n (If x a b) t (IF dg d d') not k m₂)
  ends q all n c t (WHILE {e = x} {c = c'} is dg d) k m₁ m₂ m₁' len₁ len₂ h e =
      let low : Below L t L.bottom = subst (λ y. Below L y L.bottom) (sym is)
      (laws.reflexive L.bottom laws.bottom_within) in
      turns_end q k (value x) (runs k c')
      (λ s₁ s₂ g. value_same L laws q all x t dg s₁ s₂
      (agree_down L laws q all t L.bottom (data_class L laws q all x t dg) laws.bottom_within low s₁ s₂ g))
      (λ s s' f. length_kept c' k s s' f)
      (λ s₁ s₂ s₁' s₂' l₁ l₂ g f₁ f₂. secure L laws Strict classes within' q all n c' t d L.bottom
      laws.bottom_within k s₁ s₂ s₁' s₂' l₁ l₂ g f₁ f₂)
      (λ s₁ s₂ s₁' l₁ l₂ g f. ends q all n c' t d k s₁ s₂ s₁' l₁ l₂ g f)
      m₁ m₂ m₁' len₁ len₂ h e
  ends q all n c t (LETVAR {e = x} {c = c'} dg d) k m₁ m₂ m₁' len₁ len₂ h e =
      let s = dropped (length m₁) (runs k c' (m₁ ++ value x m₁ ∷ [])) m₁' e in
      let more = agree_more L laws Strict classes within' q n L.bottom m₁ m₂ (value x m₁) (value x m₂) len₁ len₂ h
      (λ low. value_same L laws q all x (classes n) dg m₁ m₂
      (agree_down L laws q all (classes n) L.bottom (within' n) laws.bottom_within low m₁ m₂ h)) in
      let r = ends (q ++ classes n ∷ []) (all_more L laws Strict classes within' q all n) (n + 1) c' t d k
      (m₁ ++ value x m₁ ∷ []) (m₂ ++ value x m₂ ∷ []) s.store
      (longer L laws Strict classes within' q n m₁ (value x m₁) len₁)
      (longer L laws Strict classes within' q n m₂ (value x m₂) len₂) more s.before in
      (take (length m₂) r.0, ap (drop_past (length m₂)) r.1)
  ends q all n c t (SUBTYPE_CMD {t' = t'} le w d) k m₁ m₂ m₁' len₁ len₂ h e =
      ends q all n c t' d k m₁ m₂ m₁' len₁ len₂ h e

-- Agreement is symmetric.
agree_back : (L : Lattice) (q : Locations) (a : ℕ) (m₁ m₂ : Store) → Agree L q a m₁ m₂ → Agree L q a m₂ m₁
agree_back L q a m₁ m₂ h l lt b = sym (h l lt b)

-- An ending from one store gives an ending from the other.
ends_too : (L : Lattice) (p : Program) (s : List ℕ) → IsLattice L → IsWellFormed L p → IsTypable L Strict p s →
    (m₁ m₂ : Store) → length m₁ ≡ length p.globals → length m₂ ≡ length p.globals →
    Agree L p.globals L.bottom m₁ m₂ → Terminates p.body m₁ → Terminates p.body m₂
ends_too L p s laws res typed m₁ m₂ len₁ len₂ h v =
    let r = ends L laws _ (within L laws Strict p s res typed.1) p.globals res.classes (length p.globals) p.body
    typed.2.0 typed.2.1 v.1.0 m₁ m₂ v.0 len₁ len₂ h v.1.1 in
    (r.0, (v.1.0, r.1))

-- The law of endings.
pub same_ending : SameEnding
same_ending L p s laws res typed m₁ m₂ len₁ len₂ h = (
  ends_too L p s laws res typed m₁ m₂ len₁ len₂ h,
  ends_too L p s laws res typed m₂ m₁ len₂ len₁ (agree_back L p.globals L.bottom m₁ m₂ h),
)
