-- Noninterference of runs by either rule.
use Rattle.std.proofs.Common.{◌≡◌, ℕ, ◌+◌, [], ◌∷◌, ◌++◌, length, take, set, refl, sym, ap, ◌∙◌, subst, ⊎_elim, inl, inr}
use Rattle.std.specs.Prelude.{◌⊎◌, slice_index}
use Rattle.vsi_lattice.specs.Order.{Lattice, IsLattice, IsClass, Below, IsJoin}
use Rattle.vsi_syntax.specs.declared.token.Span.{Span}
use Rattle.vsi_scope.specs.Language.{Expression, Number, Location, Operator, Command, Skip, Assign, Sequence, If, While, Letvar, letvars, HasLocations, HasPlaces}
use Rattle.vsi_scope.specs.Meaning.{Store, value}
use Rattle.vsi_syntax.specs.Operators.{apply}
use Rattle.vsi_types.specs.Typing.{Locations}
use Rattle.vsi_types.proofs.Secure.{below_cases}
use Rattle.vsi_steps.specs.declared.labels.Rule.{Rule}
use Rattle.vsi_steps.specs.Labels.{HasLabel, IsStored, IsLabelled, ReadsNoMark, WordsAgree, StoresAgree, labelling}
use Rattle.vsi_steps.specs.Monitor.{Outcome, Halted, Monitored, NOTHING, ASSIGN, UPGRADE, MARK, COMPOSE, COMPOSE_STOP, IF_TRUE, IF_FALSE, IF_MARK, WHILE_TRUE, WHILE_STOP, WHILE_FALSE, WHILE_MARK, LETVAR, LETVAR_STOP}
use Rattle.vsi_steps.specs.MonitorLaws.{MonitoredNoninterference}
use Rattle.vsi_steps.proofs.Computing.{IfHalted, if_halted_more}
use Rattle.vsi_steps.proofs.Labelled.{one_label, kept, label_class, one_join, one_stored, fit_more}
use Rattle.vsi_steps.proofs.Marks.{top_mark, mark_up, label_clean, labels_lattice, labels_class}
use Rattle.vsi_steps.proofs.Forms.{GivesLabel, parts}
use Rattle.vsi_steps.proofs.Words.{WordHides, Hides, each_same, each_less, each_more, each_set, hides_self, hides_on, agree_back, agree_on, agree_both}
use Rattle.vsi_steps.proofs.Secret.{secret}

module _ (R : Rule) (L : Lattice) (laws : IsLattice L) (a : ℕ) (w : IsClass L a) (k : ℕ) where
  -- An expression that reads no mark in either of two stores that agree, and whose label is seen, has the same label
  -- and
  -- value in both.
  seen : (m m' : Store) (q q' : Locations) → IsLabelled L k m q → StoresAgree R L k a m q m' q' →
      (e : Expression) (t : ℕ) → HasLocations k e → ReadsNoMark R L q e → ReadsNoMark R L q' e → HasLabel L q e t →
      Below L t a → HasLabel L q' e t × (value e m ≡ value e m')
  seen m m' q q' fit h (Number z) t has clean clean' is low = (is, refl)
  seen m m' q q' fit h (Location l s) t has clean clean' is low =
      let r = h l has (clean l refl) (clean' l refl) (inl (subst (λ x. Below L x a) is low)) in (is ∙ r.0, r.1)
  seen m m' q q' fit h (Operator o c d) t has clean clean' is low =
      let kt = is.4.within in
      let r = seen m m' q q' fit h c is.0 has.0 (λ l x. clean l (inl x)) (λ l x. clean' l (inl x)) is.2
      (laws.transitive is.0 t a (label_class L laws k m q fit c is.0 has.0 is.2) kt w is.4.left low) in
      let s = seen m m' q q' fit h d is.1 has.1 (λ l x. clean l (inr x)) (λ l x. clean' l (inr x)) is.3
      (laws.transitive is.1 t a (label_class L laws k m q fit d is.1 has.1 is.3) kt w is.4.right low) in (
        (is.0, is.1, r.0, s.0, is.4),
        ap (λ x. apply o x (value d m)) r.1 ∙ ap (apply o (value c m')) s.1,
      )

  module _ (m m' : Store) (q q' : Locations) (fit : IsLabelled L k m q) (fit' : IsLabelled L k m' q')
      (h : StoresAgree R L k a m q m' q') (e : Expression) (has : HasLocations k e) where
    -- The same, with the label on either side.
    same_labels : (t t' : ℕ) → ReadsNoMark R L q e → ReadsNoMark R L q' e → HasLabel L q e t → HasLabel L q' e t' →
        Below L t a ⊎ Below L t' a → (t ≡ t') × (value e m ≡ value e m')
    same_labels t t' clean clean' is is' side =
        ⊎_elim
        (λ low. let r = seen m m' q q' fit h e t has clean clean' is low in
        (one_label L laws q' e t t' r.0 is', r.1))
        (λ low. let r = seen m' m q' q fit' (agree_back R L a k m m' q q' h) e t' has clean' clean is' low in
        (one_label L laws q e t t' is r.0, sym r.1)) side

    -- The classes under which two branches run are the same, if one of them is seen.
    same_inside : (pc t t' u u' : ℕ) → ReadsNoMark R L q e → ReadsNoMark R L q' e → HasLabel L q e t →
        HasLabel L q' e t' → IsJoin L.count (Below L) pc t u → IsJoin L.count (Below L) pc t' u' →
        Below L u a ⊎ Below L u' a → (u ≡ u') × (value e m ≡ value e m')
    same_inside pc t t' u u' clean clean' is is' j j' side =
        let kt = label_class L laws k m q fit e t has is in
        let kt' = label_class L laws k m' q' fit' e t' has is' in
        let s = same_labels t t' clean clean' is is'
        (⊎_elim (λ low. inl (laws.transitive t u a kt j.within w j.right low))
        (λ low. inr (laws.transitive t' u' a kt' j'.within w j'.right low)) side) in
        (one_join L laws pc t u u' j (subst (λ x. IsJoin L.count (Below L) pc x u') (sym s.0) j'), s.1)

    -- Two words that an assignment stores agree.
    stored_agree : (pc class v v' : ℕ) → GivesLabel R L q pc class e v → GivesLabel R L q' pc class e v' →
        WordsAgree R L a v (value e m) v' (value e m')
    stored_agree pc class v v' g g' clean clean' side =
        ⊎_elim (λ mark. absurd (clean mark))
        (λ x. ⊎_elim (λ mark. absurd (clean' mark))
        (λ x'.
        let st = x.2 in
        let st' = x'.2 in
        let kt = label_class L laws k m q fit e x.0 has x.1 in
        let kt' = label_class L laws k m' q' fit' e x'.0 has x'.1 in
        let s = same_labels x.0 x'.0
        (label_clean R L laws q e x.0 x.1 (λ y. clean (mark_up R L laws x.0 v st.within y st.value)))
        (label_clean R L laws q' e x'.0 x'.1 (λ y. clean' (mark_up R L laws x'.0 v' st'.within y st'.value)))
        x.1 x'.1
        (⊎_elim (λ low. inl (laws.transitive x.0 v a kt st.within w st.value low))
        (λ low. inr (laws.transitive x'.0 v' a kt' st'.within w st'.value low)) side) in (
          one_stored L laws x.0 pc class v v' st (subst (λ y. IsStored L y pc class v') (sym s.0) st'),
          s.1,
        )) g') g

    -- The words of two new locations agree.
    new_agree : (t t' class v v' : ℕ) → HasLabel L q e t → HasLabel L q' e t' → IsJoin L.count (Below L) t class v →
        IsJoin L.count (Below L) t' class v' → WordsAgree R L a v (value e m) v' (value e m')
    new_agree t t' class v v' is is' j j' clean clean' side =
        let kt = label_class L laws k m q fit e t has is in
        let kt' = label_class L laws k m' q' fit' e t' has is' in
        let s = same_labels t t'
        (label_clean R L laws q e t is (λ y. clean (mark_up R L laws t v j.within y j.left)))
        (label_clean R L laws q' e t' is' (λ y. clean' (mark_up R L laws t' v' j'.within y j'.left))) is is'
        (⊎_elim (λ low. inl (laws.transitive t v a kt j.within w j.left low))
        (λ low. inr (laws.transitive t' v' a kt' j'.within w j'.left low)) side) in
        (one_join L laws t class v v' j (subst (λ y. IsJoin L.count (Below L) y class v') (sym s.0) j'), s.1)

  -- Two runs that change nothing that is seen keep agreement.
  both : (m₁ m₂ m₂' : Store) (q₁ q₂ q₂' : Locations) (r : Outcome) → StoresAgree R L k a m₁ q₁ m₂ q₂ →
      IfHalted r (λ m' q'. Hides R L a k m₁ q₁ m' q') → Hides R L a k m₂ q₂ m₂' q₂' →
      IfHalted r (λ m' q'. StoresAgree R L k a m' q' m₂' q₂')
  both m₁ m₂ m₂' q₁ q₂ q₂' r h first second =
      if_halted_more r (λ m' q'. Hides R L a k m₁ q₁ m' q') (λ m' q'. StoresAgree R L k a m' q' m₂' q₂')
      (λ m' q' x. agree_both R L a k m₁ m' m₂ m₂' q₁ q' q₂ q₂' h x second) first

module _ (R : Rule) (L : Lattice) (laws : IsLattice L) (classes : ℕ → ℕ) (a : ℕ) (w : IsClass L a) where
  -- A turn of a loop, and the turns after it, change nothing that is seen under a counter that isn't.
  turns_secret : (f : Locations) (k u n : ℕ) (e : Expression) (c : Command) (m m₁ : Store) (q q₁ : Locations)
      (r : Outcome) → HasPlaces k (While e c) → IsLabelled L k m q → IsClass L u → (Below L u a → ⊥) →
      Monitored R L classes f u n c m q (Halted m₁ q₁) → Monitored R L classes f u n (While e c) m₁ q₁ r →
      IfHalted r (λ m' q'. Hides R L a k m q m' q')
  turns_secret f k u n e c m m₁ q q₁ r has fit ku not d d' =
      let fit₁ = kept R L laws classes f k u n c m q (Halted m₁ q₁) has.1 fit d in
      let first = secret R L laws classes a w f k u n c m q (Halted m₁ q₁) has.1 fit ku not d in
      if_halted_more r (λ m' q'. Hides R L a k m₁ q₁ m' q') (λ m' q'. Hides R L a k m q m' q')
      (λ m' q' x. hides_on R L a k m m₁ m' q q₁ q' first x)
      (secret R L laws classes a w f k u n (While e c) m₁ q₁ r has fit₁ ku not d')

  -- Two assignments to one location.
  assigned : (f : Locations) (k pc n l v : ℕ) (s : Span) (x : Expression) (m₁ m₂ m₂' : Store) (q₁ q₂ q₂' : Locations) →
      HasPlaces k (Assign l s x) → IsLabelled L k m₁ q₁ → IsLabelled L k m₂ q₂ → StoresAgree R L k a m₁ q₁ m₂ q₂ →
      GivesLabel R L q₁ pc (slice_index f l) x v → Monitored R L classes f pc n (Assign l s x) m₂ q₂ (Halted m₂' q₂') →
      StoresAgree R L k a (set m₁ l (value x m₁)) (set q₁ l v) m₂' q₂'
  assigned f k pc n l v s x m₁ m₂ m₂' q₁ q₂ q₂' has fit₁ fit₂ h g e =
      let p = parts R L classes f pc n (Assign l s x) m₂ q₂ (Halted m₂' q₂') e in
      each_same (WordsAgree R L a) k (set m₁ l (value x m₁)) (set m₂ l (value x m₂)) (set m₁ l (value x m₁)) m₂'
      (set q₁ l v) (set q₂ l p.0) (set q₁ l v) q₂' refl refl p.2 p.3
      (each_set (WordsAgree R L a) L k m₁ m₂ q₁ q₂ fit₁ fit₂ l has.0 (value x m₁) (value x m₂) v p.0
      (stored_agree R L laws a w k m₁ m₂ q₁ q₂ fit₁ fit₂ h x has.1 pc (slice_index f l) v p.0 g p.1) h)

  -- Two runs of a command from stores that agree end in stores that agree, if both halt.
  pub agreeing : (f : Locations) (k pc n : ℕ) (c : Command) (m₁ : Store) (q₁ : Locations) (r : Outcome)
      (m₂ : Store) (q₂ : Locations) (m₂' : Store) (q₂' : Locations) → HasPlaces k c → IsLabelled L k m₁ q₁ →
      IsLabelled L k m₂ q₂ → IsClass L pc → StoresAgree R L k a m₁ q₁ m₂ q₂ → Monitored R L classes f pc n c m₁ q₁ r →
      Monitored R L classes f pc n c m₂ q₂ (Halted m₂' q₂') → IfHalted r (λ m' q'. StoresAgree R L k a m' q' m₂' q₂')
  agreeing f k pc n c m₁ q₁ r m₂ q₂ m₂' q₂' has fit₁ fit₂ kp h NOTHING e =
      let p = parts R L classes f pc n Skip m₂ q₂ (Halted m₂' q₂') e in
      each_same (WordsAgree R L a) k m₁ m₂ m₁ m₂' q₁ q₂ q₁ q₂' refl refl p.0 p.1 h
  agreeing f k pc n c m₁ q₁ r m₂ q₂ m₂' q₂' has fit₁ fit₂ kp h
      (ASSIGN {l = l} {t = t} {v = v} {s = s} {e = x} up is st) e =
      assigned f k pc n l v s x m₁ m₂ m₂' q₁ q₂ q₂' has fit₁ fit₂ h (inr (t, is, st)) e
  agreeing f k pc n c m₁ q₁ r m₂ q₂ m₂' q₂' has fit₁ fit₂ kp h (UPGRADE by not) e = tt
  agreeing f k pc n c m₁ q₁ r m₂ q₂ m₂' q₂' has fit₁ fit₂ kp h (MARK {l = l} {s = s} {e = x} by not) e =
      assigned f k pc n l L.top s x m₁ m₂ m₂' q₁ q₂ q₂' has fit₁ fit₂ h (inl (top_mark R L by)) e
  agreeing f k pc n c m₁ q₁ r m₂ q₂ m₂' q₂' has fit₁ fit₂ kp h (COMPOSE {q₁ = q} {a = b} {b = b'} {m₁ = m} d d') e =
      let p = parts R L classes f pc n (Sequence b b') m₂ q₂ (Halted m₂' q₂') e in
      let first = agreeing f k pc n b m₁ q₁ (Halted m q) m₂ q₂ p.0 p.1 has.0 fit₁ fit₂ kp h d p.2 in
      agreeing f k pc (n + letvars b) b' m q r p.0 p.1 m₂' q₂' has.1
      (kept R L laws classes f k pc n b m₁ q₁ (Halted m q) has.0 fit₁ d)
      (kept R L laws classes f k pc n b m₂ q₂ (Halted p.0 p.1) has.0 fit₂ p.2) kp first d' p.3
  agreeing f k pc n c m₁ q₁ r m₂ q₂ m₂' q₂' has fit₁ fit₂ kp h (COMPOSE_STOP d) e = tt
  agreeing f k pc n c m₁ q₁ r m₂ q₂ m₂' q₂' has fit₁ fit₂ kp h
      (IF_TRUE {t = t} {u = u} {e = x} {a = b} {b = b'} z clean is j d) e =
      let p = parts R L classes f pc n (If x b b') m₂ q₂ (Halted m₂' q₂') e in
      let same = same_inside R L laws a w k m₁ m₂ q₁ q₂ fit₁ fit₂ h x has.0 pc t p.0 u p.1 clean p.2 is p.3 j p.4 in
      below_cases L u a
      (λ low. let s = same (inl low) in
      ⊎_elim
      (λ yes'. agreeing f k u n b m₁ q₁ r m₂ q₂ m₂' q₂' has.1 fit₁ fit₂ j.within h d
      (subst (λ y. Monitored R L classes f y n b m₂ q₂ (Halted m₂' q₂')) (sym s.0) yes'.1))
      (λ no'. absurd (z (s.1 ∙ no'.0))) p.5)
      (λ not. let not' : Below L p.1 a → ⊥ = λ low. not (subst (λ y. Below L y a) (sym (same (inr low)).0) low) in
      both R L laws a w k m₁ m₂ m₂' q₁ q₂ q₂' r h
      (secret R L laws classes a w f k u n b m₁ q₁ r has.1 fit₁ j.within not d)
      (⊎_elim
      (λ yes'. secret R L laws classes a w f k p.1 n b m₂ q₂ (Halted m₂' q₂') has.1 fit₂ p.4.within not' yes'.1)
      (λ no'. secret R L laws classes a w f k p.1 (n + letvars b) b' m₂ q₂ (Halted m₂' q₂') has.2 fit₂ p.4.within
      not' no'.1) p.5))
  agreeing f k pc n c m₁ q₁ r m₂ q₂ m₂' q₂' has fit₁ fit₂ kp h
      (IF_FALSE {t = t} {u = u} {e = x} {a = b} {b = b'} z clean is j d) e =
      let p = parts R L classes f pc n (If x b b') m₂ q₂ (Halted m₂' q₂') e in
      let same = same_inside R L laws a w k m₁ m₂ q₁ q₂ fit₁ fit₂ h x has.0 pc t p.0 u p.1 clean p.2 is p.3 j p.4 in
      below_cases L u a
      (λ low. let s = same (inl low) in
      ⊎_elim
      (λ yes'. absurd (yes'.0 (sym s.1 ∙ z)))
      (λ no'. agreeing f k u (n + letvars b) b' m₁ q₁ r m₂ q₂ m₂' q₂' has.2 fit₁ fit₂ j.within h d
      (subst (λ y. Monitored R L classes f y (n + letvars b) b' m₂ q₂ (Halted m₂' q₂')) (sym s.0) no'.1)) p.5)
      (λ not. let not' : Below L p.1 a → ⊥ = λ low. not (subst (λ y. Below L y a) (sym (same (inr low)).0) low) in
      both R L laws a w k m₁ m₂ m₂' q₁ q₂ q₂' r h
      (secret R L laws classes a w f k u (n + letvars b) b' m₁ q₁ r has.2 fit₁ j.within not d)
      (⊎_elim
      (λ yes'. secret R L laws classes a w f k p.1 n b m₂ q₂ (Halted m₂' q₂') has.1 fit₂ p.4.within not' yes'.1)
      (λ no'. secret R L laws classes a w f k p.1 (n + letvars b) b' m₂ q₂ (Halted m₂' q₂') has.2 fit₂ p.4.within
      not' no'.1) p.5))
  agreeing f k pc n c m₁ q₁ r m₂ q₂ m₂' q₂' has fit₁ fit₂ kp h (IF_MARK reads) e = tt
  agreeing f k pc n c m₁ q₁ r m₂ q₂ m₂' q₂' has fit₁ fit₂ kp h
      (WHILE_TRUE {q₁ = q} {t = t} {u = u} {e = x} {c = b} {m₁ = m} z clean is j d d') e =
      let p = parts R L classes f pc n (While x b) m₂ q₂ (Halted m₂' q₂') e in
      let hidden = λ (not : Below L u a → ⊥). turns_secret f k u n x b m₁ m q₁ q r has fit₁ j.within not d d' in
      ⊎_elim
      (λ ends.
      below_cases L u a
      (λ low. absurd (z ((seen R L laws a w k m₁ m₂ q₁ q₂ fit₁ h x t has.0 clean p.0 is (laws.transitive t u a
      (label_class L laws k m₁ q₁ fit₁ x t has.0 is) j.within w j.right low)).1 ∙ ends.0)))
      (λ not. both R L laws a w k m₁ m₂ m₂' q₁ q₂ q₂' r h (hidden not)
      (each_same (WordHides R L a) k m₂ m₂ m₂ m₂' q₂ q₂ q₂ q₂' refl refl ends.1 ends.2
      (hides_self R L a k m₂ q₂))))
      (λ on.
      let same = same_inside R L laws a w k m₁ m₂ q₁ q₂ fit₁ fit₂ h x has.0 pc t on.0 u on.1 clean p.0 is on.5 j on.6 in
      below_cases L u a
      (λ low.
      let s = same (inl low) in
      let e₁ = subst (λ y. Monitored R L classes f y n b m₂ q₂ (Halted on.2 on.3)) (sym s.0) on.7 in
      let e₂ = subst (λ y. Monitored R L classes f y n (While x b) on.2 on.3 (Halted m₂' q₂')) (sym s.0) on.8 in
      let first = agreeing f k u n b m₁ q₁ (Halted m q) m₂ q₂ on.2 on.3 has.1 fit₁ fit₂ j.within h d e₁ in
      agreeing f k u n (While x b) m q r on.2 on.3 m₂' q₂' has
      (kept R L laws classes f k u n b m₁ q₁ (Halted m q) has.1 fit₁ d)
      (kept R L laws classes f k u n b m₂ q₂ (Halted on.2 on.3) has.1 fit₂ e₁) j.within first d' e₂)
      (λ not.
      let not' : Below L on.1 a → ⊥ = λ low. not (subst (λ y. Below L y a) (sym (same (inr low)).0) low) in
      both R L laws a w k m₁ m₂ m₂' q₁ q₂ q₂' r h (hidden not)
      (turns_secret f k on.1 n x b m₂ on.2 q₂ on.3 (Halted m₂' q₂') has fit₂ on.6.within not' on.7 on.8))) p.1
  agreeing f k pc n c m₁ q₁ r m₂ q₂ m₂' q₂' has fit₁ fit₂ kp h (WHILE_STOP z clean is j d) e = tt
  agreeing f k pc n c m₁ q₁ r m₂ q₂ m₂' q₂' has fit₁ fit₂ kp h (WHILE_FALSE {e = x} {c = b} z clean) e =
      let p = parts R L classes f pc n (While x b) m₂ q₂ (Halted m₂' q₂') e in
      ⊎_elim
      (λ ends. each_same (WordsAgree R L a) k m₁ m₂ m₁ m₂' q₁ q₂ q₁ q₂' refl refl ends.1 ends.2 h)
      (λ on.
      below_cases L on.1 a
      (λ low. absurd (on.4 ((seen R L laws a w k m₂ m₁ q₂ q₁ fit₂ (agree_back R L a k m₁ m₂ q₁ q₂ h) x on.0 has.0 p.0
      clean on.5 (laws.transitive on.0 on.1 a (label_class L laws k m₂ q₂ fit₂ x on.0 has.0 on.5) on.6.within w
      on.6.right low)).1 ∙ z)))
      (λ not. agree_on R L a k m₁ m₂ m₂' q₁ q₂ q₂' h
      (turns_secret f k on.1 n x b m₂ on.2 q₂ on.3 (Halted m₂' q₂') has fit₂ on.6.within not on.7 on.8))) p.1
  agreeing f k pc n c m₁ q₁ r m₂ q₂ m₂' q₂' has fit₁ fit₂ kp h (WHILE_MARK reads) e = tt
  agreeing f k pc n c m₁ q₁ r m₂ q₂ m₂' q₂' has fit₁ fit₂ kp h
      (LETVAR {q₁ = q} {t = t} {v = v} {e = x} {c = b} {m₁ = m} is j d) e =
      let p = parts R L classes f pc n (Letvar x b) m₂ q₂ (Halted m₂' q₂') e in
      let more = each_more (WordsAgree R L a) L k m₁ m₂ q₁ q₂ fit₁ fit₂ (value x m₁) (value x m₂) v p.1
      (new_agree R L laws a w k m₁ m₂ q₁ q₂ fit₁ fit₂ h x has.0 t p.0 (classes n) v p.1 is p.4 j p.5) h in
      let inner = agreeing (f ++ classes n ∷ []) (k + 1) pc (n + 1) b (m₁ ++ value x m₁ ∷ []) (q₁ ++ v ∷ [])
      (Halted m q) (m₂ ++ value x m₂ ∷ []) (q₂ ++ p.1 ∷ []) p.2 p.3 has.1
      (fit_more L laws k m₁ q₁ fit₁ (value x m₁) v j.within)
      (fit_more L laws k m₂ q₂ fit₂ (value x m₂) p.1 p.5.within) kp more d p.6 in
      each_same (WordsAgree R L a) k (take (length m₁) m) (take (length m₂) p.2) (take (length m₁) m) m₂'
      (take (length q₁) q) (take (length q₂) p.3) (take (length q₁) q) q₂' refl refl p.7 p.8
      (each_less (WordsAgree R L a) k (length m₁) (length q₁) (length m₂) (length q₂) m p.2 q p.3 fit₁.words
      fit₁.labels fit₂.words fit₂.labels inner)
  agreeing f k pc n c m₁ q₁ r m₂ q₂ m₂' q₂' has fit₁ fit₂ kp h (LETVAR_STOP is j d) e = tt

-- The law of noninterference by either rule.
pub monitored_noninterference : MonitoredNoninterference
monitored_noninterference R L classes f pc n c laws kp has a w m₁ m₂ m₁' m₂' q₁ q₂ q₁' q₂' fit₁ fit₂ h d e =
    agreeing R (labelling R L) (labels_lattice R L laws) classes a (labels_class R L a w) f (length f) pc n c m₁ q₁
    (Halted m₁' q₁') m₂ q₂ m₂' q₂' has fit₁ fit₂ (labels_class R L pc kp) h d e
