-- Two labelled stores, location by location.
use Rattle.std.proofs.Common.{◌≡◌, ℕ, ◌+◌, ◌<◌, [], ◌∷◌, ◌++◌, length, take, set, get_or, ℤ, pos, refl, sym, ap, ◌∙◌, subst, ⊎_elim, arith, inl, inr}
use Rattle.std.specs.Prelude.{◌⊎◌}
use Rattle.std.proofs.lemmas.List.{get_or_append_left, get_or-set_same, get_or-set_other, get_or-take, get_or_push}
use Rattle.std.proofs.lemmas.Bool.{cases_eq, cases_lt}
use Rattle.vsi_lattice.specs.Order.{Lattice, Below}
use Rattle.vsi_scope.specs.Meaning.{Store}
use Rattle.vsi_types.specs.Typing.{Locations}
use Rattle.vsi_steps.specs.declared.labels.Rule.{Rule}
use Rattle.vsi_steps.specs.Labels.{IsLabelled, IsMark, StoresAgree}

-- A relation of two labelled words.
abbrev pub Words : Type 1
Words = ℕ → ℤ → ℕ → ℤ → Type 0

-- The labels and words of each location are related.
abbrev pub Each : Words → ℕ → Store → Locations → Store → Locations → Type 0
Each P k m q m' q' = (l : ℕ) → l < k → P (get_or q l 0) (get_or m l (pos 0)) (get_or q' l 0) (get_or m' l (pos 0))

-- Related words, replaced by equal ones.
related : (P : Words) (t t₁ t' t₁' : ℕ) (x x₁ x' x₁' : ℤ) → t ≡ t₁ → x ≡ x₁ → t' ≡ t₁' → x' ≡ x₁' →
    P t₁ x₁ t₁' x₁' → P t x t' x'
related P t t₁ t' t₁' x x₁ x' x₁' e f e' f' h =
    subst (λ y. P y x t' x') (sym e) (subst (λ y. P t₁ y t' x') (sym f)
    (subst (λ y. P t₁ x₁ y x') (sym e') (subst (λ y. P t₁ x₁ t₁' y) (sym f') h)))

module _ (P : Words) where
  -- Equal stores.
  pub each_same : (k : ℕ) (m₁ m₂ m₁' m₂' : Store) (q₁ q₂ q₁' q₂' : Locations) → m₁' ≡ m₁ → q₁' ≡ q₁ → m₂' ≡ m₂ →
      q₂' ≡ q₂ → Each P k m₁ q₁ m₂ q₂ → Each P k m₁' q₁' m₂' q₂'
  each_same k m₁ m₂ m₁' m₂' q₁ q₂ q₁' q₂' e f e' f' h =
      subst (λ y. Each P k y q₁' m₂' q₂') (sym e) (subst (λ y. Each P k m₁ y m₂' q₂') (sym f)
      (subst (λ y. Each P k m₁ q₁ y q₂') (sym e') (subst (λ y. Each P k m₁ q₁ m₂ y) (sym f') h)))

  -- Stores without the last words.
  pub each_less : (k i j i' j' : ℕ) (m m' : Store) (q q' : Locations) → i ≡ k → j ≡ k → i' ≡ k → j' ≡ k →
      Each P (k + 1) m q m' q' → Each P k (take i m) (take j q) (take i' m') (take j' q')
  each_less k i j i' j' m m' q q' is js is' js' h l lt =
      let in' = λ (n : ℕ) (e : n ≡ k). subst (λ x. l < x) (sym e) lt in
      related P (get_or (take j q) l 0) (get_or q l 0) (get_or (take j' q') l 0) (get_or q' l 0)
      (get_or (take i m) l (pos 0)) (get_or m l (pos 0)) (get_or (take i' m') l (pos 0)) (get_or m' l (pos 0))
      (get_or-take j q l 0 (in' j js)) (get_or-take i m l (pos 0) (in' i is))
      (get_or-take j' q' l 0 (in' j' js')) (get_or-take i' m' l (pos 0) (in' i' is')) (h l (omega arith))

  -- Stores with one more word and label on each side.
  pub each_more : (L : Lattice) (k : ℕ) (m m' : Store) (q q' : Locations) → IsLabelled L k m q →
      IsLabelled L k m' q' → (x x' : ℤ) (v v' : ℕ) → P v x v' x' → Each P k m q m' q' →
      Each P (k + 1) (m ++ x ∷ []) (q ++ v ∷ []) (m' ++ x' ∷ []) (q' ++ v' ∷ [])
  each_more L k m m' q q' fit fit' x x' v v' new h l lt =
      ⊎_elim
      (λ in'.
      let inside = λ (n : ℕ) (e : n ≡ k). subst (λ y. l < y) (sym e) in' in
      related P (get_or (q ++ v ∷ []) l 0) (get_or q l 0) (get_or (q' ++ v' ∷ []) l 0) (get_or q' l 0)
      (get_or (m ++ x ∷ []) l (pos 0)) (get_or m l (pos 0)) (get_or (m' ++ x' ∷ []) l (pos 0)) (get_or m' l (pos 0))
      (get_or_append_left q (v ∷ []) 0 l (inside (length q) fit.labels))
      (get_or_append_left m (x ∷ []) (pos 0) l (inside (length m) fit.words))
      (get_or_append_left q' (v' ∷ []) 0 l (inside (length q') fit'.labels))
      (get_or_append_left m' (x' ∷ []) (pos 0) l (inside (length m') fit'.words)) (h l in'))
      (λ out.
      let at : k ≡ l = omega arith in
      related P (get_or (q ++ v ∷ []) l 0) v (get_or (q' ++ v' ∷ []) l 0) v'
      (get_or (m ++ x ∷ []) l (pos 0)) x (get_or (m' ++ x' ∷ []) l (pos 0)) x'
      (get_or_push q v 0 l (fit.labels ∙ at)) (get_or_push m x (pos 0) l (fit.words ∙ at))
      (get_or_push q' v' 0 l (fit'.labels ∙ at)) (get_or_push m' x' (pos 0) l (fit'.words ∙ at)) new)
      (cases_lt l k)

  -- Stores with the word and label of one location replaced on each side.
  pub each_set : (L : Lattice) (k : ℕ) (m m' : Store) (q q' : Locations) → IsLabelled L k m q →
      IsLabelled L k m' q' → (i : ℕ) → i < k → (x x' : ℤ) (v v' : ℕ) → P v x v' x' → Each P k m q m' q' →
      Each P k (set m i x) (set q i v) (set m' i x') (set q' i v')
  each_set L k m m' q q' fit fit' i lt x x' v v' new h l lt' =
      let inside = λ (n : ℕ) (e : n ≡ k). subst (λ y. i < y) (sym e) lt in
      ⊎_elim
      (λ is. related P (get_or (set q i v) l 0) v (get_or (set q' i v') l 0) v'
      (get_or (set m i x) l (pos 0)) x (get_or (set m' i x') l (pos 0)) x'
      (ap (λ y. get_or (set q i v) y 0) is ∙ get_or-set_same q i v 0 (inside (length q) fit.labels))
      (ap (λ y. get_or (set m i x) y (pos 0)) is ∙ get_or-set_same m i x (pos 0) (inside (length m) fit.words))
      (ap (λ y. get_or (set q' i v') y 0) is ∙ get_or-set_same q' i v' 0 (inside (length q') fit'.labels))
      (ap (λ y. get_or (set m' i x') y (pos 0)) is ∙ get_or-set_same m' i x' (pos 0) (inside (length m') fit'.words))
      new)
      (λ other. related P (get_or (set q i v) l 0) (get_or q l 0) (get_or (set q' i v') l 0) (get_or q' l 0)
      (get_or (set m i x) l (pos 0)) (get_or m l (pos 0)) (get_or (set m' i x') l (pos 0)) (get_or m' l (pos 0))
      (get_or-set_other q i l v 0 other) (get_or-set_other m i l x (pos 0) other)
      (get_or-set_other q' i l v' 0 other) (get_or-set_other m' i l x' (pos 0) other) (h l lt'))
      (cases_eq l i)

module _ (R : Rule) (L : Lattice) (a : ℕ) where
  -- A word that the class a doesn't see may change: it keeps the mark, and unless it has the mark then, a label at or
  -- below a before or after is kept, and so is the word.
  abbrev pub WordHides : ℕ → ℤ → ℕ → ℤ → Type 0
  WordHides t x t' x' =
      (IsMark R L t → IsMark R L t')
      × ((IsMark R L t' → ⊥) → Below L t a ⊎ Below L t' a → (t ≡ t') × (x ≡ x'))

  -- The words of each location do.
  abbrev pub Hides : ℕ → Store → Locations → Store → Locations → Type 0
  Hides k m q m' q' = Each WordHides k m q m' q'

  -- A store that isn't changed.
  pub hides_self : (k : ℕ) (m : Store) (q : Locations) → Hides k m q m q
  hides_self k m q l lt = (λ mark. mark, λ clean side. (refl, refl))

  -- Two changes, one after the other.
  pub hides_on : (k : ℕ) (m₁ m₂ m₃ : Store) (q₁ q₂ q₃ : Locations) → Hides k m₁ q₁ m₂ q₂ → Hides k m₂ q₂ m₃ q₃ →
      Hides k m₁ q₁ m₃ q₃
  hides_on k m₁ m₂ m₃ q₁ q₂ q₃ h g l lt =
      let r = h l lt in
      let s = g l lt in (
        λ mark. s.0 (r.0 mark),
        λ clean side. ⊎_elim
            (λ low. let r' = r.1 (λ mark. clean (s.0 mark)) (inl low) in
            let s' = s.1 clean (inl (subst (λ t. Below L t a) r'.0 low)) in (r'.0 ∙ s'.0, r'.1 ∙ s'.1))
            (λ low. let s' = s.1 clean (inr low) in
            let r' = r.1 (λ mark. clean (s.0 mark)) (inr (subst (λ t. Below L t a) (sym s'.0) low)) in
            (r'.0 ∙ s'.0, r'.1 ∙ s'.1))
            side,
      )

  -- Agreement holds in both directions.
  pub agree_back : (k : ℕ) (m m' : Store) (q q' : Locations) → StoresAgree R L k a m q m' q' →
      StoresAgree R L k a m' q' m q
  agree_back k m m' q q' h l lt clean clean' side =
      let r = h l lt clean' clean (⊎_elim (λ x. inr x) (λ x. inl x) side) in (sym r.0, sym r.1)

  -- Stores that agree still do after changes of what isn't seen on the second side.
  pub agree_on : (k : ℕ) (m₁ m₂ m₂' : Store) (q₁ q₂ q₂' : Locations) → StoresAgree R L k a m₁ q₁ m₂ q₂ →
      Hides k m₂ q₂ m₂' q₂' → StoresAgree R L k a m₁ q₁ m₂' q₂'
  agree_on k m₁ m₂ m₂' q₁ q₂ q₂' h g l lt clean clean' side =
      let s = g l lt in
      ⊎_elim
      (λ low. let r' = h l lt clean (λ mark. clean' (s.0 mark)) (inl low) in
      let s' = s.1 clean' (inl (subst (λ t. Below L t a) r'.0 low)) in (r'.0 ∙ s'.0, r'.1 ∙ s'.1))
      (λ low. let s' = s.1 clean' (inr low) in
      let r' = h l lt clean (λ mark. clean' (s.0 mark)) (inr (subst (λ t. Below L t a) (sym s'.0) low)) in
      (r'.0 ∙ s'.0, r'.1 ∙ s'.1))
      side

  -- And after such changes on both sides.
  pub agree_both : (k : ℕ) (m₁ m₁' m₂ m₂' : Store) (q₁ q₁' q₂ q₂' : Locations) → StoresAgree R L k a m₁ q₁ m₂ q₂ →
      Hides k m₁ q₁ m₁' q₁' → Hides k m₂ q₂ m₂' q₂' → StoresAgree R L k a m₁' q₁' m₂' q₂'
  agree_both k m₁ m₁' m₂ m₂' q₁ q₁' q₂ q₂' h first second =
      agree_back k m₂' m₁' q₂' q₁' (agree_on k m₂' m₁ m₁' q₂' q₁ q₁'
      (agree_back k m₁ m₂' q₁ q₂' (agree_on k m₁ m₂ m₂' q₁ q₂ q₂' h second)) first)
