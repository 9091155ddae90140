-- An evaluation has one list of steps, and a cut run gives the beginning of it.
use Rattle.std.proofs.Common.{◌≡◌, ◌≢◌, ℕ, ◌+◌, List, [], ◌∷◌, ◌++◌, length, take, set, pos, refl, sym, ap, ◌∙◌, subst, ⊎_elim, inl, inr, append_assoc}
use Rattle.std.specs.Prelude.{◌⊎◌}
use Rattle.vsi_scope.specs.Language.{Command, Skip, Assign, Sequence, If, While, Letvar}
use Rattle.vsi_scope.specs.Meaning.{Store, value}
use Rattle.vsi_steps.specs.declared.run.Step.{Step}
use Rattle.vsi_steps.specs.Sites.{sites}
use Rattle.vsi_steps.specs.Steps.{step, IsStep, Spells, NOTHING, ASSIGN, COMPOSE, IF_TRUE, IF_FALSE, WHILE_TRUE, WHILE_FALSE, LETVAR, BEFORE, IN_FIRST, IN_SECOND, IN_TRUE, IN_FALSE, IN_TURN, IN_TURNS, IN_LETVAR}
use Rattle.vsi_steps.specs.Laws.{OneSpelling, BeginningIsPrefix}

-- The parts of the steps of each form of command.
abbrev Parts : ℕ → Command → Store → List Step → Store → Type 0
Parts n Skip m es m' = (es ≡ []) × (m' ≡ m)
Parts n (Assign l s e) m es m' = (es ≡ step n e m ∷ []) × (m' ≡ set m l (value e m))
Parts n (Sequence a b) m es m' =
    (m₁ : Store) × (xs : List Step) × (ys : List Step) × Spells n a m xs m₁ × Spells (n + sites a) b m₁ ys m'
    × (es ≡ xs ++ ys)
Parts n (If e a b) m es m' =
    (xs : List Step) × (es ≡ step n e m ∷ xs)
    × (((value e m ≢ pos 0) × Spells (n + 1) a m xs m')
    ⊎ ((value e m ≡ pos 0) × Spells (n + 1 + sites a) b m xs m'))
Parts n (While e c) m es m' =
    ((value e m ≡ pos 0) × (es ≡ step n e m ∷ []) × (m' ≡ m))
    ⊎ ((m₁ : Store) × (xs : List Step) × (ys : List Step) × (value e m ≢ pos 0) × Spells (n + 1) c m xs m₁
    × Spells n (While e c) m₁ ys m' × (es ≡ step n e m ∷ (xs ++ ys)))
Parts n (Letvar e c) m es m' =
    (m₁ : Store) × (xs : List Step) × Spells (n + 1) c (m ++ value e m ∷ []) xs m₁ × (es ≡ step n e m ∷ xs)
    × (m' ≡ take (length m) m₁)

-- The steps of a command have their parts.
parts : (n : ℕ) (c : Command) (m : Store) (es : List Step) (m' : Store) → Spells n c m es m' → Parts n c m es m'
parts n c m es m' NOTHING = (refl, refl)
parts n c m es m' ASSIGN = (refl, refl)
parts n c m es m' (COMPOSE {m₁ = m₁} {es = xs} {fs = ys} d d') = (m₁, xs, ys, d, d', refl)
parts n c m es m' (IF_TRUE {es = xs} z d) = (xs, refl, inl (z, d))
parts n c m es m' (IF_FALSE {es = xs} z d) = (xs, refl, inr (z, d))
parts n c m es m' (WHILE_TRUE {m₁ = m₁} {es = xs} {fs = ys} z d d') = inr (m₁, xs, ys, z, d, d', refl)
parts n c m es m' (WHILE_FALSE z) = inl (z, refl, refl)
parts n c m es m' (LETVAR {m₁ = m₁} {es = xs} d) = (m₁, xs, d, refl, refl)

-- The store and the steps of a command are determined.
one : (n : ℕ) (c : Command) (m : Store) (es : List Step) (m₁ : Store) (fs : List Step) (m₂ : Store) →
    Spells n c m es m₁ → Spells n c m fs m₂ → (es ≡ fs) × (m₁ ≡ m₂)
one n c m es m₁ fs m₂ NOTHING k = let p = parts n Skip m fs m₂ k in (sym p.0, sym p.1)
one n c m es m₁ fs m₂ (ASSIGN {l = l} {s = s} {e = e}) k =
    let p = parts n (Assign l s e) m fs m₂ k in (sym p.0, sym p.1)
one n c m es m₁ fs m₂ (COMPOSE {a = a} {b = b} {m₁ = x} {es = xs} {fs = ys} d d') k =
    let p = parts n (Sequence a b) m fs m₂ k in
    let r = one n a m xs x p.1 p.0 d p.3 in
    let s = one (n + sites a) b x ys m₁ p.2 m₂ d' (subst (λ y. Spells (n + sites a) b y p.2 m₂) (sym r.1) p.4) in
    (ap (λ y. y ++ ys) r.0 ∙ ap (λ y. p.1 ++ y) s.0 ∙ sym p.5, s.1)
one n c m es m₁ fs m₂ (IF_TRUE {e = e} {a = a} {b = b} {es = xs} z d) k =
    let p = parts n (If e a b) m fs m₂ k in
    ⊎_elim
    (λ y. let r = one (n + 1) a m xs m₁ p.0 m₂ d y.1 in (ap (λ l. step n e m ∷ l) r.0 ∙ sym p.1, r.1))
    (λ y. absurd (z y.0)) p.2
one n c m es m₁ fs m₂ (IF_FALSE {e = e} {a = a} {b = b} {es = xs} z d) k =
    let p = parts n (If e a b) m fs m₂ k in
    ⊎_elim
    (λ y. absurd (y.0 z))
    (λ y. let r = one (n + 1 + sites a) b m xs m₁ p.0 m₂ d y.1 in
    (ap (λ l. step n e m ∷ l) r.0 ∙ sym p.1, r.1)) p.2
one n c m es m₁ fs m₂ (WHILE_TRUE {e = e} {c = c'} {m₁ = x} {es = xs} {fs = ys} z d d') k =
    ⊎_elim
    (λ y. absurd (z y.0))
    (λ y. let r = one (n + 1) c' m xs x y.1 y.0 d y.4 in
    let s = one n (While e c') x ys m₁ y.2 m₂ d' (subst (λ w. Spells n (While e c') w y.2 m₂) (sym r.1) y.5) in
    (ap (λ l. step n e m ∷ (l ++ ys)) r.0 ∙ ap (λ l. step n e m ∷ (y.1 ++ l)) s.0 ∙ sym y.6, s.1))
    (parts n (While e c') m fs m₂ k)
one n c m es m₁ fs m₂ (WHILE_FALSE {e = e} {c = c'} z) k =
    ⊎_elim
    (λ y. (sym y.1, sym y.2))
    (λ y. absurd (y.3 z))
    (parts n (While e c') m fs m₂ k)
one n c m es m₁ fs m₂ (LETVAR {e = e} {c = c'} {m₁ = x} {es = xs} d) k =
    let p = parts n (Letvar e c') m fs m₂ k in
    let r = one (n + 1) c' (m ++ value e m ∷ []) xs x p.1 p.0 d p.2 in
    (ap (λ l. step n e m ∷ l) r.0 ∙ sym p.3, ap (take (length m)) r.1 ∙ sym p.4)

-- The law that an evaluation has only one list of steps.
pub one_spelling : OneSpelling
one_spelling n c m m₁ m₂ es fs d k = (one n c m es m₁ fs m₂ d k).0

-- A list with a first element isn't empty.
some : (x : Step) (xs ys : List Step) → ys ≡ x ∷ xs → ys ≢ []
some x xs ys e h = subst (λ l. elim l as (λ _. Type 0) [ [] ↦ ⊥ | y ∷ l' ↦ Unit {0} ]) (sym e ∙ h) tt

-- A list whose first part isn't empty isn't.
some_left : (xs ys : List Step) → xs ≢ [] → xs ++ ys ≢ []
some_left [] ys h = absurd (h refl)
some_left (x ∷ xs) ys h = some x (xs ++ ys) (x ∷ (xs ++ ys)) refl

-- A command that begins with a step of its own has steps.
first_step : (n : ℕ) (c : Command) (m : Store) (es : List Step) (m' : Store) → IsStep c → Parts n c m es m' → es ≢ []
first_step n Skip m es m' is p = absurd is
first_step n (Assign l s e) m es m' is p = some (step n e m) [] es p.0
first_step n (Sequence a b) m es m' is p = absurd is
first_step n (If e a b) m es m' is p = some (step n e m) p.0 es p.1
first_step n (While e c) m es m' is p =
    ⊎_elim (λ y. some (step n e m) [] es y.1) (λ y. some (step n e m) (y.1 ++ y.2) es y.6) p
first_step n (Letvar e c) m es m' is p = some (step n e m) p.1 es p.3

-- The rest of the steps of a run that was cut.
abbrev Rest : List Step → List Step → Type 0
Rest es fs = (rest : List Step) × (es ≡ fs ++ rest) × (rest ≢ [])

-- The rest after a first step.
rest_after : (x : Step) (es xs fs : List Step) → es ≡ x ∷ xs → Rest xs fs → Rest es (x ∷ fs)
rest_after x es xs fs e r = (r.0, e ∙ ap (λ l. x ∷ l) r.1, r.2)

-- The rest after two lists of steps.
rest_both : (xs xs' ys fs : List Step) → xs' ≡ xs → Rest ys fs → Rest (xs' ++ ys) (xs ++ fs)
rest_both xs xs' ys fs e r =
    (r.0, ap (λ l. l ++ ys) e ∙ ap (λ l. xs ++ l) r.1 ∙ sym (append_assoc xs fs r.0), r.2)

-- The rest in the first of two lists.
rest_first : (xs ys fs : List Step) → Rest xs fs → Rest (xs ++ ys) fs
rest_first xs ys fs r =
    (r.0 ++ ys, ap (λ l. l ++ ys) r.1 ∙ append_assoc fs r.0 ys, some_left r.0 ys r.2)

-- The law that a cut run gives the beginning of the steps.
pub beginning_is_prefix : BeginningIsPrefix
beginning_is_prefix n c m m' es fs (BEFORE is) k = (es, refl, first_step n c m es m' is (parts n c m es m' k))
beginning_is_prefix n c m m' es fs (IN_FIRST {a = a} {b = b} d) k =
    let p = parts n (Sequence a b) m es m' k in
    subst (λ l. Rest l fs) (sym p.5)
    (rest_first p.1 p.2 fs (beginning_is_prefix n a m p.0 p.1 fs d p.3))
beginning_is_prefix n c m m' es fs (IN_SECOND {a = a} {b = b} {m₁ = x} {es = xs} {fs = ys} d d') k =
    let p = parts n (Sequence a b) m es m' k in
    let r = one n a m xs x p.1 p.0 d p.3 in
    let s = beginning_is_prefix (n + sites a) b x m' p.2 ys d'
    (subst (λ w. Spells (n + sites a) b w p.2 m') (sym r.1) p.4) in
    subst (λ l. Rest l (xs ++ ys)) (sym p.5) (rest_both xs p.1 p.2 ys (sym r.0) s)
beginning_is_prefix n c m m' es fs (IN_TRUE {e = e} {a = a} {b = b} {es = xs} z d) k =
    let p = parts n (If e a b) m es m' k in
    rest_after (step n e m) es p.0 xs p.1
    (⊎_elim (λ y. beginning_is_prefix (n + 1) a m m' p.0 xs d y.1) (λ y. absurd (z y.0)) p.2)
beginning_is_prefix n c m m' es fs (IN_FALSE {e = e} {a = a} {b = b} {es = xs} z d) k =
    let p = parts n (If e a b) m es m' k in
    rest_after (step n e m) es p.0 xs p.1
    (⊎_elim (λ y. absurd (y.0 z)) (λ y. beginning_is_prefix (n + 1 + sites a) b m m' p.0 xs d y.1) p.2)
beginning_is_prefix n c m m' es fs (IN_TURN {e = e} {c = c'} {es = xs} z d) k =
    ⊎_elim (λ y. absurd (z y.0))
    (λ y. rest_after (step n e m) es (y.1 ++ y.2) xs y.6
    (rest_first y.1 y.2 xs (beginning_is_prefix (n + 1) c' m y.0 y.1 xs d y.4)))
    (parts n (While e c') m es m' k)
beginning_is_prefix n c m m' es fs (IN_TURNS {e = e} {c = c'} {m₁ = x} {es = xs} {fs = ys} z d d') k =
    ⊎_elim (λ y. absurd (z y.0))
    (λ y. let r = one (n + 1) c' m xs x y.1 y.0 d y.4 in
    rest_after (step n e m) es (y.1 ++ y.2) (xs ++ ys) y.6
    (rest_both xs y.1 y.2 ys (sym r.0) (beginning_is_prefix n (While e c') x m' y.2 ys d'
    (subst (λ w. Spells n (While e c') w y.2 m') (sym r.1) y.5))))
    (parts n (While e c') m es m' k)
beginning_is_prefix n c m m' es fs (IN_LETVAR {e = e} {c = c'} {es = xs} d) k =
    let p = parts n (Letvar e c') m es m' k in
    rest_after (step n e m) es p.1 xs p.3
    (beginning_is_prefix (n + 1) c' (m ++ value e m ∷ []) p.0 p.1 xs d p.2)
