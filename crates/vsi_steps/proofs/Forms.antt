-- The parts of a run by either rule, of each form of command.
use Rattle.std.proofs.Common.{◌≡◌, ◌≢◌, ℕ, ◌+◌, [], ◌∷◌, ◌++◌, length, take, set, pos, refl, inl, inr}
use Rattle.std.specs.Prelude.{◌⊎◌, slice_index}
use Rattle.vsi_lattice.specs.Order.{Lattice, Below, IsJoin}
use Rattle.vsi_scope.specs.Language.{Expression, Command, Skip, Assign, Sequence, If, While, Letvar, letvars}
use Rattle.vsi_scope.specs.Meaning.{Store, value}
use Rattle.vsi_types.specs.Typing.{Locations}
use Rattle.vsi_steps.specs.declared.labels.Rule.{Rule}
use Rattle.vsi_steps.specs.Labels.{HasLabel, IsStored, IsMark, ReadsNoMark}
use Rattle.vsi_steps.specs.Monitor.{Outcome, Halted, Stopped, Monitored, NOTHING, ASSIGN, UPGRADE, MARK, COMPOSE, COMPOSE_STOP, IF_TRUE, IF_FALSE, IF_MARK, WHILE_TRUE, WHILE_STOP, WHILE_FALSE, WHILE_MARK, LETVAR, LETVAR_STOP}
use Rattle.vsi_steps.proofs.Computing.{IfHalted}
use Rattle.vsi_steps.proofs.Marks.{top_mark}

module _ (R : Rule) (L : Lattice) where
  -- An assignment gives the word of its expression the label v: the mark, or the label of what is stored.
  abbrev pub GivesLabel : Locations → ℕ → ℕ → Expression → ℕ → Type 0
  GivesLabel q pc class e v = IsMark R L v ⊎ ((t : ℕ) × HasLabel L q e t × IsStored L t pc class v)

  module _ (classes : ℕ → ℕ) where
    -- The parts of a run of a command that halts.
    abbrev pub Parts : Locations → ℕ → ℕ → Command → Store → Locations → Store → Locations → Type 0
    Parts f pc n Skip m q m' q' = (m' ≡ m) × (q' ≡ q)
    Parts f pc n (Assign l s e) m q m' q' =
        (v : ℕ) × GivesLabel q pc (slice_index f l) e v × (m' ≡ set m l (value e m)) × (q' ≡ set q l v)
    Parts f pc n (Sequence a b) m q m' q' =
        (m₁ : Store) × (q₁ : Locations) × Monitored R L classes f pc n a m q (Halted m₁ q₁)
        × Monitored R L classes f pc (n + letvars a) b m₁ q₁ (Halted m' q')
    Parts f pc n (If e a b) m q m' q' =
        (t : ℕ) × (u : ℕ) × ReadsNoMark R L q e × HasLabel L q e t × IsJoin L.count (Below L) pc t u
        × (((value e m ≢ pos 0) × Monitored R L classes f u n a m q (Halted m' q'))
        ⊎ ((value e m ≡ pos 0) × Monitored R L classes f u (n + letvars a) b m q (Halted m' q')))
    Parts f pc n (While e c) m q m' q' =
        ReadsNoMark R L q e
        × (((value e m ≡ pos 0) × (m' ≡ m) × (q' ≡ q))
        ⊎ ((t : ℕ) × (u : ℕ) × (m₁ : Store) × (q₁ : Locations) × (value e m ≢ pos 0) × HasLabel L q e t
        × IsJoin L.count (Below L) pc t u × Monitored R L classes f u n c m q (Halted m₁ q₁)
        × Monitored R L classes f u n (While e c) m₁ q₁ (Halted m' q')))
    Parts f pc n (Letvar e c) m q m' q' =
        (t : ℕ) × (v : ℕ) × (m₁ : Store) × (q₁ : Locations) × HasLabel L q e t
        × IsJoin L.count (Below L) t (classes n) v
        × Monitored R L classes (f ++ classes n ∷ []) pc (n + 1) c (m ++ value e m ∷ []) (q ++ v ∷ []) (Halted m₁ q₁)
        × (m' ≡ take (length m) m₁) × (q' ≡ take (length q) q₁)

    -- A run that halts has its parts.
    pub parts : (f : Locations) (pc n : ℕ) (c : Command) (m : Store) (q : Locations) (r : Outcome) →
        Monitored R L classes f pc n c m q r → IfHalted r (λ m' q'. Parts f pc n c m q m' q')
    parts f pc n c m q r NOTHING = (refl, refl)
    parts f pc n c m q r (ASSIGN {t = t} {v = v} up has is) = (v, inr (t, has, is), refl, refl)
    parts f pc n c m q r (UPGRADE by not) = tt
    parts f pc n c m q r (MARK by not) = (L.top, inl (top_mark R L by), refl, refl)
    parts f pc n c m q (Halted m' q') (COMPOSE {q₁ = q₁} {m₁ = m₁} d d') = (m₁, q₁, d, d')
    parts f pc n c m q (Stopped x) (COMPOSE d d') = tt
    parts f pc n c m q r (COMPOSE_STOP d) = tt
    parts f pc n c m q (Halted m' q') (IF_TRUE {t = t} {u = u} z clean has is d) = (t, u, clean, has, is, inl (z, d))
    parts f pc n c m q (Stopped x) (IF_TRUE z clean has is d) = tt
    parts f pc n c m q (Halted m' q') (IF_FALSE {t = t} {u = u} z clean has is d) = (t, u, clean, has, is, inr (z, d))
    parts f pc n c m q (Stopped x) (IF_FALSE z clean has is d) = tt
    parts f pc n c m q r (IF_MARK reads) = tt
    parts f pc n c m q (Halted m' q') (WHILE_TRUE {q₁ = q₁} {t = t} {u = u} {m₁ = m₁} z clean has is d d') =
        (clean, inr (t, u, m₁, q₁, z, has, is, d, d'))
    parts f pc n c m q (Stopped x) (WHILE_TRUE z clean has is d d') = tt
    parts f pc n c m q r (WHILE_STOP z clean has is d) = tt
    parts f pc n c m q r (WHILE_FALSE z clean) = (clean, inl (z, refl, refl))
    parts f pc n c m q r (WHILE_MARK reads) = tt
    parts f pc n c m q r (LETVAR {q₁ = q₁} {t = t} {v = v} {m₁ = m₁} has is d) =
        (t, v, m₁, q₁, has, is, d, refl, refl)
    parts f pc n c m q r (LETVAR_STOP has is d) = tt
