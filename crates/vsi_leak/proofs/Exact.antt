-- Two stores show the leak that their runs show, and no other.
use Rattle.std.proofs.Common.{◌≡◌, ◌≢◌, ◌∙◌, ℕ, length, sym, ap, subst}
use Rattle.vsi_image.specs.declared.instr.Image.{Image}
use Rattle.vsi_lattice.specs.Order.{Lattice}
use Rattle.vsi_scope.specs.Meaning.{Store}
use Rattle.vsi_lattice.specs.Known.{Known}
use Rattle.vsi_compiler.specs.Observation.{AgreeAt}
use Rattle.vsi_store.specs.declared.comparing.RunEnding.{RunEnding}
use Rattle.vsi_store.specs.declared.comparing.RunEnding.TheVariants.{Halted, OutOfBudget}
use Rattle.vsi_leak.specs.declared.check.Sign.{Sign}
use Rattle.vsi_leak.specs.declared.check.Sign.TheVariants.{Words, Endings, Steps}
use Rattle.vsi_leak.specs.Leaks.{EndsSo, ShowNone, TellsApart}
use Rattle.vsi_leak.proofs.Counts.{lasts, one_count, one_end}

-- Two endings are alike: both are out of budget, or both halt after equally many instructions with the same words.
abbrev pub Alike : RunEnding → RunEnding → Type 0
Alike (Halted n words) (Halted n' words') = (n ≡ n') × (words.items ≡ words'.items)
Alike (Halted n words) OutOfBudget = ⊥
Alike OutOfBudget (Halted n words) = ⊥
Alike OutOfBudget OutOfBudget = Unit {0}

-- A run within a budget has one ending.
one_ending : (image : Image) (m : Store) (budget : ℕ) (e e' : RunEnding) → EndsSo image m budget e →
    EndsSo image m budget e' → Alike e e'
one_ending image m budget (Halted n words) (Halted n' words') h h' = (
  one_count image m words.items words'.items n n' h.1 h'.1,
  one_end image m words.items words'.items n n' h.1.ends h'.1.ends,
)
one_ending image m budget (Halted n words) OutOfBudget h h' =
    lasts image m n budget (words.items, h.1.ends) h.0 h'
one_ending image m budget OutOfBudget (Halted n words) h h' =
    lasts image m n budget (words.items, h'.1.ends) h'.0 h
one_ending image m budget OutOfBudget OutOfBudget h h' = tt

module _ (known : Known) (L : Lattice) (image : Image) (a : ℕ) where
  -- Endings that are alike are distinguished by the same signs.
  apart_alike : (s : Sign) (e₁ e₂ e₁' e₂' : RunEnding) → Alike e₁ e₁' → Alike e₂ e₂' →
      TellsApart known L image a s e₁ e₂ → TellsApart known L image a s e₁' e₂'
  apart_alike Words (Halted n w) (Halted k v) (Halted n' w') (Halted k' v') h h' t =
      subst (λ x. ¬ (AgreeAt known L image a x v'.items)) h.1
      (subst (λ x. ¬ (AgreeAt known L image a w.items x)) h'.1 t)
  apart_alike Words (Halted n w) (Halted k v) (Halted n' w') OutOfBudget h h' t = absurd h'
  apart_alike Words (Halted n w) (Halted k v) OutOfBudget e h h' t = absurd h
  apart_alike Words (Halted n w) OutOfBudget e e' h h' t = absurd t
  apart_alike Words OutOfBudget e₂ e e' h h' t = absurd t
  apart_alike Endings (Halted n w) (Halted k v) e e' h h' t = absurd t
  apart_alike Endings (Halted n w) OutOfBudget (Halted n' w') (Halted k v) h h' t = absurd h'
  apart_alike Endings (Halted n w) OutOfBudget (Halted n' w') OutOfBudget h h' t = tt
  apart_alike Endings (Halted n w) OutOfBudget OutOfBudget e h h' t = absurd h
  apart_alike Endings OutOfBudget e₂ e e' h h' t = absurd t
  apart_alike Steps (Halted n w) (Halted k v) (Halted n' w') (Halted k' v') h h' t =
      λ same. t (h.0 ∙ same ∙ sym h'.0)
  apart_alike Steps (Halted n w) (Halted k v) (Halted n' w') OutOfBudget h h' t = absurd h'
  apart_alike Steps (Halted n w) (Halted k v) OutOfBudget e h h' t = absurd h
  apart_alike Steps (Halted n w) OutOfBudget e e' h h' t = absurd t
  apart_alike Steps OutOfBudget e₂ e e' h h' t = absurd t

module _ (known : Known) (L : Lattice) (image : Image) (budget : ℕ) (s : Sign) (a : ℕ) (m m' : Store) where
  -- A first list of words without one per global shows nothing.
  pub wrong_first : length m ≢ length image.globals.items → ShowNone known L image budget s a m m'
  wrong_first wrong leak of is = wrong (sym (ap length of.first) ∙ is.first_store)

  -- Neither does such a second list.
  pub wrong_second : length m' ≢ length image.globals.items → ShowNone known L image budget s a m m'
  wrong_second wrong leak of is = wrong (sym (ap length of.second) ∙ is.second_store)

  -- Stores that disagree show nothing.
  pub disagree : ¬ (AgreeAt known L image a m m') → ShowNone known L image budget s a m m'
  disagree differ leak of is =
      differ
      (subst (λ x. AgreeAt known L image a m x) of.second
      (subst (λ x. AgreeAt known L image a x leak.second.store.items) of.first
      (subst (λ c. AgreeAt known L image c leak.first.store.items leak.second.store.items) of.class is.agree)))

  -- Stores whose runs can't be told apart show nothing.
  pub not_apart : (e e' : RunEnding) → EndsSo image m budget e → EndsSo image m' budget e' →
      ¬ (TellsApart known L image a s e e') → ShowNone known L image budget s a m m'
  not_apart e e' ends ends' same leak of is =
      let first = one_ending image m budget leak.first.ending e
      (subst (λ x. EndsSo image x budget leak.first.ending) of.first is.first_end) ends in
      let second = one_ending image m' budget leak.second.ending e'
      (subst (λ x. EndsSo image x budget leak.second.ending) of.second is.second_end) ends' in
      same
      (apart_alike known L image a s leak.first.ending leak.second.ending e e' first second
      (subst (λ x. TellsApart known L image a x leak.first.ending leak.second.ending) of.sign
      (subst (λ c. TellsApart known L image c leak.sign leak.first.ending leak.second.ending) of.class is.apart)))
