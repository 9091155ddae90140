-- Agreement, global by global.
use Rattle.std.proofs.Common.{◌≡◌, ◌≢◌, ℕ, ◌+◌, ◌<◌, ◌≤◌, inl, inr, pos, List, length, true, false, refl, sym, ap, ◌∙◌, Option, Some, None, slice_get, slice_index_or, get_or, arith}
use Rattle.std.specs.Global.{Vec}
use Rattle.std.specs.Option.{option_map, option_map_or}
use Rattle.std.proofs.lemmas.Bool.{cases_lt}
use Rattle.std.proofs.lemmas.Option.{same_Some, slice_get-map, slice_get_read, slice_get_within}
use Rattle.vsi_image.specs.Fields.{Global, global, globals}
use Rattle.vsi_lattice.specs.Order.{Lattice, Below}
use Rattle.vsi_scope.specs.Meaning.{Store}
use Rattle.vsi_lattice.specs.Known.{Known}
use Rattle.vsi_store.specs.View.{is_seen}
use Rattle.vsi_leak.specs.Agreement.{AgreeIn}

-- The global at a position, as the code reads it.
pub global_at : (vs : List (Vec ℕ × Vec ℕ)) (i : ℕ) (v : Vec ℕ × Vec ℕ) → i < length vs → v ≡ get_or vs i v →
    slice_get (globals vs) i ≡ Some (global v)
global_at vs i v lt is =
    slice_get-map global vs i ∙ ap (option_map global) (slice_get_read vs (length vs) i v refl lt is)

module _ (known : Known) (L : Lattice) (gs : List Global) (a : ℕ) (m m' : Store) where
  -- Two stores have equal words in each of the first globals that the class sees.
  abbrev pub AgreeBefore : ℕ → Type 0
  AgreeBefore n =
      (i : ℕ) (g : Global) (c : ℕ) → i < n → slice_get gs i ≡ Some g → known g.1 ≡ Some c → Below L c a →
      slice_index_or m i (pos 0) ≡ slice_index_or m' i (pos 0)

  -- A global whose class is at or below the observer's is seen.
  seen_is : (g : Global) (c : ℕ) → known g.1 ≡ Some c → Below L c a → is_seen known L a g.1 ≡ true
  seen_is g c is below = ap (λ o. option_map_or (λ d. L.leq d a) o false) is ∙ below

  -- A global that is seen has a class at or below the observer's.
  class_of : (o : Option ℕ) → option_map_or (λ c. L.leq c a) o false ≡ true → (c : ℕ) × (o ≡ Some c) × Below L c a
  class_of None h = cc
  class_of (Some c) h = (c, refl, h)

  -- One more global agrees if it isn't seen or its words are equal.
  pub agree_more : (n : ℕ) (x : Global) → slice_get gs n ≡ Some x →
      (is_seen known L a x.1 ≡ true → slice_index_or m n (pos 0) ≡ slice_index_or m' n (pos 0)) → AgreeBefore n →
      AgreeBefore (n + 1)
  agree_more n x here equal before i g c lt at is below =
      elim (cases_lt i n) [
        | inl less ↦ before i g c less at is below
        | inr not_less ↦ at_last (omega (arith, lt, not_less))
      ]
    where
      at_last : i ≡ n → slice_index_or m i (pos 0) ≡ slice_index_or m' i (pos 0)
      at_last same =
          let g_is : x ≡ g = same_Some x g (sym here ∙ ap (slice_get gs) (sym same) ∙ at) in
          let seen : is_seen known L a x.1 ≡ true =
          ap (λ (y : Global). is_seen known L a y.1) g_is ∙ seen_is g c is below in
          ap (λ j. slice_index_or m j (pos 0)) same ∙ equal seen
          ∙ sym (ap (λ j. slice_index_or m' j (pos 0)) same)

  -- Stores that agree in as many globals as the image has agree.
  pub agree_all : (n : ℕ) → length gs ≤ n → AgreeBefore n → AgreeIn known L gs a m m'
  agree_all n all h i g c at is below =
      let within = slice_get_within gs i g at in h i g c (omega (arith, within, all)) at is below

  -- Stores with unequal words in a global that is seen don't agree.
  pub apart : (n : ℕ) (x : Global) → slice_get gs n ≡ Some x → is_seen known L a x.1 ≡ true →
      slice_index_or m n (pos 0) ≢ slice_index_or m' n (pos 0) → ¬ (AgreeIn known L gs a m m')
  apart n x here seen unequal h =
      let class = class_of (known x.1) seen in
      unequal (h n x class.0 here class.1 class.2)
